use Rattle.std.proofs.Common.{◌∙◌, List, map, subst, sym}
use Rattle.std.specs.Borrow.{Bor}
use Rattle.std.proofs.lemmas.Result.{IfOk-weaker}
use Rattle.clap.specs.Words.{Text, all_of, found_of, rows_of}
use Rattle.clap.proofs.WalkLemmas.{raw_values-rows}
use Rattle.cpm_command_line.specs.DiskLine.{ReadsWords}
use Rattle.cpm_command_line.proofs.EntryLemmas.{all_there, one_there, one_word, some_before, some_image}
use Rattle.cpm_command_line.proofs.entries.texts_of.Goals as goal

pub unwrap-requires : goal.unwrap-requires
unwrap-requires c =
    let all = c.get_strs.ensures ∙ raw_values-rows (found_of c.args.matches.now) c.args.id.now in
    some_before (λ s. map (λ v. v.now) s.now) c.get_strs.result _ all (all_there c.args.id.now (rows_of (found_of c.args.matches.now)) c.requires)

pub returns : goal.returns
returns c =
    let all = c.get_strs.ensures ∙ raw_values-rows (found_of c.args.matches.now) c.args.id.now in
    let there = some_image (λ s. map (λ v. v.now) s.now) c.get_strs.result _ c.unwrap.result all c.unwrap.ensures in
    let reads : ReadsWords (all_of c.args.id.now (rows_of (found_of c.args.matches.now))) c.unwrap.result.now =
    (there, one_word _ (one_there c.args.id.now (rows_of (found_of c.args.matches.now)) _ c.requires there)) in
    IfOk-weaker c.from_slice.result _ _
    (λ v h. subst (λ (ws : List (Bor Text)). ReadsWords (all_of c.args.id.now (rows_of (found_of c.args.matches.now))) ws) (sym h) reads) c.from_slice.ensures.items
