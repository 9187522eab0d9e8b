use Rattle.std.proofs.Common.{◌∙◌, [], List, Option, ap, map, subst, sym, unwrap_or}
use Rattle.std.specs.Borrow.{Bor}
use Rattle.std.proofs.lemmas.Result.{IfOk-weaker}
use Rattle.clap.specs.Words.{Text, all_of, found_of, rows_of}
use Rattle.clap.proofs.WalkLemmas.{raw_values-rows}
use Rattle.cpm_command_line.specs.CommandLine.{ReadsWordsIfAny}
use Rattle.cpm_command_line.proofs.entries.texts_if_any.Goals as goal

pub returns-in-Some : goal.returns-in-Some
returns-in-Some c =
    let all = c.in-Some.ensures ∙ raw_values-rows (found_of c.args.matches.now) c.args.id.now in
    let reads : ReadsWordsIfAny (all_of c.args.id.now (rows_of (found_of c.args.matches.now))) c.in-Some.texts.now =
    ap (λ (o : Option (List Text)). unwrap_or o []) (sym all) in
    IfOk-weaker c.from_slice.result _ _
    (λ v h. subst (λ (ws : List (Bor Text)). ReadsWordsIfAny (all_of c.args.id.now (rows_of (found_of c.args.matches.now))) ws) (sym h) reads)
    c.from_slice.ensures.items

pub returns-in-None : goal.returns-in-None
returns-in-None c =
    let all = c.in-None.ensures ∙ raw_values-rows (found_of c.args.matches.now) c.args.id.now in
    ap (λ (o : Option (List Text)). unwrap_or o []) (sym all) ∙ ap (map (λ (w : Bor Text). w.now)) (sym c.new.ensures.items)
