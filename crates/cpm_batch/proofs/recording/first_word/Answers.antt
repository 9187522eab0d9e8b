use Rattle.std.proofs.Common.{◌∙◌, ℕ, ap, length, rules, sym, take, tests}
use Rattle.std.specs.Prelude.{nat_lt}
use Rattle.std.specs.List.{position_or_len}
use Rattle.std.proofs.lemmas.Iterator.{YieldsList-from_slice}
use Rattle.std.proofs.lemmas.Iterator.Search.{position_from_yields_List}
use Rattle.cpm_script.specs.Script.{is_script_space}
use Rattle.cpm_batch.proofs.SourceLemmas.{past_all, place_is}
use Rattle.cpm_batch.proofs.recording.first_word.Goals as goal

pub returns-in-Some : goal.returns-in-Some
returns-in-Some c =
    let line = c.args.line.now in
    let first = position_or_len is_script_space line in
    let found = position_from_yields_List is_script_space _ _ _ c.position.ensures.ran (YieldsList-from_slice line cc) (λ x b q k. search (rules, tests)) in
    ap (λ (i : ℕ). take i line) (sym (place_is (nat_lt first (length line)) first c.in-Some.place (sym found ∙ c.in-Some.is)))

pub returns-in-None : goal.returns-in-None
returns-in-None c =
    let line = c.args.line.now in
    let found = position_from_yields_List is_script_space _ _ _ c.position.ensures.ran (YieldsList-from_slice line cc) (λ x b q k. search (rules, tests)) in
    sym (past_all (position_or_len is_script_space line) line (sym found ∙ c.in-None.is))
