use Rattle.std.proofs.Common.{◌<◌, ◌≤◌, ◌∙◌, arith, length, sym}
use Rattle.std.proofs.lemmas.Bool.Decides.{nat_tests}
use Rattle.cpm_run.specs.Kept.{standing_view}
use Rattle.cpm_run.proofs.RestLemmas.{kept-past, kept-there}
use Rattle.cpm_run.proofs.going_on.kept_for.Goals as goal

pub returns-in-Some : goal.returns-in-Some
returns-in-Some c =
    let test = c.in-Some.ensures.lookup.0 in
    let within : c.args.place < length c.args.inputs.now = grind (arith, nat_tests) in
    c.kept_by.ensures ∙ sym (kept-there (standing_view c.args.kept.now) c.args.inputs.now c.args.place c.in-Some.input.now within c.in-Some.ensures.lookup.1)

pub returns-in-None : goal.returns-in-None
returns-in-None c =
    let test = c.in-None.ensures.lookup.0 in
    let past : length c.args.inputs.now ≤ c.args.place = grind (arith, nat_tests) in
    sym (kept-past (standing_view c.args.kept.now) c.args.inputs.now c.args.place past)
