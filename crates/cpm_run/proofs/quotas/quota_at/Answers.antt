use Rattle.std.proofs.Common.{◌∙◌, ◌<◌, arith, length}
use Rattle.std.proofs.lemmas.Bool.Decides.{nat_tests}
use Rattle.cpm_run.proofs.OpeningLemmas.{quota_there}
use Rattle.cpm_run.proofs.quotas.quota_at.Goals as goal

pub returns-in-Some : goal.returns-in-Some
returns-in-Some c =
    let test = c.in-Some.ensures.lookup.0 in
    let within : c.args.place < length c.args.inputs.now = grind (arith, nat_tests) in
    c.own_quota.ensures ∙ quota_there c.args.inputs.now c.args.place c.in-Some.input.now within c.in-Some.ensures.lookup.1
