use Rattle.std.proofs.Common.{◌≡◌, map, sym}
use Rattle.cpm_run.specs.Kept.{standing_view}
use Rattle.cpm_run.specs.Rest.{rest_of}
use Rattle.cpm_run.specs.Settled.{settled_view}
use Rattle.cpm_run.specs.Standing.{IsTrueStanding, join_standings}
use Rattle.cpm_run.proofs.JoinLemmas.{swap-ok}
use Rattle.cpm_run.proofs.keeper.keep_all.Goals as goal

pub returns-in-Some-clause-kept : goal.returns-in-Some-clause-kept
returns-in-Some-clause-kept c =
    let inputs = map settled_view c.in-Some.before.inputs.now in
    let kept = standing_view c.in-Some.before.kept.now in
    let rest = standing_view c.in_ok-rest.rest.items in
    rw (c.in-Some.is, sym c.in_ok-rest.ensures.kept)
    (swap-ok (λ system. IsTrueStanding system inputs kept) (λ system. IsTrueStanding system (rest_of inputs kept) rest) (λ v. standing_view v.items ≡ join_standings inputs kept rest)
    c.join_kept.result c.join_kept.ensures)
