use Rattle.std.proofs.Common.{◌≡◌, ◌++◌, drop, map}
use Rattle.cpm_run.specs.Kept.{standing_view}
use Rattle.cpm_run.specs.Settled.{settled_view}
use Rattle.cpm_run.specs.Rest.{rest_of, rests}
use Rattle.cpm_run.proofs.rest.rest_inputs.Given as goal

abbrev pub invariant-loop-place : goal.invariant-loop-place
invariant-loop-place l =
    map settled_view l.rests.items ++ rests (standing_view l.kept) (map settled_view (drop l.place l.inputs)) (drop l.place (standing_view l.kept)) ≡ rest_of (map settled_view l.inputs) (standing_view l.kept)
