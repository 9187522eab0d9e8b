use Rattle.std.proofs.Common.{◌<◌, ℕ}
use Rattle.cpm_run.specs.Kept.{standing_view}
use Rattle.cpm_run.proofs.RestLemmas.{IsOver}
use Rattle.cpm_run.proofs.going_on.are_over.Given as goal

abbrev pub invariant-loop-place : goal.invariant-loop-place
invariant-loop-place l = (place : ℕ) → place < l.place → IsOver l.digest (standing_view l.kept) place
