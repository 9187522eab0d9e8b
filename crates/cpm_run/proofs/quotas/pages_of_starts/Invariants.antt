-- What is summed so far, and how large it can be.
use Rattle.std.proofs.Common.{◌≡◌, ◌≤◌, ◌*◌, map, take}
use Rattle.std.specs.Prelude.{sum_by}
use Rattle.cpm_batch.specs.Inputs.{StartInput, given}
use Rattle.cpm_run.specs.Run.{starts_read}
use Rattle.cpm_run.specs.Settled.{start_by}
use Rattle.cpm_run.proofs.quotas.pages_of_starts.Given as goal

abbrev pub invariant-loop-input : goal.invariant-loop-input
invariant-loop-input l = record {
  total : l.quotas ≡ sum_by (λ (b : StartInput). (start_by (starts_read (map given l.inputs)) b).quota) (starts_read (map given (take l.input-index l.inputs)));
  small : l.quotas ≤ 65535 * l.input-index;
}
