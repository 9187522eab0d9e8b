use Rattle.std.proofs.Common.{◌≡◌, ◌++◌, drop, map}
use Rattle.cpm_store.specs.Writes.{named_output}
use Rattle.cpm_run.specs.Run.{record_outputs}
use Rattle.cpm_run.specs.Settled.{settled_view}
use Rattle.cpm_run.proofs.records.records_of.Given as goal

abbrev pub invariant-loop-place : goal.invariant-loop-place
invariant-loop-place l = map named_output l.outputs.items ++ record_outputs (drop l.place l.records) (map settled_view (drop l.place l.settled)) ≡ record_outputs l.records (map settled_view l.settled)
