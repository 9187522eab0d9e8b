use Rattle.std.proofs.Common.{◌≡◌, ◌++◌, map}
use Rattle.std.specs.Vec.Iter.{into_iter_items, into_iter_len}
use Rattle.cpm_store.specs.Writes.{named_output}
use Rattle.cpm_batch.specs.Outputs.{files_of_all, left_by}
use Rattle.cpm_batch.proofs.output.outputs_of.Given as goal

abbrev pub invariant-loop-files : goal.invariant-loop-files
invariant-loop-files l = map named_output l.outputs.items ++ files_of_all (map left_by (into_iter_items l.rest)) ≡ files_of_all (map left_by l.fn.sessions.items)

abbrev pub decreases-loop-files : goal.decreases-loop-files
decreases-loop-files l = into_iter_len l.rest
