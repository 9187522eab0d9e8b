use Rattle.std.proofs.Common.{◌≡◌, ◌++◌, map}
use Rattle.std.specs.Iterator.Adapters.{zip_first, zip_second}
use Rattle.std.specs.Slice.Iter.{iter_rest}
use Rattle.std.specs.Vec.Iter.{into_iter_items}
use Rattle.cpm_store.specs.Writes.{named_output}
use Rattle.cpm_commands.specs.Get.{taken_outputs}
use Rattle.cpm_commands.proofs.get.outputs_of.Given as goal

abbrev pub invariant-loop-path : goal.invariant-loop-path
invariant-loop-path l =
    map named_output l.outputs.items ++ taken_outputs (iter_rest (zip_first l.path-iterator)) (into_iter_items (zip_second l.path-iterator))
    ≡ taken_outputs l.fn.paths l.fn.contents.items
