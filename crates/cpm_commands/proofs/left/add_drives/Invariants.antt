use Rattle.std.proofs.Common.{◌≡◌, ◌≤◌, ◌+◌, ◌++◌, length, map, vec_len}
use Rattle.std.specs.Array.Iter.{array_into_iter_items}
use Rattle.std.specs.Iterator.Adapters.{zip_first, zip_second}
use Rattle.std.specs.Slice.Iter.{iter_rest}
use Rattle.std.specs.Vec.{vec_capacity}
use Rattle.cpm_store.specs.Writes.{named_output}
use Rattle.cpm_commands.specs.Left.{drive_outputs}
use Rattle.cpm_commands.proofs.left.add_drives.Given as goal

abbrev pub invariant-loop-name : goal.invariant-loop-name
invariant-loop-name l = record {
  added : map named_output l.outputs.items ++ drive_outputs (map (λ n. n.now) (iter_rest (zip_first l.name-iterator))) (array_into_iter_items (zip_second l.name-iterator))
      ≡ map named_output l.fn.outputs.items ++ drive_outputs (map (λ n. n.now) l.fn.outs) l.fn.drives;
  room : vec_len l.fn.outputs + 4 ≤ vec_capacity l.fn.outputs → vec_len l.outputs + length (array_into_iter_items (zip_second l.name-iterator)) ≤ vec_capacity l.outputs;
}
