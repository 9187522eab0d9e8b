use Rattle.std.proofs.Common.{◌≡◌, ◌++◌, map}
use Rattle.std.specs.Array.Iter.{array_into_iter_items}
use Rattle.std.specs.Iterator.Adapters.{zip_first, zip_second}
use Rattle.std.specs.Slice.Iter.{iter_rest}
use Rattle.cpm_commands.specs.Left.{drive_outputs}
use Rattle.cpm_commands.specs.OutFolder.{IsEven, left_outputs, left_unwritten}
use Rattle.cpm_commands.proofs.left.add_images.Given as goal

abbrev pub invariant-loop-name : goal.invariant-loop-name
invariant-loop-name l = record {
  outputs : left_outputs l.left ++ drive_outputs (map (λ n. n.now) (iter_rest (zip_first l.name-iterator))) (array_into_iter_items (zip_second l.name-iterator))
      ≡ left_outputs l.fn.left ++ drive_outputs (map (λ n. n.now) l.fn.outs) l.fn.drives;
  unwritten : left_unwritten l.left ≡ left_unwritten l.fn.left;
  even : IsEven l.left;
}
