use Rattle.std.proofs.Common.{arith, refl}
use Rattle.std.proofs.lemmas.List.FromFn.{fill_by_all}
use Rattle.cpm_volume.specs.Encoding.{block_number_in, extent_of}
use Rattle.cpm_volume.proofs.encoding.extent_from_bytes.Goals as goal

pub returns : goal.returns
unfolding extent_of
returns c =
    let blocks = fill_by_all (block_number_in c.args.dpb.now c.args.bytes.now) c.loop-place.blocks 16 0 c.loop-place.invariant.0 (λ k h. c.loop-place.invariant.1 k (omega arith)) in
    rw (blocks, c.copy_from_slice.ensures.after) refl
