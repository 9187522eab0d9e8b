use Rattle.std.proofs.Common.{◌∙◌, sym, arith}
use Rattle.cpm_drive.proofs.MapLemmas.{merged_is}
use Rattle.cpm_drive.proofs.closing.merged.Goals as goal

pub returns : goal.returns
returns c =
    merged_is c.args.blocks.now c.args.stored.now c.loop-place.both (c.told-blocks ∙ sym c.told-stored) (c.loop-place.invariant.0 ∙ sym c.told-blocks) (λ k h. c.loop-place.invariant.1 k (omega (arith, c.told-blocks)))
