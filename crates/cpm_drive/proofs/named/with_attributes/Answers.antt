use Rattle.std.proofs.Common.{◌∙◌, sym, arith}
use Rattle.cpm_drive.proofs.NamedLemmas.{marked_is}
use Rattle.cpm_drive.proofs.named.with_attributes.Goals as goal

pub returns : goal.returns
returns c =
    marked_is c.args.name.now c.args.attributes.now c.loop-place.marked (c.told-name ∙ sym c.told-attributes) (c.loop-place.invariant.0 ∙ sym c.told-name) (λ k h. c.loop-place.invariant.1 k (omega (arith, c.told-name)))
