use Rattle.std.proofs.Common.{false, arith}
use Rattle.std.proofs.lemmas.List.{length-replicate, get_or-replicate}
use Rattle.cpm_directory.proofs.ReservedLemmas.{marked}
use Rattle.cpm_directory.proofs.reserved.Reserved.from_marks.Goals as goal

pub loop-block-init : goal.loop-block-init
loop-block-init c =
    rw c.none-blocks.ensures (length-replicate 512 false, λ k h. absurd (omega arith), λ k h l. get_or-replicate 512 k false false l)

pub returns : goal.returns
returns c =
    marked c.loop-block.blocks c.args.marks.now c.loop-block.invariant.0 c.requires (λ k h. c.loop-block.invariant.1 k (omega arith))
