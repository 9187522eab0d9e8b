use Rattle.std.proofs.Common.{◌+◌, ◌-◌, ◌*◌, ◌∙◌, ap, Bool, arith}
use Rattle.cpm_geom.specs.Geometry.{dpb_of}
use Rattle.cpm_drives.specs.Vectors.{drive_bit, is_reserved_block}
use Rattle.cpm_drives.proofs.VectorLemmas.{byte_more}
use Rattle.cpm_drives.proofs.vectors.allocation_byte.Goals as goal

pub loop-offset-preserved : goal.loop-offset-preserved
loop-offset-preserved c =
    byte_more (dpb_of c.args.format) c.args.reserved.now c.args.place c.loop-offset.offset c.loop-offset.byte c.drive_bit-byte.result (omega arith) c.loop-offset.invariant.0 c.loop-offset.invariant.1 (c.drive_bit-byte.ensures.value ∙ ap (λ (b : Bool). drive_bit b (7 - c.loop-offset.offset)) (c.is_reserved.ensures ∙ ap (λ k. is_reserved_block (dpb_of c.args.format) c.args.reserved.now (8 * c.args.place + k)) c.from.ensures)) c.drive_bit-byte.ensures.small
