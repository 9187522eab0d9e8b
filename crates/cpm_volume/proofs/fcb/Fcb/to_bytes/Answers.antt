use Rattle.std.proofs.Common.{arith}
use Rattle.std.proofs.lemmas.List.FromFn.{fill_by_all}
use Rattle.cpm_volume.specs.Encoding.{fcb_byte, fcb_bytes}
use Rattle.cpm_volume.proofs.fcb.Fcb.to_bytes.Goals as goal

pub returns : goal.returns
unfolding fcb_bytes
returns c =
    fill_by_all (fcb_byte c.args.dpb.now c.args.self.now) c.loop-offset.bytes 36 0 c.loop-offset.invariant.0 (λ k h. c.loop-offset.invariant.1 k (omega arith))
