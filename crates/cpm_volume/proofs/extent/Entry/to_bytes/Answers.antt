use Rattle.std.proofs.Common.{arith}
use Rattle.std.proofs.lemmas.List.FromFn.{fill_by_all}
use Rattle.cpm_volume.specs.Encoding.{entry_byte, entry_bytes}
use Rattle.cpm_volume.proofs.extent.Entry.to_bytes.Goals as goal

pub returns : goal.returns
unfolding entry_bytes
returns c =
    fill_by_all (entry_byte c.args.dpb.now c.args.self.now) c.loop-offset.bytes 32 0 c.loop-offset.invariant.0 (λ k h. c.loop-offset.invariant.1 k (omega arith))
