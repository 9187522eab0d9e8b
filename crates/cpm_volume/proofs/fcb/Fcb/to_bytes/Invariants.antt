use Rattle.std.proofs.Common.{◌≡◌, ℕ, ◌<◌, length, get_or}
use Rattle.cpm_volume.specs.Encoding.{fcb_byte}
use Rattle.cpm_volume.proofs.fcb.Fcb.to_bytes.Given as goal

abbrev pub invariant-loop-offset : goal.invariant-loop-offset
invariant-loop-offset l = (length l.bytes ≡ 36) × ((k : ℕ) → k < l.offset → get_or l.bytes k 0 ≡ fcb_byte l.dpb l.self k)
