use Rattle.std.proofs.Common.{◌≡◌, ℕ, ◌<◌, length, get_or}
use Rattle.cpm_volume.specs.Encoding.{entry_byte}
use Rattle.cpm_volume.proofs.extent.Entry.to_bytes.Given as goal

abbrev pub invariant-loop-offset : goal.invariant-loop-offset
invariant-loop-offset l = (length l.bytes ≡ 32) × ((k : ℕ) → k < l.offset → get_or l.bytes k 0 ≡ entry_byte l.dpb l.self k)
