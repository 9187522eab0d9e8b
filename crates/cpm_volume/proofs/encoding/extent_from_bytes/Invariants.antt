use Rattle.std.proofs.Common.{◌≡◌, ℕ, ◌<◌, length, get_or}
use Rattle.cpm_volume.specs.Encoding.{block_number_in}
use Rattle.cpm_volume.proofs.encoding.extent_from_bytes.Given as goal

abbrev pub invariant-loop-place : goal.invariant-loop-place
invariant-loop-place l = (length l.blocks ≡ 16) × ((k : ℕ) → k < l.place → get_or l.blocks k 0 ≡ block_number_in l.dpb l.bytes k)
