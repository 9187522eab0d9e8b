use Rattle.std.proofs.Common.{◌≡◌, ℕ, ◌+◌, ◌*◌, ◌/◌, ◌%◌, ◌<◌, length, get_or}
use Rattle.cpm_image_files.proofs.renaming.with_attributes.Given as goal

abbrev pub invariant-loop-place : goal.invariant-loop-place
invariant-loop-place l =
    (length l.marked ≡ 11) × ((k : ℕ) → k < l.place → get_or l.marked k 0 ≡ get_or l.name k 0 % 128 + get_or l.attributes k 0 / 128 * 128)
    × ((k : ℕ) → get_or l.marked k 0 < 256)
