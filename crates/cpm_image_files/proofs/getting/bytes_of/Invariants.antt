use Rattle.std.proofs.Common.{◌≡◌, ◌<◌, ◌*◌, ◌-◌, ℕ, length, take, drop}
use Rattle.cpm_image_files.specs.ImageFiles.{record_on}
use Rattle.cpm_image_files.specs.Taken.{taken_record}
use Rattle.cpm_image_files.specs.Reach.{IsEntryOf}
use Rattle.cpm_image_files.proofs.getting.bytes_of.Given as goal

abbrev pub invariant-loop-number : goal.invariant-loop-number
invariant-loop-number l =
    (length l.bytes.items ≡ 128 * l.number)
    × ((m : ℕ) → m < l.number → take 128 (drop (128 * m) l.bytes.items) ≡ taken_record (record_on l.image l.file.user l.file.name m))
    × (0 < l.number → IsEntryOf l.image l.file.user l.file.name (l.number - 1) l.entry)
