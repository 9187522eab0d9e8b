use Rattle.std.proofs.Common.{◌≡◌, ◌≢◌, ◌<◌, ◌≤◌, ◌-◌, ℕ}
use Rattle.cpm_geom.specs.Geometry.{dpb_of}
use Rattle.cpm_volume.specs.Files.{entry_block}
use Rattle.cpm_image_files.proofs.records.end_of.Given as goal

abbrev pub invariant-loop-number : goal.invariant-loop-number
invariant-loop-number l =
    (l.end ≤ l.number)
    × (0 < l.end → (l.start ≤ l.end - 1) × (entry_block (dpb_of l.format) l.entry (l.end - 1) ≢ 0))
    × ((n : ℕ) → l.start ≤ n → n < l.number → l.end ≤ n → entry_block (dpb_of l.format) l.entry n ≡ 0)
