-- A disk as its format and its sectors, and its records by number.
use Rattle.std.specs.Prelude.{◌≡◌, ℕ, ◌+◌, ◌-◌, ◌*◌, ◌/◌, ◌<◌, List, [], length, map, replicate, slice_range, slice_index, slice_index_or, slice_set}
use Rattle.std.specs.List.{range_with_len}
use Rattle.cpm_geom.specs.declared.format.Format.{Format}
use Rattle.cpm_geom.specs.Geometry.{dpb_of, tracks_of, sectors_per_track, sector_count, record_index}

-- a disk: its sectors by tracks in order and the sectors of each in order
pub record Disk : Type 0 where
  pub format : Format
  pub sectors : List (List ℕ)

-- the bytes, cut into sectors of 128
unfoldable pub sectors_of : List ℕ → List (List ℕ)
sectors_of bytes = map (λ k. slice_range bytes (k * 128) (k * 128 + 128)) (range_with_len 0 (length bytes / 128))

abbrev pub disk_of : Format → List ℕ → Disk
disk_of f bytes = record { format = f; sectors = sectors_of bytes }

-- a blank disk: every byte is E5h, as formatting leaves it
unfoldable pub blank_disk : Format → Disk
blank_disk f = disk_of f (replicate (sector_count f * 128) 0xE5)

-- the sectors are those of the format, of 128 bytes each
pub record IsDisk (d : Disk) : Type 0 where
  pub count : length d.sectors ≡ sector_count d.format
  pub sizes : (k : ℕ) → k < sector_count d.format → length (slice_index_or d.sectors k []) ≡ 128

-- the sector at a place of the image
abbrev pub sector_at : Disk → ℕ → List ℕ
sector_at d place = slice_index_or d.sectors place []

-- own: each number of each sector is below 256
pub record HasBytes (disk : Disk) : Type 0 where
  pub bytes_fit : (place k : ℕ) → slice_index (sector_at disk place) k < 256

-- one sector written
abbrev pub with_sector : Disk → ℕ → List ℕ → Disk
with_sector d place bytes = record d { sectors = slice_set d.sectors place bytes }

-- the number of a disk's records
unfoldable pub record_count : Format → ℕ
record_count f = (tracks_of f - (dpb_of f).track_offset) * sectors_per_track f

-- the records of a disk by number
unfoldable pub records_of : Disk → List (List ℕ)
records_of d = map (λ n. sector_at d (record_index d.format n)) (range_with_len 0 (record_count d.format))
