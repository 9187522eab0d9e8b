-- The formats of disk images, and where a record lies on a disk.
use Rattle.std.specs.Prelude.{ℕ, ◌+◌, ◌-◌, ◌*◌, ◌/◌, ◌%◌, ◌<◌, ◌≤◌, ◌==◌, if◌then◌else◌, List, [], ◌∷◌, Option, Some, None, slice_index}
use Rattle.cpm_geom.specs.declared.dpb.Dpb.{Dpb}
use Rattle.cpm_geom.specs.declared.format.Format.{Format}
use Rattle.cpm_geom.specs.declared.format.Format.TheVariants.{Ibm3740, Large}

-- own: an image is a raw dump, and its length says which format it has
unfoldable pub format_of_length : ℕ → Option Format
format_of_length n = if n == 256256 then Some Ibm3740 else (if n == 2105344 then Some Large else None)

-- CP/M 2.2 Operating System Manual, section 6.10, Disk Parameter Tables: the parameter block;
-- own: these numbers, of the standard 8-inch single density disk and of this project's large disk
unfoldable pub dpb_of : Format → Dpb
dpb_of Ibm3740 =
    record {
      sectors_per_track = 26;
      block_shift = 3;
      block_mask = 7;
      extent_mask = 0;
      last_block = 242;
      last_entry = 63;
      directory_bits = 0xC000;
      checksum_size = 16;
      track_offset = 2;
    }
dpb_of Large =
    record {
      sectors_per_track = 64;
      block_shift = 5;
      block_mask = 31;
      extent_mask = 1;
      last_block = 511;
      last_entry = 255;
      directory_bits = 0xC000;
      checksum_size = 0;
      track_offset = 1;
    }

unfoldable pub tracks_of : Format → ℕ
tracks_of Ibm3740 = 77
tracks_of Large = 257

-- the number of a track's first sector
unfoldable pub first_sector_of : Format → ℕ
first_sector_of Ibm3740 = 1
first_sector_of Large = 0

-- CP/M 2.2 Operating System Manual, section 6.10, Disk Parameter Tables: the sector translation vector, the sectors of a track in the order of its records
unfoldable pub skew : List ℕ
skew =
    1 ∷ 7 ∷ 13 ∷ 19 ∷ 25 ∷ 5 ∷ 11 ∷ 17 ∷ 23 ∷ 3 ∷ 9 ∷ 15 ∷ 21 ∷ 2 ∷ 8 ∷ 14 ∷ 20 ∷ 26 ∷ 6 ∷ 12 ∷ 18 ∷ 24 ∷ 4 ∷ 10 ∷ 16 ∷ 22 ∷ []

-- the sector of a track's record; own: the large disk has no translation
unfoldable pub sector_of : Format → ℕ → ℕ
sector_of Ibm3740 place = slice_index skew place
sector_of Large place = place

unfoldable pub sectors_per_track : Format → ℕ
sectors_per_track f = (dpb_of f).sectors_per_track

-- the sectors of an image
unfoldable pub sector_count : Format → ℕ
sector_count f = tracks_of f * sectors_per_track f

-- the track and the sector are there
pub record IsSector (f : Format) (track sector : ℕ) : Type 0 where
  pub track_there : track < tracks_of f
  pub first : first_sector_of f ≤ sector
  pub last : sector < first_sector_of f + sectors_per_track f

-- own: the place of a sector in an image, by tracks in order and the sectors of each in order
unfoldable pub sector_index : Format → ℕ → ℕ → ℕ
sector_index f track sector = track * sectors_per_track f + (sector - first_sector_of f)

-- CP/M 2.2 Operating System Manual, section 6.10, Disk Parameter Tables: OFF tracks are skipped before the first record
unfoldable pub track_of : Format → ℕ → ℕ
track_of f n = (dpb_of f).track_offset + n / sectors_per_track f

-- the record's track is there
pub record IsRecord (f : Format) (n : ℕ) : Type 0 where
  pub track_there : track_of f n < tracks_of f

-- the place of a record's sector in an image
unfoldable pub record_index : Format → ℕ → ℕ
record_index f n = sector_index f (track_of f n) (sector_of f (n % sectors_per_track f))
