-- The directory of a drive, in its first records.
use Rattle.std.specs.Prelude.{◌≡◌, ◌≢◌, ℕ, ◌+◌, ◌*◌, ◌/◌, ◌%◌, ◌≤◌, List, [], ◌++◌, length, map, take, drop, slice_range, slice_index_or, slice_set}
use Rattle.std.specs.List.{range_with_len}
use Rattle.cpm_geom.specs.declared.dpb.Dpb.{Dpb}
use Rattle.cpm_geom.specs.Geometry.{dpb_of, record_index}
use Rattle.cpm_geom.specs.Disk.{Disk, records_of, sector_at, with_sector}
use Rattle.cpm_volume.specs.declared.extent.Entry.{Entry}
use Rattle.cpm_volume.specs.Files.{entry_at, no_entry}
use Rattle.cpm_volume.specs.Encoding.{entry_of, entry_bytes, IsStorable}

-- the bytes of an entry in its record
unfoldable pub slot_bytes : List ℕ → ℕ → List ℕ
slot_bytes bytes slot = slice_range bytes (32 * slot) (32 * slot + 32)

-- CP/M 2.2 Operating System Manual, section 6.10, Disk Parameter Tables: DRM + 1 entries of 32 bytes, four in a record from the first on
unfoldable pub directory_of : Dpb → List (List ℕ) → List Entry
directory_of d records =
    map (λ i. entry_of d (slot_bytes (slice_index_or records (i / 4) []) (i % 4))) (range_with_len 0 (d.last_entry + 1))

-- the entries of a drive
unfoldable pub entries_of : Disk → List Entry
entries_of disk = directory_of (dpb_of disk.format) (records_of disk)

-- own: of 256 places the first have the entries of a drive
pub record Lists (places : List Entry) (disk : Disk) : Type 0 where
  pub size : length places ≡ 256
  pub at : (i : ℕ) → i ≤ (dpb_of disk.format).last_entry → slice_index_or places i no_entry ≡ entry_at (entries_of disk) i

-- a record with the bytes of an entry in it
unfoldable pub record_with_entry : List ℕ → ℕ → List ℕ → List ℕ
record_with_entry bytes slot entry = take (32 * slot) bytes ++ (entry ++ drop 32 (drop (32 * slot) bytes))

-- one entry is written: its 32 bytes in their record change, no other entry and no other record
pub record PutsEntry (old : Disk) (index : ℕ) (e : Entry) (new : Disk) : Type 0 where
  pub bytes : new ≡ with_sector old (record_index old.format (index / 4))
      (record_with_entry (sector_at old (record_index old.format (index / 4))) (index % 4) (entry_bytes (dpb_of old.format) e))
  pub entry : IsStorable (dpb_of old.format) e.extent → entries_of new ≡ slice_set (entries_of old) index e
  pub others : (k : ℕ) → k ≢ index → entry_at (entries_of new) k ≡ entry_at (entries_of old) k
  pub records : (n : ℕ) → n ≢ index / 4 → slice_index_or (records_of new) n [] ≡ slice_index_or (records_of old) n []
