-- Worked rows: what calls on a blank drive must give, computed on lists.
-- A row that looks at the directory alone leaves the drive's records out; in the others a record is one byte, repeated as often as it likes.
use Rattle.std.specs.Prelude.{◌≡◌, ℕ, zero, suc, Bool, true, false, List, [], ◌∷◌, ◌++◌, Option, Some, None, replicate, map, take, slice_index_or}
use Rattle.std.specs.Option.{option_map}
use Rattle.cpm_geom.specs.declared.dpb.Dpb.{Dpb}
use Rattle.cpm_geom.specs.declared.format.Format.TheVariants.{Ibm3740, Large}
use Rattle.cpm_geom.specs.Geometry.{dpb_of}
use Rattle.cpm_volume.specs.declared.extent.Extent.{Extent}
use Rattle.cpm_volume.specs.declared.extent.Entry.{Entry}
use Rattle.cpm_volume.specs.Files.{Volume, no_entry}
use Rattle.cpm_volume.specs.Operations.{Answer, done, no_record, no_block, no_extent, no_entry_free, fault, bad_sector}
use Rattle.cpm_volume.specs.Operations.{read_only, VolumeOutcome, ends, Close, refused, close_fault, closed, close_file_on_volume}
use Rattle.cpm_volume.specs.Operations.{open_file_on_volume, make_file_on_volume, read_next_on_volume, write_next_on_volume}
use Rattle.cpm_volume.specs.Operations.{read_random_on_volume, write_random_on_volume, write_random_cleared_on_volume}

-- the standard 8-inch disk
unfoldable pub standard : Dpb
standard = dpb_of Ibm3740

-- the large disk, of two extents to an entry
unfoldable pub large : Dpb
large = dpb_of Large

-- a blank drive whose first two blocks are the directory's
unfoldable pub blank_volume : ℕ → ℕ → List (List ℕ) → Volume
blank_volume entries free records =
    record { entries = replicate entries no_entry; reserved = true ∷ true ∷ replicate free false; records = records; written = [] }

-- a file control block for T.DAT
unfoldable pub t_dat : Extent
t_dat =
    record {
      name = 0x54 ∷ 0x20 ∷ 0x20 ∷ 0x20 ∷ 0x20 ∷ 0x20 ∷ 0x20 ∷ 0x20 ∷ 0x44 ∷ 0x41 ∷ 0x54 ∷ [];
      ex = 0;
      s1 = 0;
      s2 = 0;
      record_count = 0;
      blocks = replicate 16 0;
    }

-- the file is made; the outcome is one from which writes go on
unfoldable pub from_make : Volume → Option (List Entry × Extent) → VolumeOutcome
from_make v None = ends no_entry_free v t_dat 0
from_make v (Some made) =
    ends done (record v { entries = made.0 }) made.1 0

unfoldable pub made_on : Volume → VolumeOutcome
made_on v = from_make v (make_file_on_volume v.entries 0 t_dat)

-- a sequential write after a call that was done
unfoldable pub more : Dpb → VolumeOutcome → Answer → VolumeOutcome
more d o done = write_next_on_volume d (record o.volume { written = [] }) 0 o.extent o.current []
more d o other = o

-- so many sequential writes, up to the first that is refused
unfoldable pub writes : Dpb → ℕ → VolumeOutcome → VolumeOutcome
writes d zero o = o
writes d (suc count) o = writes d count (more d o o.answer)

-- an entry's user, EX, RC and block numbers
unfoldable pub entry_seen : Entry → List ℕ
entry_seen e = e.user ∷ e.extent.ex ∷ e.extent.record_count ∷ e.extent.blocks

unfoldable pub entries_closed : Close → List Entry
entries_closed (closed index entries extent) = entries
entries_closed refused = []
entries_closed (close_fault which) = []

-- the first entries after a close
unfoldable pub directory_bytes : Dpb → ℕ → VolumeOutcome → List (List ℕ)
directory_bytes d count o =
    take count (map entry_seen (entries_closed (close_file_on_volume d false o.volume.entries 0 o.extent)))

-- 129 records, by sequential writes
unfoldable pub file_of_129 : VolumeOutcome
file_of_129 = writes standard 129 (made_on (blank_volume 64 241 []))

-- they fill one entry, blocks 02h to 11h, and begin another, block 12h
abbrev pub Row129 : Type 0
Row129 =
    directory_bytes standard 3 file_of_129
    ≡ (0 ∷ 0 ∷ 0x80 ∷ 0x02 ∷ 0x03 ∷ 0x04 ∷ 0x05 ∷ 0x06 ∷ 0x07 ∷ 0x08 ∷ 0x09 ∷ 0x0A ∷ 0x0B ∷ 0x0C ∷ 0x0D ∷ 0x0E ∷ 0x0F ∷ 0x10 ∷ 0x11 ∷ [])
    ∷ (0 ∷ 1 ∷ 0x01 ∷ 0x12 ∷ replicate 15 0) ∷ entry_seen no_entry ∷ []

-- 300 records on the large disk: two extents to an entry
abbrev pub Row300 : Type 0
Row300 =
    directory_bytes large 3 (writes large 300 (made_on (blank_volume 256 510 []))) ≡ (0 ∷ 1 ∷ 0x80 ∷ 2 ∷ 3 ∷ 4 ∷ 5 ∷ 6 ∷ 7 ∷ 8 ∷ 9 ∷ replicate 8 0)
    ∷ (0 ∷ 2 ∷ 0x2C ∷ 10 ∷ 11 ∷ replicate 14 0) ∷ entry_seen no_entry ∷ []

-- a file of 300 records there
unfoldable pub shared_file : List Entry
shared_file =
    record { user = 0; extent = record t_dat { ex = 1; record_count = 0x80; blocks = 2 ∷ 3 ∷ 4 ∷ 5 ∷ 6 ∷ 7 ∷ 8 ∷ 9 ∷ replicate 8 0 } }
    ∷ record { user = 0; extent = record t_dat { ex = 2; record_count = 0x2C; blocks = 10 ∷ 11 ∷ replicate 14 0 } } ∷ no_entry ∷ []

unfoldable pub entry_opened : Option Extent → List ℕ
entry_opened None = []
entry_opened (Some it) = it.ex ∷ it.s2 ∷ it.record_count ∷ it.blocks

-- opened with EX 0 its first extent has 128 records, with EX 3 there is none
abbrev pub RowShared : Type 0
RowShared =
    (entry_opened (open_file_on_volume large shared_file 0 t_dat) ≡ 0 ∷ 0 ∷ 0x80 ∷ 2 ∷ 3 ∷ 4 ∷ 5 ∷ 6 ∷ 7 ∷ 8 ∷ 9 ∷ replicate 8 0)
    × (entry_opened (open_file_on_volume large shared_file 0 (record t_dat { ex = 3 })) ≡ [])

-- 1,928 records fit one file, and no more
abbrev pub Row1928 : Type 0
Row1928 =
    ((writes standard 1928 (made_on (blank_volume 64 241 []))).answer ≡ done) × ((writes standard 1929 (made_on (blank_volume 64 241 []))).answer ≡ no_block)

-- 16,320 records fit one file on the large disk, and no more
abbrev pub Row16320 : Type 0
Row16320 =
    ((writes large 16320 (made_on (blank_volume 256 510 []))).answer ≡ done) × ((writes large 16321 (made_on (blank_volume 256 510 []))).answer ≡ no_block)

unfoldable pub one_more : ℕ → Option (List Entry × Extent) → Option (List Entry × Extent)
one_more count None = None
one_more count (Some made) = make_file_on_volume made.0 0 (record t_dat { name = count ∷ [] })

-- so many files made, up to the first that finds no entry
unfoldable pub makes : ℕ → Option (List Entry × Extent) → Option (List Entry × Extent)
makes zero made = made
makes (suc count) made = makes count (one_more count made)

unfoldable pub is_made : Option (List Entry × Extent) → Bool
is_made None = false
is_made (Some made) = true

-- 64 makes succeed on a blank drive, and no more
abbrev pub Row64 : Type 0
Row64 =
    (is_made (makes 64 (Some (replicate 64 no_entry, t_dat))) ≡ true) × (is_made (makes 65 (Some (replicate 64 no_entry, t_dat))) ≡ false)

-- 256 on the large disk, and no more
abbrev pub Row256 : Type 0
Row256 =
    (is_made (makes 256 (Some (replicate 256 no_entry, t_dat))) ≡ true) × (is_made (makes 257 (Some (replicate 256 no_entry, t_dat))) ≡ false)

-- the same file on a drive of four entries, with a number of records and a first block number in the file control block of its second extent
unfoldable pub second_extent : ℕ → ℕ → Extent
second_extent count b = record t_dat { ex = 1; record_count = count; blocks = b ∷ replicate 15 0 }

unfoldable pub two_extents : List Entry
two_extents =
    record {
      user = 0;
      extent = record t_dat {
        record_count = 0x80;
        blocks = 0x02 ∷ 0x03 ∷ 0x04 ∷ 0x05 ∷ 0x06 ∷ 0x07 ∷ 0x08 ∷ 0x09 ∷ 0x0A ∷ 0x0B ∷ 0x0C ∷ 0x0D ∷ 0x0E ∷ 0x0F ∷ 0x10 ∷ 0x11 ∷ [];
      };
    }
    ∷ record { user = 0; extent = second_extent 1 0x12 } ∷ no_entry ∷ no_entry ∷ []

-- a close gives back a block number that the file control block lost, and refuses another one and one above the last
abbrev pub RowMerge : Type 0
RowMerge =
    (close_file_on_volume standard false two_extents 0 (second_extent 1 0) ≡ closed 1 two_extents (second_extent 1 0x12))
    × (close_file_on_volume standard false two_extents 0 (second_extent 1 0x05) ≡ refused)
    × (close_file_on_volume standard false two_extents 0 (second_extent 1 0xF3) ≡ close_fault bad_sector)

-- on a protected drive a close that changes nothing goes through, another does not
abbrev pub RowProtected : Type 0
RowProtected =
    (close_file_on_volume standard true two_extents 0 (second_extent 1 0) ≡ closed 1 two_extents (second_extent 1 0x12))
    × (close_file_on_volume standard true two_extents 0 (second_extent 2 0x12) ≡ close_fault read_only)

-- with one entry alone 129 records do not fit: the first extent was closed, and the file control block stays at its end
unfoldable pub crowded : VolumeOutcome
crowded = writes standard 129 (made_on (blank_volume 1 241 []))

abbrev pub RowCrowded : Type 0
RowCrowded =
    (crowded.answer ≡ no_record) × (crowded.current ≡ 128) × (crowded.extent.ex ≡ 0)
    × (map entry_seen crowded.volume.entries
    ≡ (0 ∷ 0 ∷ 0x80 ∷ 0x02 ∷ 0x03 ∷ 0x04 ∷ 0x05 ∷ 0x06 ∷ 0x07 ∷ 0x08 ∷ 0x09 ∷ 0x0A ∷ 0x0B ∷ 0x0C ∷ 0x0D ∷ 0x0E ∷ 0x0F ∷ 0x10 ∷ 0x11 ∷ [])
    ∷ [])

-- record 3 written into a new block of records of E5h
unfoldable pub record_written : VolumeOutcome → VolumeOutcome
record_written o = write_random_on_volume standard o.volume 0 o.extent 0 3 (0x41 ∷ [])

unfoldable pub written_cleared : VolumeOutcome → VolumeOutcome
written_cleared o = write_random_cleared_on_volume standard o.volume 0 o.extent 0 3 (0x41 ∷ [])

unfoldable pub new_file : VolumeOutcome
new_file = made_on (blank_volume 64 241 (replicate 25 (0xE5 ∷ [])))

-- a random write leaves the block's other records, one with zero fill clears them
abbrev pub RowFill : Type 0
RowFill =
    ((record_written new_file).volume.records ≡ replicate 19 (0xE5 ∷ []) ++ ((0x41 ∷ []) ∷ replicate 5 (0xE5 ∷ []))) × ((record_written new_file).current ≡ 3)
    × ((record_written new_file).extent.record_count ≡ 4)
    × ((written_cleared new_file).volume.records
    ≡ replicate 16 (0xE5 ∷ []) ++ (replicate 3 (replicate 128 0) ++ ((0x41 ∷ []) ∷ (replicate 4 (replicate 128 0) ++ ((0xE5 ∷ []) ∷ [])))))

-- after that a write with zero fill into the same block leaves its other records
abbrev pub RowFilledBefore : Type 0
RowFilledBefore =
    (write_random_cleared_on_volume standard (record_written new_file).volume 0 (record_written new_file).extent 0 5 (0x42 ∷ [])).volume.records
    ≡ replicate 19 (0xE5 ∷ []) ++ ((0x41 ∷ []) ∷ (0xE5 ∷ []) ∷ (0x42 ∷ []) ∷ replicate 3 (0xE5 ∷ []))

-- a file of two records in block 2
unfoldable pub two_records : Volume
two_records =
    record {
      entries = record { user = 0; extent = record t_dat { record_count = 2; blocks = 2 ∷ replicate 15 0 } } ∷ replicate 63 no_entry;
      reserved = true ∷ true ∷ true ∷ replicate 240 false;
      records = replicate 16 (0xE5 ∷ []) ++ ((0x41 ∷ []) ∷ (0x42 ∷ []) ∷ []);
      written = [];
    }

unfoldable pub opened_on : Volume → Option Extent → VolumeOutcome
opened_on v None = ends no_extent v t_dat 0
opened_on v (Some it) = ends done v it 0

unfoldable pub two_opened : VolumeOutcome
two_opened = opened_on two_records (open_file_on_volume standard two_records.entries 0 t_dat)

unfoldable pub next_read : VolumeOutcome → VolumeOutcome
next_read o = read_next_on_volume standard false o.volume 0 o.extent o.current

unfoldable pub any_read : ℕ → VolumeOutcome
any_read n = read_random_on_volume standard false two_opened.volume 0 two_opened.extent 0 n

-- the bytes that were read
abbrev pub bytes_read : VolumeOutcome → Option (List ℕ)
bytes_read o = option_map (λ n. slice_index_or o.volume.records n []) o.read

-- sequential reads give both records and then none; random reads give record 1, no record 2, and no extent for record 256
abbrev pub RowReads : Type 0
RowReads =
    (bytes_read (next_read two_opened) ≡ Some (0x41 ∷ [])) × (bytes_read (next_read (next_read two_opened)) ≡ Some (0x42 ∷ []))
    × ((next_read (next_read (next_read two_opened))).answer ≡ no_record) × (bytes_read (any_read 1) ≡ Some (0x42 ∷ [])) × ((any_read 1).current ≡ 1)
    × ((any_read 2).answer ≡ no_record) × ((any_read 2).current ≡ 2) × ((any_read 256).answer ≡ no_extent) × ((any_read 256).current ≡ 0)

-- a block number above the last is a Bad Sector
abbrev pub RowBadSector : Type 0
RowBadSector =
    (read_next_on_volume standard false two_records 0 (record t_dat { record_count = 1; blocks = 0xF3 ∷ replicate 15 0 }) 0).answer ≡ fault bad_sector
