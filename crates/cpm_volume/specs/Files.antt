-- What the directory, a file control block and the reserved blocks say of files.
use Rattle.std.specs.Prelude.{◌≡◌, ◌≢◌, ◌↔◌, ℕ, ◌+◌, ◌*◌, ◌/◌, ◌%◌, ◌<◌, ◌≤◌, Bool, true, false, ◌&&◌, ◌||◌, nat_lt, ◌==◌}
use Rattle.std.specs.Prelude.{if◌then◌else◌, List, [], ◌∷◌, Option, Some, None, length, slice_index, slice_index_or}
use Rattle.std.specs.List.{position_or_len}
use Rattle.cpm_geom.specs.declared.dpb.Dpb.{Dpb}
use Rattle.cpm_volume.specs.declared.extent.Extent.{Extent}
use Rattle.cpm_volume.specs.declared.extent.Entry.{Entry}
unfoldable pub use Rattle.cpm_volume.specs.Reserved.{is_reserved, least_free, is_directory_block}

-- the number of an extent of 128 records
unfoldable pub extent_number : Extent → ℕ
extent_number x = 32 * (x.s2 % 16) + x.ex % 32

-- the extents that share an entry are a group
unfoldable pub group_of : Dpb → ℕ → ℕ
group_of d number = number / (d.extent_mask + 1)

-- CP/M 2.2 Operating System Manual, section 6.10, Disk Parameter Tables: an entry's numbers are those of its EXM + 1 extents in order, each of 128 records
unfoldable pub entry_place_of : Dpb → Extent → ℕ → ℕ
entry_place_of d x current =
    (extent_number x % (d.extent_mask + 1)) * (128 / (d.block_mask + 1)) + current / (d.block_mask + 1)

-- the place of a file's record among the block numbers of its entry
unfoldable pub map_place : Dpb → ℕ → ℕ
map_place d n =
    (n / 128 % (d.extent_mask + 1)) * (128 / (d.block_mask + 1)) + n % 128 / (d.block_mask + 1)

-- the place of a file's record in its block
unfoldable pub block_offset : Dpb → ℕ → ℕ
block_offset d n = n % 128 % (d.block_mask + 1)

-- the block number at a place, 0 for none
unfoldable pub block_number : Extent → ℕ → ℕ
block_number x place = slice_index x.blocks place

-- two names agree in the low seven bits of each character
unfoldable pub same_name : List ℕ → List ℕ → Bool
same_name [] [] = true
same_name [] (b ∷ bs) = false
same_name (a ∷ cs) [] = false
same_name (a ∷ cs) (b ∷ bs) = (a % 128 == b % 128) && same_name cs bs

-- a pattern's `?` matches each character
unfoldable pub name_matches : List ℕ → List ℕ → Bool
name_matches [] [] = true
name_matches [] (b ∷ bs) = false
name_matches (a ∷ cs) [] = false
name_matches (a ∷ cs) (b ∷ bs) = ((a % 128 == 0x3F) || (a % 128 == b % 128)) && name_matches cs bs

-- the test of one character of a pattern and of a name
abbrev pub wildcard_or_same : ℕ × ℕ → Bool
wildcard_or_same p = (p.0 % 128 == 0x3F) || (p.0 % 128 == p.1 % 128)

-- a name with a `?`
unfoldable pub has_wildcard : List ℕ → Bool
has_wildcard [] = false
has_wildcard (a ∷ cs) = (a % 128 == 0x3F) || has_wildcard cs

-- the mark of an entry that is not in use
abbrev pub deleted : ℕ
deleted = 0xE5

unfoldable pub no_entry : Entry
no_entry = record { user = deleted; extent = record { name = []; ex = 0; s1 = 0; s2 = 0; record_count = 0; blocks = [] } }

-- the entry at an index; past the end one that is not in use
unfoldable pub entry_at : List Entry → ℕ → Entry
entry_at es i = slice_index_or es i no_entry

pub record InUse (es : List Entry) (i : ℕ) : Type 0 where
  pub used : (entry_at es i).user ≢ deleted

-- the entry is of this user, name and group
unfoldable pub is_of : Dpb → ℕ → List ℕ → ℕ → Entry → Bool
is_of d user name group e =
    (e.user == user) && (same_name name e.extent.name && (group_of d (extent_number e.extent) == group))

-- the index of the first entry of this user, name and group; the number of entries where there is none
unfoldable pub first_of : Dpb → List Entry → ℕ → List ℕ → ℕ → ℕ
first_of d es user name group = position_or_len (is_of d user name group) es

-- the entry matches a pattern of the user, its name and the group
unfoldable pub matches : Dpb → ℕ → List ℕ → ℕ → Entry → Bool
matches d user pattern group e =
    (e.user == user) && (name_matches pattern e.extent.name && (group_of d (extent_number e.extent) == group))

-- the index of the first entry that matches; the number of entries where there is none
unfoldable pub first_match : Dpb → List Entry → ℕ → List ℕ → ℕ → ℕ
first_match d es user pattern group = position_or_len (matches d user pattern group) es

-- how many records the extent of number `number` has, by an entry of number `own` and count `count`
unfoldable pub record_count_of : ℕ → ℕ → ℕ → ℕ
record_count_of number own count =
    if nat_lt number own then 128 else (if number == own then count else 0)

-- the number at the place of record k of an extent, 0 where the extent's count is no greater
unfoldable pub block_if : ℕ → ℕ → Extent → ℕ → ℕ
block_if count k x place = if nat_lt k count then block_number x place else 0

-- the block that holds record n of a file by the entry of its group, 0 where there is no such record
unfoldable pub entry_block : Dpb → Entry → ℕ → ℕ
entry_block d e n =
    block_if (record_count_of (n / 128) (extent_number e.extent) e.extent.record_count) (n % 128) e.extent (map_place d n)

-- the block that holds record n of the file in the directory, 0 where the file has no such record
unfoldable pub file_block : Dpb → List Entry → ℕ → List ℕ → ℕ → ℕ
file_block d es user name n =
    entry_block d (entry_at es (first_of d es user name (group_of d (n / 128)))) n

-- how many records the extent of number `number` has, by a file control block over the entry of its group
unfoldable pub open_record_count : ℕ → Extent → Extent → ℕ
open_record_count number x stored =
    if nat_lt number (extent_number x) then 128
    else (if number == extent_number x then x.record_count
    else record_count_of number (extent_number stored) stored.record_count)

-- the same by an open file control block, over the entry of its group
unfoldable pub open_block : Dpb → Extent → Extent → ℕ → ℕ
open_block d x stored n =
    block_if (open_record_count (n / 128) x stored) (n % 128) x (map_place d n)

-- the same for the file as an open file control block knows it
unfoldable pub open_file_block : Dpb → List Entry → ℕ → Extent → ℕ → ℕ
open_file_block d es user x n =
    if group_of d (n / 128) == group_of d (extent_number x)
    then open_block d x (entry_at es (first_of d es user x.name (group_of d (n / 128)))).extent n
    else file_block d es user x.name n

-- the directory's records
unfoldable pub directory_records : Dpb → ℕ
directory_records d = (d.last_entry + 1) / 4

-- a number that may stand in an entry: a block of the drive, outside the directory and reserved
pub record IsFileBlock (d : Dpb) (reserved : List Bool) (b : ℕ) : Type 0 where
  pub within : b ≤ d.last_block
  pub outside : directory_records d ≤ b * (d.block_mask + 1)
  pub kept : is_reserved reserved b ≡ true

-- the directory agrees with itself and with the reserved blocks
pub record IsWellFormed (d : Dpb) (es : List Entry) (reserved : List Bool) : Type 0 where
  pub once : (i j s t : ℕ) → InUse es i → InUse es j
      → block_number (entry_at es i).extent s ≢ 0 → block_number (entry_at es i).extent s ≡ block_number (entry_at es j).extent t → (i ≡ j) × (s ≡ t)
  pub stored : (i s : ℕ) → InUse es i → block_number (entry_at es i).extent s ≢ 0 → IsFileBlock d reserved (block_number (entry_at es i).extent s)
  pub directory : (b : ℕ) → b * (d.block_mask + 1) < directory_records d → is_reserved reserved b ≡ true
  pub apart : (i j : ℕ) → InUse es i
      → is_of d (entry_at es i).user (entry_at es i).extent.name (group_of d (extent_number (entry_at es i).extent)) (entry_at es j) ≡ true → i ≡ j

-- the file control block fits the directory: what it knows of its group is what the directory says, or more
pub record IsFcbKept (d : Dpb) (es : List Entry) (reserved : List Bool) (user : ℕ) (x : Extent) : Type 0 where
  pub index : ℕ
  pub plain : has_wildcard x.name ≡ false
  pub owner : is_of d user x.name (group_of d (extent_number x)) (entry_at es index) ≡ true
  pub full : extent_number x < extent_number (entry_at es index).extent → x.record_count ≡ 128
  pub once : (s t : ℕ) → block_number x s ≢ 0 → block_number x s ≡ block_number x t → s ≡ t
  pub stored : (s : ℕ) → block_number x s ≢ 0 → IsFileBlock d reserved (block_number x s)
  pub apart : (j s t : ℕ) → InUse es j → j ≢ index → block_number x s ≢ 0 → block_number x s ≢ block_number (entry_at es j).extent t
  pub agrees : (s : ℕ) → block_number (entry_at es index).extent s ≢ 0 → block_number x s ≡ block_number (entry_at es index).extent s

-- the index of the first entry that is not in use; the number of entries where all are
unfoldable pub first_free : List Entry → ℕ
first_free es = position_or_len (λ e. e.user == deleted) es

-- what holds of every format: the directory has a block and fills its records, AL0 and AL1 reserve its blocks and no others,
-- and an extent is a whole number of blocks
pub record IsFormat (d : Dpb) : Type 0 where
  pub has_directory : 0 < directory_records d
  pub whole_records : (d.last_entry + 1) % 4 ≡ 0
  pub reserves : (b : ℕ) → (is_directory_block d b ≡ true) ↔ (b * (d.block_mask + 1) < directory_records d)
  pub whole_blocks : 128 / (d.block_mask + 1) * (d.block_mask + 1) ≡ 128
  pub places : (d.extent_mask + 1) * (128 / (d.block_mask + 1)) ≤ 16

-- the record of the drive that is record n of a file whose block is b
unfoldable pub drive_record : Dpb → ℕ → ℕ → ℕ
drive_record d b n = b * (d.block_mask + 1) + block_offset d n

-- record n of a file whose block is b, 0 for none
unfoldable pub record_in : Dpb → List (List ℕ) → ℕ → ℕ → Option (List ℕ)
record_in d records b n =
    if b == 0 then None else Some (slice_index_or records (drive_record d b n) [])

-- record n of the file in the directory, if it is there
unfoldable pub file_record : Dpb → List Entry → List (List ℕ) → ℕ → List ℕ → ℕ → Option (List ℕ)
file_record d es records user name n = record_in d records (file_block d es user name n) n

-- record n of the file as an open file control block knows it, if it is there
unfoldable pub open_file_record : Dpb → List Entry → List (List ℕ) → ℕ → Extent → ℕ → Option (List ℕ)
open_file_record d es records user x n = record_in d records (open_file_block d es user x n) n

-- what is written to a disk: an entry of the directory, or a record
pub data DiskWrite : Type 0 where
  entry_put : (index : ℕ) (entry : Entry) → DiskWrite
  record_put : (number : ℕ) (bytes : List ℕ) → DiskWrite

-- what a drive holds of files: the directory's entries, the reserved blocks and the records; and what a call wrote to its disk, in order
pub record Volume : Type 0 where
  pub entries : List Entry
  pub reserved : List Bool
  pub records : List (List ℕ)
  pub written : List DiskWrite

-- the lists are as long as the format says
pub record IsVolume (d : Dpb) (v : Volume) : Type 0 where
  pub blocks : length v.reserved ≡ d.last_block + 1
  pub space : (d.last_block + 1) * (d.block_mask + 1) ≤ length v.records
  pub maps : (i : ℕ) → InUse v.entries i → length (entry_at v.entries i).extent.blocks ≡ 16

-- a file control block on a drive that agrees with itself
pub record IsSound (d : Dpb) (v : Volume) (user : ℕ) (x : Extent) : Type 0 where
  pub volume : IsVolume d v
  pub well_formed : IsWellFormed d v.entries v.reserved
  pub kept : IsFcbKept d v.entries v.reserved user x
  pub map : length x.blocks ≡ 16

-- a drive that agrees with itself
pub record IsSoundDrive (d : Dpb) (v : Volume) : Type 0 where
  pub volume : IsVolume d v
  pub well_formed : IsWellFormed d v.entries v.reserved
