-- How far the records of an entry reach, and those of a file.
use Rattle.std.specs.Prelude.{◌≡◌, ◌≢◌, ℕ, ◌-◌, ◌/◌, ◌<◌, ◌≤◌, Bool, true, ◌==◌, ◌&&◌, List, Option, Some, None, MatchOption, length}
use Rattle.cpm_geom.specs.declared.dpb.Dpb.{Dpb}
use Rattle.cpm_geom.specs.Geometry.{dpb_of}
use Rattle.cpm_geom.specs.Disk.{Disk}
use Rattle.cpm_volume.specs.declared.extent.Entry.{Entry}
use Rattle.cpm_volume.specs.Files.{same_name, extent_number, group_of, first_of, entry_block, entry_at, block_number}
use Rattle.cpm_directory.specs.Directory.{entries_of}

-- an entry of a user and a name, whatever the attribute bits and a question mark in the name (own)
unfoldable pub is_of_file : ℕ → List ℕ → Entry → Bool
is_of_file user name e = (e.user == user) && same_name name e.extent.name

-- the record with this number is of the entry's group of extents (own)
abbrev pub IsInGroup : Dpb → Entry → ℕ → Type 0
IsInGroup d e n = group_of d (n / 128) ≡ group_of d (extent_number e.extent)

-- An entry has a block for the last record before an end, and none for those of its group from there on. (own)
pub record IsEnd (d : Dpb) (e : Entry) (end : ℕ) : Type 0 where
  pub last : 0 < end → IsInGroup d e (end - 1) × (entry_block d e (end - 1) ≢ 0)
  pub none : (n : ℕ) → IsInGroup d e n → end ≤ n → entry_block d e n ≡ 0

-- Of a file's entries before an index one has a block for the last record before an end, and none has one for those from there on. (own)
pub record IsEndBefore (d : Dpb) (es : List Entry) (user : ℕ) (name : List ℕ) (index end : ℕ) : Type 0 where
  pub small : end ≤ 65536
  pub last : 0 < end → (i : ℕ) × (i < index) × (is_of_file user name (entry_at es i) ≡ true)
      × IsInGroup d (entry_at es i) (end - 1) × (entry_block d (entry_at es i) (end - 1) ≢ 0)
  pub none : (i n : ℕ) → i < index → is_of_file user name (entry_at es i) ≡ true → IsInGroup d (entry_at es i) n → end ≤ n → entry_block d (entry_at es i) n ≡ 0

-- the index of the entry of a file that has record n (own)
abbrev pub first_for : Disk → ℕ → List ℕ → ℕ → ℕ
first_for disk user name n = first_of (dpb_of disk.format) (entries_of disk) user name (group_of (dpb_of disk.format) (n / 128))

-- the entry of a file's record, none where the directory has none of its group (own)
abbrev pub IsEntryOf : Disk → ℕ → List ℕ → ℕ → Option Entry → Type 0
IsEntryOf disk user name n entry =
    MatchOption entry
    (length (entries_of disk) ≤ first_for disk user name n)
    (λ e. (e ≡ entry_at (entries_of disk) (first_for disk user name n)) × (first_for disk user name n < length (entries_of disk)))

-- the block of a record by the entry of its group, 0 where there is none (own)
abbrev pub block_by : Dpb → Option Entry → ℕ → ℕ
block_by d None n = 0
block_by d (Some e) n = entry_block d e n

-- the numbers of an entry's map are of blocks that the drive has (own)
abbrev pub IsOnDrive : Dpb → Entry → Type 0
IsOnDrive d e = (place : ℕ) → block_number e.extent place ≤ d.last_block
