-- Records that are written one after the other, at the end of a file.
use Rattle.std.specs.Prelude.{◌≡◌, ◌≢◌, ◌⊎◌, ℕ, ◌+◌, ◌*◌, ◌%◌, ◌<◌, ◌≤◌, Bool, true, false, not, ◌&&◌, ◌==◌, nat_lt, if◌then◌else◌}
use Rattle.std.specs.Prelude.{List, [], count_by, slice_index_or}
use Rattle.cpm_geom.specs.declared.dpb.Dpb.{Dpb}
use Rattle.cpm_volume.specs.declared.extent.Extent.{Extent}
use Rattle.cpm_volume.specs.declared.extent.Entry.{Entry}
use Rattle.cpm_volume.specs.Files.{deleted, extent_number, entry_at, InUse, block_number, Volume}
use Rattle.cpm_volume.specs.Names.{is_named}
use Rattle.cpm_volume.specs.declared.answer.Answer.TheVariants.{Done as done, NoRecord as no_record, NoBlock as no_block}
use Rattle.cpm_volume.specs.Operations.{VolumeOutcome}
use Rattle.cpm_image_files.specs.ImageFiles.{block_of_record, IsBlockOf}

-- how many entries are not in use (own)
unfoldable pub unused : List Entry → ℕ
unused es = count_by (λ e. e.user == deleted) es

-- how many blocks are not reserved (own)
unfoldable pub unreserved : List Bool → ℕ
unreserved reserved = count_by not reserved

-- the records of an entry up to where a file control block stands (own)
abbrev pub records_in_entry : Dpb → Extent → ℕ → ℕ
records_in_entry d x current = 128 * (extent_number x % (d.extent_mask + 1)) + current

-- The file control block stands at the end of its file: it is of the last extent, which has blocks for the records before it and no others. (own)
pub record IsAtEnd (d : Dpb) (user : ℕ) (name : List ℕ) (v : Volume) (x : Extent) (current : ℕ) : Type 0 where
  pub name_is : x.name ≡ name
  pub names : (i : ℕ) → is_named user name (entry_at v.entries i) ≡ true → (entry_at v.entries i).extent.name ≡ name
  pub last : (i : ℕ) → is_named user name (entry_at v.entries i) ≡ true → extent_number (entry_at v.entries i).extent ≤ extent_number x
  pub count : x.record_count ≡ current
  pub small : current ≤ 128
  pub taken : (s : ℕ) → s * (d.block_mask + 1) < records_in_entry d x current → block_number x s ≢ 0
  pub rest : (s : ℕ) → records_in_entry d x current ≤ s * (d.block_mask + 1) → block_number x s ≡ 0

-- It does, and its entry is there: only at record 0 it has none before it in the extent. (own)
pub record IsAppending (d : Dpb) (user : ℕ) (name : List ℕ) (v : Volume) (x : Extent) (current : ℕ) : Type 0 where
  pub at_end : IsAtEnd d user name v x current
  pub begun : current ≡ 0 → extent_number x ≡ 0

-- The entries in use of other users and names are as they were, and there are no more of them. (own)
pub record KeepsEntries (user : ℕ) (name : List ℕ) (es es' : List Entry) : Type 0 where
  pub stay : (i : ℕ) → InUse es i → is_named user name (entry_at es i) ≡ false → entry_at es' i ≡ entry_at es i
  pub no_more : (i : ℕ) → InUse es' i → is_named user name (entry_at es' i) ≡ false → entry_at es i ≡ entry_at es' i

-- a block of a file that is open: the file control block has its number, or an entry of the file (own)
abbrev pub IsOpenBlockOf : List Entry → ℕ → List ℕ → Extent → ℕ → Type 0
IsOpenBlockOf es user name x b = ((s : ℕ) × (b ≢ 0) × (block_number x s ≡ b)) ⊎ IsBlockOf es user name b

-- Each record is as it was, or is in a block of the open file; and the file loses no block. (own)
pub record KeepsToBlocks (d : Dpb) (user : ℕ) (name : List ℕ) (v : Volume) (x : Extent) (v' : Volume) (x' : Extent) : Type 0 where
  pub records : (n : ℕ) → (slice_index_or v'.records n [] ≡ slice_index_or v.records n [])
      ⊎ IsOpenBlockOf v'.entries user name x' (block_of_record d n)
  pub blocks : (b : ℕ) → IsOpenBlockOf v.entries user name x b → IsOpenBlockOf v'.entries user name x' b

-- the entries that record n of a file is the first of: record 0 is in the entry that was made with the file (own)
unfoldable pub entries_begun : Dpb → ℕ → ℕ
entries_begun d n = if nat_lt 0 n && (n % (128 * (d.extent_mask + 1)) == 0) then 1 else 0

-- the blocks that it is the first of (own)
unfoldable pub blocks_begun : Dpb → ℕ → ℕ
blocks_begun d n = if n % (d.block_mask + 1) == 0 then 1 else 0

-- The record was written at the end: the file control block stands at the new end, the call took what the record begins,
-- and no record has changed but in the file's blocks. (own)
pub record IsAppended (d : Dpb) (user : ℕ) (name : List ℕ) (v : Volume) (x : Extent) (n : ℕ) (o : VolumeOutcome) : Type 0 where
  pub answer : o.answer ≡ done
  pub appending : IsAppending d user name o.volume o.extent o.current
  pub others : KeepsEntries user name v.entries o.volume.entries
  pub own : KeepsToBlocks d user name v x o.volume o.extent
  pub entries : unused o.volume.entries + entries_begun d n ≡ unused v.entries
  pub blocks : unreserved o.volume.reserved + blocks_begun d n ≡ unreserved v.reserved

-- It was not, because no entry is free. (own)
pub record LacksEntry (d : Dpb) (v : Volume) (n : ℕ) (o : VolumeOutcome) : Type 0 where
  pub answer : o.answer ≡ no_record
  pub due : entries_begun d n ≡ 1
  pub none : unused v.entries ≡ 0

-- It was not, because no block is free. (own)
pub record LacksBlock (d : Dpb) (v : Volume) (n : ℕ) (o : VolumeOutcome) : Type 0 where
  pub answer : o.answer ≡ no_block
  pub due : blocks_begun d n ≡ 1
  pub none : unreserved v.reserved ≡ 0
