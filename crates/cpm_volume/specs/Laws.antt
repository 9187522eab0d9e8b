-- The laws of files, over all drives and file control blocks.
use Rattle.std.specs.Prelude.{◌≡◌, ◌≢◌, ◌⊎◌, ℕ, ◌+◌, ◌*◌, ◌%◌, ◌<◌, ◌≤◌, Bool, false, true, List, [], Some, None, length, replicate, slice_index_or}
use Rattle.cpm_geom.specs.declared.dpb.Dpb.{Dpb}
use Rattle.cpm_geom.specs.declared.format.Format.{Format}
use Rattle.cpm_geom.specs.Geometry.{dpb_of}
use Rattle.cpm_volume.specs.declared.extent.Extent.{Extent}
use Rattle.cpm_volume.specs.declared.extent.Entry.{Entry}
use Rattle.cpm_volume.specs.Files.{extent_number, group_of, is_of, entry_at, InUse, same_name, deleted, is_reserved}
use Rattle.cpm_volume.specs.Files.{first_free, file_block, open_file_block, directory_records, file_record, open_file_record}
use Rattle.cpm_volume.specs.Files.{IsWellFormed, IsFcbKept, IsFormat, IsVolume, IsSound, IsSoundDrive, Volume, has_wildcard}
use Rattle.cpm_volume.specs.Operations.{read_only, done, no_record, no_block, no_extent, no_entry_free, fault, VolumeOutcome, with_entry, closed}
use Rattle.cpm_volume.specs.Operations.{close_fault, close_file_on_volume, open_file_on_volume, make_file_on_volume, read_next_on_volume}
use Rattle.cpm_volume.specs.Operations.{write_next_on_volume, read_random_on_volume, write_random_on_volume, write_random_cleared_on_volume}

-- ---- what a call leaves

-- the files in the directory but the one named are as they were
pub record OthersStay (d : Dpb) (user : ℕ) (name : List ℕ) (v v' : Volume) : Type 0 where
  pub stay : (other : ℕ) (other_name : List ℕ) (m : ℕ) → other ≢ deleted → (other ≡ user → same_name other_name name ≡ true → ⊥)
      → file_record d v'.entries v'.records other other_name m ≡ file_record d v.entries v.records other other_name m

-- the file control block's file is as it was
pub record FileStays (d : Dpb) (user : ℕ) (v : Volume) (x : Extent) (v' : Volume) (x' : Extent) : Type 0 where
  pub stay : (m : ℕ) → open_file_record d v'.entries v'.records user x' m ≡ open_file_record d v.entries v.records user x m

-- each record that the file had is as it was
pub record LosesNone (d : Dpb) (user : ℕ) (v : Volume) (x : Extent) (v' : Volume) (x' : Extent) : Type 0 where
  pub stay : (m : ℕ) → open_file_record d v.entries v.records user x m ≢ None
      → open_file_record d v'.entries v'.records user x' m ≡ open_file_record d v.entries v.records user x m

-- record n now has these bytes; each other that the file had is as it was
pub record HasWritten (d : Dpb) (user : ℕ) (v : Volume) (x : Extent) (n : ℕ) (bytes : List ℕ) (v' : Volume) (x' : Extent) : Type 0 where
  pub there : open_file_record d v'.entries v'.records user x' n ≡ Some bytes
  pub others : (m : ℕ) → m ≢ n → open_file_record d v.entries v.records user x m ≢ None
      → open_file_record d v'.entries v'.records user x' m ≡ open_file_record d v.entries v.records user x m

-- but record n each record of the file in a block that was not reserved before is zeros
pub record HasCleared (d : Dpb) (user : ℕ) (v : Volume) (n : ℕ) (v' : Volume) (x' : Extent) : Type 0 where
  pub zeros : (m : ℕ) → m ≢ n → is_reserved v.reserved (open_file_block d v'.entries user x' m) ≡ false
      → open_file_record d v'.entries v'.records user x' m ≡ Some (replicate 128 0)

-- the number of the record that a file control block stands at
unfoldable pub position : Extent → ℕ → ℕ
position x current = 128 * extent_number x + current

-- whatever a call answers, the drive and the file control block agree, no block became free, and the other files are as they were
pub record StaysSound (d : Dpb) (user : ℕ) (v : Volume) (x : Extent) (o : VolumeOutcome) : Type 0 where
  pub sound : IsSound d o.volume user o.extent
  pub current : o.current ≤ 128
  pub reserved : (b : ℕ) → is_reserved v.reserved b ≡ true → is_reserved o.volume.reserved b ≡ true
  pub others : OthersStay d user x.name v o.volume

-- nothing has changed
pub record IsUntouched (v : Volume) (x : Extent) (current : ℕ) (o : VolumeOutcome) : Type 0 where
  pub volume : o.volume ≡ v
  pub extent : o.extent ≡ x
  pub current_is : o.current ≡ current
  pub read : o.read ≡ None

-- ---- reads

-- record n was read: the drive's record of a number, none of the directory's
pub record HasReadRecord (d : Dpb) (user : ℕ) (v : Volume) (x : Extent) (n : ℕ) (o : VolumeOutcome) : Type 0 where
  pub number : ℕ
  pub given : o.read ≡ Some number
  pub there : open_file_record d v.entries v.records user x n ≡ Some (slice_index_or v.records number [])
  pub outside : directory_records d ≤ number

-- the file has no record n
pub record HasNone (d : Dpb) (user : ℕ) (v : Volume) (x : Extent) (n : ℕ) (o : VolumeOutcome) : Type 0 where
  pub none : open_file_record d v.entries v.records user x n ≡ None
  pub given : o.read ≡ None

-- a close was refused since the drive is protected
pub record IsProtected (protected : Bool) (v : Volume) (x : Extent) (current : ℕ) (o : VolumeOutcome) : Type 0 where
  pub answer : o.answer ≡ fault read_only
  pub protected_is : protected ≡ true
  pub untouched : IsUntouched v x current o

-- a sequential read answers the file's record at the position, or 01 where it has none
abbrev pub ReadsNext : Dpb → ℕ → Bool → Volume → Extent → ℕ → VolumeOutcome → Type 0
ReadsNext d user protected v x current o =
    StaysSound d user v x o × FileStays d user v x o.volume o.extent
    × (((o.answer ≡ done) × HasReadRecord d user v x (position x current) o × (position o.extent o.current ≡ position x current + 1))
    ⊎ (((o.answer ≡ no_record) × HasNone d user v x (position x current) o × (position o.extent o.current ≡ position x current))
    ⊎ IsProtected protected v x current o))

-- a random read answers the file's record n, or 01 or 04 where it has none; with 04 it stays where it was
abbrev pub ReadsRandom : Dpb → ℕ → Bool → Volume → Extent → ℕ → ℕ → VolumeOutcome → Type 0
ReadsRandom d user protected v x current n o =
    StaysSound d user v x o × FileStays d user v x o.volume o.extent
    × (((o.answer ≡ done) × HasReadRecord d user v x n o × (position o.extent o.current ≡ n))
    ⊎ (((o.answer ≡ no_record) × HasNone d user v x n o × (position o.extent o.current ≡ n))
    ⊎ (((o.answer ≡ no_extent) × HasNone d user v x n o × (o.extent ≡ x) × (o.current ≡ current)) ⊎ IsProtected protected v x current o)))

-- ---- writes

-- every entry is in use
pub record IsFull (es : List Entry) : Type 0 where
  pub used : (i : ℕ) → i < length es → InUse es i

-- 01, 05: the file control block stays, and the file has no record n
pub record HasNoExtent (d : Dpb) (user : ℕ) (v : Volume) (x : Extent) (current n : ℕ) (o : VolumeOutcome) : Type 0 where
  pub file : FileStays d user v x o.volume o.extent
  pub extent : o.extent ≡ x
  pub current_is : o.current ≡ current
  pub read : o.read ≡ None
  pub none : open_file_record d v.entries v.records user x n ≡ None

-- 02: all blocks are reserved, and the file has no record n; where extents share no entry the file is as it was
pub record HasNoBlock (d : Dpb) (user : ℕ) (v : Volume) (x : Extent) (n : ℕ) (o : VolumeOutcome) : Type 0 where
  pub file : LosesNone d user v x o.volume o.extent
  pub exact : d.extent_mask ≡ 0 → FileStays d user v x o.volume o.extent
  pub position_is : position o.extent o.current ≡ n
  pub read : o.read ≡ None
  pub none : open_file_record d v.entries v.records user x n ≡ None
  pub full : (b : ℕ) → is_reserved v.reserved b ≡ true

-- 00: record n is written, and the file control block stands at a record afterwards
pub record HasDone (d : Dpb) (user : ℕ) (v : Volume) (x : Extent) (n : ℕ) (bytes : List ℕ) (after : ℕ) (o : VolumeOutcome) : Type 0 where
  pub answer : o.answer ≡ done
  pub written : HasWritten d user v x n bytes o.volume o.extent
  pub position_is : position o.extent o.current ≡ after
  pub none_read : o.read ≡ None

-- a sequential write writes the record at the position; 01 where the file has its last extent or the directory is full
abbrev pub WritesNext : Dpb → ℕ → Volume → Extent → ℕ → List ℕ → VolumeOutcome → Type 0
WritesNext d user v x current bytes o =
    StaysSound d user v x o
    × (HasDone d user v x (position x current) bytes (position x current + 1) o
    ⊎ (((o.answer ≡ no_record) × HasNoExtent d user v x current (position x current) o × ((extent_number x ≡ 511) ⊎ IsFull v.entries))
    ⊎ ((o.answer ≡ no_block) × HasNoBlock d user v x (position x current) o)))

-- a random write writes record n; 05 where the directory is full
abbrev pub WritesRandom : Dpb → ℕ → Volume → Extent → ℕ → ℕ → List ℕ → VolumeOutcome → Type 0
WritesRandom d user v x current n bytes o =
    StaysSound d user v x o
    × (HasDone d user v x n bytes n o
    ⊎ (((o.answer ≡ no_entry_free) × HasNoExtent d user v x current n o × IsFull v.entries) ⊎ ((o.answer ≡ no_block) × HasNoBlock d user v x n o)))

-- a block that the call took is zeros but for record n
abbrev pub ClearsBlock : Dpb → ℕ → Volume → ℕ → VolumeOutcome → Type 0
ClearsBlock d user v n o = (o.answer ≡ done) → HasCleared d user v n o.volume o.extent

-- ---- close, open, make

-- after a close the directory has the file as the file control block knew it, no other file changed,
-- and the drive still agrees with itself and with the file control block
pub record ClosesFile (d : Dpb) (protected : Bool) (v : Volume) (user : ℕ) (x : Extent) : Type 0 where
  pub index : ℕ
  pub after : List Entry
  pub answer : close_file_on_volume d protected v.entries user x ≡ closed index after x
  pub owner : is_of d user x.name (group_of d (extent_number x)) (entry_at v.entries index) ≡ true
  pub protects : protected ≡ true → after ≡ v.entries
  pub file : (n : ℕ) → file_block d after user x.name n ≡ open_file_block d v.entries user x n
  pub open_file_record : (n : ℕ) → open_file_block d after user x n ≡ open_file_block d v.entries user x n
  pub others : (other : ℕ) (name : List ℕ) → (other ≡ user → same_name name x.name ≡ true → ⊥)
      → (n : ℕ) → file_block d after other name n ≡ file_block d v.entries other name n
  pub well_formed : IsWellFormed d after v.reserved
  pub kept : IsFcbKept d after v.reserved user x
  pub sound : IsVolume d v → length x.blocks ≡ 16 → IsSound d (with_entry v index after) user x

-- the file control block knows the file as the directory has it
pub record KnowsFile (d : Dpb) (user : ℕ) (name : List ℕ) (v : Volume) (v' : Volume) (x : Extent) : Type 0 where
  pub name_is : same_name x.name name ≡ true
  pub file : (m : ℕ) → open_file_record d v'.entries v'.records user x m ≡ file_record d v.entries v.records user name m
  pub sound : IsSound d v' user x

-- the directory's entry of the user, name and group that an open asks for, if it has one, is of a lesser number than its extent's
pub record HasNoFile (d : Dpb) (user : ℕ) (v : Volume) (x : Extent) : Type 0 where
  pub lesser : (i : ℕ) → is_of d user x.name (group_of d (x.ex % 32)) (entry_at v.entries i) ≡ true → extent_number (entry_at v.entries i).extent < x.ex % 32

-- it has one, of no lesser number
pub record HasFile (d : Dpb) (user : ℕ) (v : Volume) (x : Extent) : Type 0 where
  pub index : ℕ
  pub owner : is_of d user x.name (group_of d (x.ex % 32)) (entry_at v.entries index) ≡ true
  pub no_lesser : x.ex % 32 ≤ extent_number (entry_at v.entries index).extent

-- an open answers that there is no such file exactly where the directory has none, or the file
abbrev pub OpensFile : Dpb → ℕ → Volume → Extent → Type 0
OpensFile d user v x =
    ((open_file_on_volume d v.entries user x ≡ None) × HasNoFile d user v x)
    ⊎ ((x' : Extent) × (open_file_on_volume d v.entries user x ≡ Some x') × HasFile d user v x × (extent_number x' ≡ x.ex % 32)
    × KnowsFile d user x.name v v x')

-- the first entry that is not in use is one of the directory's
pub record HasFreeEntry (es : List Entry) : Type 0 where
  pub within : first_free es < length es
  pub unused : (entry_at es (first_free es)).user ≡ deleted

-- a make answers that the directory is full exactly where it is, or makes an extent of the file at a free entry and changes no file
abbrev pub MakesFile : Dpb → ℕ → Volume → Extent → Type 0
MakesFile d user v x =
    ((make_file_on_volume v.entries user x ≡ None) × IsFull v.entries)
    ⊎ ((es : List Entry) × (x' : Extent) × (make_file_on_volume v.entries user x ≡ Some (es, x')) × HasFreeEntry v.entries × (extent_number x' ≡ x.ex % 32)
    × KnowsFile d user x.name v (with_entry v (first_free v.entries) es) x'
    × ((other : ℕ) (name : List ℕ) (m : ℕ) → other ≢ deleted
    → file_record d es v.records other name m ≡ file_record d v.entries v.records other name m))

-- ---- the laws

-- the parameters of both disks serve files
abbrev pub FormatsLaw : Type 0
FormatsLaw = (f : Format) → IsFormat (dpb_of f)

abbrev pub CloseLaw : Type 0
CloseLaw =
    (d : Dpb) (protected : Bool) (v : Volume) (user : ℕ) (x : Extent) → user ≢ deleted → IsWellFormed d v.entries v.reserved
    → IsFcbKept d v.entries v.reserved user x
    → ClosesFile d protected v user x ⊎ ((protected ≡ true) × (close_file_on_volume d protected v.entries user x ≡ close_fault read_only))

abbrev pub SequentialReadLaw : Type 0
SequentialReadLaw =
    (d : Dpb) (user : ℕ) (protected : Bool) (v : Volume) (x : Extent) (current : ℕ) → user ≢ deleted → IsSound d v user x → current ≤ 128
    → ReadsNext d user protected v x current (read_next_on_volume d protected v user x current)

abbrev pub RandomReadLaw : Type 0
RandomReadLaw =
    (d : Dpb) (user : ℕ) (protected : Bool) (v : Volume) (x : Extent) (current n : ℕ) → user ≢ deleted → IsSound d v user x → current ≤ 128
    → n < 65536 → ReadsRandom d user protected v x current n (read_random_on_volume d protected v user x current n)

abbrev pub SequentialWriteLaw : Type 0
SequentialWriteLaw =
    (d : Dpb) (user : ℕ) (v : Volume) (x : Extent) (current : ℕ) (bytes : List ℕ) → user ≢ deleted → IsFormat d → IsSound d v user x → current ≤ 128
    → WritesNext d user v x current bytes (write_next_on_volume d v user x current bytes)

abbrev pub RandomWriteLaw : Type 0
RandomWriteLaw =
    (d : Dpb) (user : ℕ) (v : Volume) (x : Extent) (current n : ℕ) (bytes : List ℕ) → user ≢ deleted → IsFormat d → IsSound d v user x → current ≤ 128
    → n < 65536 → WritesRandom d user v x current n bytes (write_random_on_volume d v user x current n bytes)

abbrev pub ClearingWriteLaw : Type 0
ClearingWriteLaw =
    (d : Dpb) (user : ℕ) (v : Volume) (x : Extent) (current n : ℕ) (bytes : List ℕ) → user ≢ deleted → IsFormat d → IsSound d v user x → current ≤ 128
    → n < 65536
    → WritesRandom d user v x current n bytes (write_random_cleared_on_volume d v user x current n bytes)
    × ClearsBlock d user v n (write_random_cleared_on_volume d v user x current n bytes)

abbrev pub OpenLaw : Type 0
OpenLaw =
    (d : Dpb) (user : ℕ) (v : Volume) (x : Extent) → user ≢ deleted → IsSoundDrive d v → has_wildcard x.name ≡ false → OpensFile d user v x

abbrev pub MakeLaw : Type 0
MakeLaw =
    (d : Dpb) (user : ℕ) (v : Volume) (x : Extent) → user ≢ deleted → IsSoundDrive d v → has_wildcard x.name ≡ false
    → ((j : ℕ) → is_of d user x.name (group_of d (x.ex % 32)) (entry_at v.entries j) ≡ false) → MakesFile d user v x
