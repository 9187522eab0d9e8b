-- own: the laws of a drive's disk: what a call leaves of its volume is what its disk has then.
use Rattle.std.specs.Prelude.{◌≡◌, ◌≢◌, ℕ, ◌+◌, ◌<◌, ◌≤◌, ⊤, Bool, false, List, [], ◌∷◌, Some, length, slice_index, slice_index_or}
use Rattle.cpm_geom.specs.declared.format.Format.{Format}
use Rattle.cpm_geom.specs.declared.dpb.Dpb.{Dpb}
use Rattle.cpm_geom.specs.Geometry.{dpb_of}
use Rattle.cpm_geom.specs.Disk.{Disk, IsDisk, HasBytes, record_count, records_of}
use Rattle.cpm_volume.specs.declared.extent.Extent.{Extent}
use Rattle.cpm_volume.specs.declared.extent.Entry.{Entry}
use Rattle.cpm_volume.specs.Files.{deleted, directory_records, file_record, open_file_record, Volume, DiskWrite}
use Rattle.cpm_volume.specs.Files.{entry_put, record_put, first_free, IsVolume, IsSound, IsSoundDrive}
use Rattle.cpm_volume.specs.Encoding.{IsStorable, AreBytes}
use Rattle.cpm_volume.specs.Operations.{VolumeOutcome, with_entry, closed, close_file_on_volume, make_file_on_volume, read_next_on_volume}
use Rattle.cpm_volume.specs.Operations.{read_random_on_volume, write_next_on_volume, write_random_on_volume, write_random_cleared_on_volume}
use Rattle.cpm_volume.specs.Names.{named, erase_files_on_volume, rename_files_on_volume, set_attributes_on_volume}
use Rattle.cpm_volume.specs.LogLaws.{logged_all}
use Rattle.cpm_directory.specs.Directory.{entries_of}
use Rattle.cpm_drive.specs.declared.drive.Drive.{Drive}
use Rattle.cpm_drive.specs.Drive.{volume_of, after_writes, drive_after}

-- ---- a disk and what it holds

-- own: the disk holds the volume: its entries, and its records outside the directory (the directory's own records are the entries' bytes)
pub record Holds (disk : Disk) (v : Volume) : Type 0 where
  pub entries : entries_of disk ≡ v.entries
  pub records : (n : ℕ) → directory_records (dpb_of disk.format) ≤ n → slice_index_or (records_of disk) n [] ≡ slice_index_or v.records n []

-- own: a disk of a format, of sectors of bytes, that holds the volume
pub record IsDiskOf (f : Format) (disk : Disk) (v : Volume) : Type 0 where
  pub format : disk.format ≡ f
  pub disk_is : IsDisk disk
  pub bytes : HasBytes disk
  pub holds : Holds disk v

-- own: what an extent says has room in its bytes
pub record IsOfBytes (d : Dpb) (x : Extent) : Type 0 where
  pub storable : IsStorable d x
  pub name : (k : ℕ) → slice_index x.name k < 256
  pub ex : x.ex < 256
  pub s1 : x.s1 < 256
  pub s2 : x.s2 < 256
  pub records : x.record_count < 256

-- ---- writes

-- own: what may be written to a disk: an entry of its directory that has room in its bytes, or the bytes of a record outside the directory
unfoldable pub Fits : Format → DiskWrite → Type 0
Fits f (entry_put index e) = (index ≤ (dpb_of f).last_entry) × (e.user < 256) × IsOfBytes (dpb_of f) e.extent
Fits f (record_put n bytes) = (directory_records (dpb_of f) ≤ n) × (n < record_count f) × AreBytes 128 bytes

-- own: each of them may be written
unfoldable pub AllFit : Format → List DiskWrite → Type 0
AllFit f [] = ⊤
AllFit f (w ∷ ws) = Fits f w × AllFit f ws

-- own: a disk has as many entries and records as its volume says, and each entry has a map of 16 places
abbrev pub VolumeLaw : Type 0
VolumeLaw =
    (disk : Disk) (reserved : List Bool) → length reserved ≡ (dpb_of disk.format).last_block + 1 → IsVolume (dpb_of disk.format) (volume_of disk reserved)

-- own: what is written to a disk is written in the volume that it holds
abbrev pub WritesLaw : Type 0
WritesLaw =
    (f : Format) (disk : Disk) (v : Volume) (ws : List DiskWrite) → IsDiskOf f disk v → AllFit f ws → IsDiskOf f (after_writes ws disk) (logged_all ws v)

-- ---- calls

-- own: a drive that may be written, of sectors of bytes
pub record IsWritable (drive : Drive) : Type 0 where
  pub disk : IsDisk drive.image
  pub bytes : HasBytes drive.image
  pub free : drive.marks.is_protected ≡ false

-- own: a drive's disk holds the volume once the volume's log is written to it
abbrev pub Reaches : Drive → Volume → Type 0
Reaches drive v = IsDiskOf drive.image.format (drive_after drive v).image v

-- own: so does the disk after a call on a record, and the file control block still has room in its bytes
pub record OutcomeReaches (drive : Drive) (o : VolumeOutcome) : Type 0 where
  pub disk : Reaches drive o.volume
  pub extent : IsOfBytes (dpb_of drive.image.format) o.extent

-- own: what a call on a file leaves of the drive's volume is what the disk holds then:
-- a read, a close and a make on any drive, a write on one that agrees with the file control block
pub record CallsReach (drive : Drive) (d : Dpb) (v : Volume) (user : ℕ) (x : Extent) : Type 0 where
  pub sequential_read : (current : ℕ) → OutcomeReaches drive (read_next_on_volume d false v user x current)
  pub random_read : (current n : ℕ) → n < 65536 → OutcomeReaches drive (read_random_on_volume d false v user x current n)
  pub sequential_write : (current : ℕ) (bytes : List ℕ) → user ≢ deleted → IsSound d v user x
      → AreBytes 128 bytes → OutcomeReaches drive (write_next_on_volume d v user x current bytes)
  pub random_write : (current n : ℕ) (bytes : List ℕ) → user ≢ deleted → IsSound d v user x → n < 65536
      → AreBytes 128 bytes → OutcomeReaches drive (write_random_on_volume d v user x current n bytes)
  pub clearing_write : (current n : ℕ) (bytes : List ℕ) → user ≢ deleted → IsSound d v user x → n < 65536
      → AreBytes 128 bytes → OutcomeReaches drive (write_random_cleared_on_volume d v user x current n bytes)
  pub close : (index : ℕ) (after : List Entry) (x' : Extent) → close_file_on_volume d false v.entries user x ≡ closed index after x'
      → Reaches drive (with_entry v index after) × IsOfBytes d x'
  pub make : (after : List Entry) (x' : Extent) → make_file_on_volume v.entries user x ≡ Some (after, x')
      → Reaches drive (with_entry v (first_free v.entries) after) × IsOfBytes d x'

-- own: so is what a call on all entries of a name leaves
pub record NamedCallsReach (drive : Drive) (d : Dpb) (v : Volume) (user : ℕ) (pattern : List ℕ) : Type 0 where
  pub erase : (first : ℕ) (v' : Volume) → erase_files_on_volume d v user pattern ≡ named first v' → Reaches drive v'
  pub rename : (name : List ℕ) (first : ℕ) (v' : Volume) → AreBytes 11 name → rename_files_on_volume v user pattern name ≡ named first v' → Reaches drive v'
  pub attributes : (first : ℕ) (v' : Volume) → AreBytes 11 pattern → set_attributes_on_volume v user pattern ≡ named first v' → Reaches drive v'

-- own: over all drives that may be written, file control blocks and patterns
abbrev pub CallsLaw : Type 0
CallsLaw =
    (drive : Drive) → IsWritable drive
    → ((user : ℕ) (x : Extent) → user < 256 → IsOfBytes (dpb_of drive.image.format) x
    → CallsReach drive (dpb_of drive.image.format) (volume_of drive.image drive.marks.reserved) user x)
    × ((user : ℕ) (pattern : List ℕ) → NamedCallsReach drive (dpb_of drive.image.format) (volume_of drive.image drive.marks.reserved) user pattern)

-- ---- the volume that a disk holds and the disk's own

-- own: what is said of files by the volume that a disk holds holds by the disk
pub record ReadsTheSame (disk : Disk) (d : Dpb) (v : Volume) : Type 0 where
  pub sound : (user : ℕ) (x : Extent) → IsSound d v user x → IsSound d (volume_of disk v.reserved) user x
  pub sound_drive : IsSoundDrive d v → IsSoundDrive d (volume_of disk v.reserved)
  pub by_control_block : (user : ℕ) (x : Extent) (m : ℕ) → user ≢ deleted → IsSound d v user x
      → open_file_record d (entries_of disk) (records_of disk) user x m ≡ open_file_record d v.entries v.records user x m
  pub by_directory : (user : ℕ) (name : List ℕ) (m : ℕ) → user ≢ deleted → IsSoundDrive d v
      → file_record d (entries_of disk) (records_of disk) user name m ≡ file_record d v.entries v.records user name m

abbrev pub HoldsLaw : Type 0
HoldsLaw = (disk : Disk) (v : Volume) → Holds disk v → ReadsTheSame disk (dpb_of disk.format) v
