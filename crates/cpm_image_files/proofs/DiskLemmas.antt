-- What a call on a drive leaves of its disk.
use Rattle.std.proofs.Common.{◌≡◌, ◌≢◌, ℕ, ◌≤◌, Bool, true, false, List, [], get_or, sym, subst, refl, ap, ◌∙◌}
use Rattle.cpm_geom.specs.declared.format.Format.{Format}
use Rattle.cpm_geom.specs.Geometry.{dpb_of}
use Rattle.cpm_geom.specs.Disk.{Disk, records_of}
use Rattle.cpm_volume.specs.declared.extent.Extent.{Extent}
use Rattle.cpm_volume.specs.Files.{deleted, directory_records, same_name, file_record, open_file_record, IsSound, IsSoundDrive, Volume}
use Rattle.cpm_directory.specs.Directory.{entries_of}
use Rattle.cpm_drive.specs.declared.drive.Drive.{Drive}
use Rattle.cpm_drive.specs.Drive.{volume_of, drive_after}
use Rattle.cpm_drive.specs.Laws.{IsWritable, Reaches, ReadsTheSame}
use Rattle.cpm_drive.proofs.DiskFiles.{reads_the_same}
use Rattle.cpm_image_files.specs.ImageFiles.{record_on}
use Rattle.cpm_image_files.specs.Appending.{KeepsEntries}
use Rattle.cpm_image_files.specs.Writing.{KeepsDisk}
use Rattle.cpm_image_files.proofs.EndLemmas.{keeps-trans}
use Rattle.cpm_image_files.proofs.SystemLemmas.{system_after}

-- the drive's disk is of the format and has what a call left of its volume
pub record HasVolume (f : Format) (drive : Drive) (v : Volume) : Type 0 where
  pub format : drive.image.format ≡ f
  pub writable : IsWritable drive
  pub entries : entries_of drive.image ≡ v.entries
  pub reserved : drive.marks.reserved ≡ v.reserved
  pub records : (n : ℕ) → directory_records (dpb_of f) ≤ n → get_or (records_of drive.image) n [] ≡ get_or v.records n []
  pub sound : (user : ℕ) (x : Extent) → IsSound (dpb_of f) v user x → IsSound (dpb_of f) (volume_of drive.image drive.marks.reserved) user x
  pub sound_drive : IsSoundDrive (dpb_of f) v → IsSoundDrive (dpb_of f) (volume_of drive.image drive.marks.reserved)
  pub opened : (user : ℕ) (x : Extent) (m : ℕ) → user ≢ deleted → IsSound (dpb_of f) v user x → open_file_record (dpb_of f) (entries_of drive.image) (records_of drive.image) user x m ≡ open_file_record (dpb_of f) v.entries v.records user x m
  pub listed : (user : ℕ) (name : List ℕ) (m : ℕ) → user ≢ deleted → IsSoundDrive (dpb_of f) v → record_on drive.image user name m ≡ file_record (dpb_of f) v.entries v.records user name m

reserved_after_call : (drive : Drive) (v : Volume) → (drive_after drive v).marks.reserved ≡ v.reserved
unfolding drive_after
reserved_after_call drive v = refl

protected_after_call : (drive : Drive) (v : Volume) → (drive_after drive v).marks.is_protected ≡ drive.marks.is_protected
unfolding drive_after
protected_after_call drive v = refl

pub record_in_format : (f : Format) (disk : Disk) (user : ℕ) (name : List ℕ) (m : ℕ) → disk.format ≡ f → record_on disk user name m ≡ file_record (dpb_of f) (entries_of disk) (records_of disk) user name m
record_in_format f disk user name m e =
    ap (λ g. file_record (dpb_of g) (entries_of disk) (records_of disk) user name m) e

pub has_volume : (f : Format) (drive : Drive) (v : Volume) → drive.image.format ≡ f → drive.marks.is_protected ≡ false → Reaches drive v → HasVolume f (drive_after drive v) v
has_volume f drive v format free reaches =
    let disk : Disk = (drive_after drive v).image in
    let same : disk.format ≡ f = reaches.format ∙ format in
    let reserved : (drive_after drive v).marks.reserved ≡ v.reserved = reserved_after_call drive v in
    let reads : ReadsTheSame disk (dpb_of f) v = subst (λ (g : Format). ReadsTheSame disk (dpb_of g) v) same (reads_the_same disk v reaches.holds) in
    record {
      format = same;
      writable = record { disk = reaches.disk_is; bytes = reaches.bytes; free = protected_after_call drive v ∙ free };
      entries = reaches.holds.entries;
      reserved = reserved;
      records = λ n h. reaches.holds.records n (rw same h);
      sound = λ user x h. subst (λ (r : List Bool). IsSound (dpb_of f) (volume_of disk r) user x) (sym reserved) (reads.sound user x h);
      sound_drive = λ h. subst (λ (r : List Bool). IsSoundDrive (dpb_of f) (volume_of disk r)) (sym reserved) (reads.sound_drive h);
      opened = λ user x m ok h. reads.by_control_block user x m ok h;
      listed = λ user name m ok h. record_in_format f disk user name m same ∙ reads.by_directory user name m ok h;
    }

-- the other files are kept on the way
pub keeps_on : (old : Disk) (user : ℕ) (name : List ℕ) (drive : Drive) (v : Volume) → KeepsDisk old user name drive → HasVolume old.format (drive_after drive v) v → KeepsEntries user name (entries_of drive.image) v.entries → IsSoundDrive (dpb_of old.format) v → ((other : ℕ) (other_name : List ℕ) (m : ℕ) → other ≢ deleted → (other ≡ user → same_name other_name name ≡ true → ⊥) → file_record (dpb_of old.format) v.entries v.records other other_name m ≡ file_record (dpb_of old.format) (entries_of drive.image) (records_of drive.image) other other_name m) → KeepsDisk old user name (drive_after drive v)
keeps_on old user name drive v keeps has entries sound others = record {
  format = has.format;
  writable = has.writable;
  entries = subst (λ es. KeepsEntries user name (entries_of old) es) (sym has.entries) (keeps-trans user name (entries_of old) (entries_of drive.image) v.entries keeps.entries entries);
  records = λ other other_name m ok apart.
      has.listed other other_name m ok sound ∙ (others other other_name m ok apart ∙ (sym (record_in_format old.format drive.image other other_name m keeps.format) ∙ keeps.records other other_name m ok apart));
  system = λ place h. system_after drive v place keeps.writable.free (rw keeps.format h) ∙ keeps.system place h;
}

-- a volume's entries and records are the disk's
pub volume_entries : (disk : Disk) (reserved : List Bool) → (volume_of disk reserved).entries ≡ entries_of disk
unfolding volume_of
volume_entries disk reserved = refl
