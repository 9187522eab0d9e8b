-- The files of a disk are those of the volume that it holds.
use Rattle.std.proofs.Common.{◌≡◌, ◌≢◌, ℕ, ◌+◌, ◌*◌, ◌≤◌, List, [], Some, get_or, refl, ap, ◌∙◌, inl, inr, arith}
use Rattle.std.proofs.lemmas.Bool.{cases_eq, eq-eqb, ne_eqb}
use Rattle.cpm_geom.specs.declared.dpb.Dpb.{Dpb}
use Rattle.cpm_geom.specs.Geometry.{dpb_of}
use Rattle.cpm_geom.specs.Disk.{Disk, records_of}
use Rattle.cpm_volume.specs.declared.extent.Extent.{Extent}
use Rattle.cpm_volume.specs.Files.{deleted, directory_records, drive_record, record_in, file_record, open_file_record, Volume, IsSound, IsSoundDrive}
use Rattle.cpm_volume.proofs.Writing.{file_entry, open_stored}
use Rattle.cpm_directory.specs.Directory.{entries_of}
use Rattle.cpm_drive.specs.Drive.{volume_of}
use Rattle.cpm_drive.specs.Laws.{Holds, ReadsTheSame}
use Rattle.cpm_drive.proofs.DiskLemmas.{disk_is_volume}

-- a record of a block outside the directory is the same in two lists that agree there
same_in : (d : Dpb) (a b : List (List ℕ)) (block n : ℕ) → ((m : ℕ) → directory_records d ≤ m → get_or a m [] ≡ get_or b m []) → (block ≢ 0 → directory_records d ≤ block * (d.block_mask + 1)) → record_in d a block n ≡ record_in d b block n
unfolding record_in drive_record
same_in d a b block n same outside =
    elim (cases_eq block 0) [
      | inl z ↦ rw (eq-eqb _ _ z) refl
      | inr h ↦ let past = outside h in rw (ne_eqb _ _ h) (ap Some (same _ (omega arith)))
    ]

module _ (disk : Disk) (v : Volume) (holds : Holds disk v) where
  sound_drive : IsSoundDrive (dpb_of disk.format) v → IsSoundDrive (dpb_of disk.format) (volume_of disk v.reserved)
  unfolding volume_of
  sound_drive sound = record {
    volume = disk_is_volume disk v.reserved sound.volume.blocks;
    well_formed = rw holds.entries sound.well_formed;
  }

  sound_fcb : (user : ℕ) (x : Extent) → IsSound (dpb_of disk.format) v user x → IsSound (dpb_of disk.format) (volume_of disk v.reserved) user x
  unfolding volume_of
  sound_fcb user x sound = record {
    volume = disk_is_volume disk v.reserved sound.volume.blocks;
    well_formed = rw holds.entries sound.well_formed;
    kept = rw holds.entries sound.kept;
    map = sound.map;
  }

  opened : (user : ℕ) (x : Extent) (m : ℕ) → user ≢ deleted → IsSound (dpb_of disk.format) v user x → open_file_record (dpb_of disk.format) (entries_of disk) (records_of disk) user x m ≡ open_file_record (dpb_of disk.format) v.entries v.records user x m
  unfolding open_file_record
  opened user x m ok sound =
      rw holds.entries (same_in (dpb_of disk.format) (records_of disk) v.records _ m holds.records (λ h. (open_stored (dpb_of disk.format) v.entries v.reserved user x ok sound.well_formed sound.kept m h).outside))

  listed : (user : ℕ) (name : List ℕ) (m : ℕ) → user ≢ deleted → IsSoundDrive (dpb_of disk.format) v → file_record (dpb_of disk.format) (entries_of disk) (records_of disk) user name m ≡ file_record (dpb_of disk.format) v.entries v.records user name m
  unfolding file_record
  listed user name m ok sound =
      rw holds.entries (same_in (dpb_of disk.format) (records_of disk) v.records _ m holds.records (λ h.
      let entry = file_entry (dpb_of disk.format) v.entries user name m ok h in
      let stored = sound.well_formed.stored entry.0 _ entry.1 (λ z. h (entry.3 ∙ z)) in
      rw entry.3 stored.outside))

  pub reads_the_same : ReadsTheSame disk (dpb_of disk.format) v
  reads_the_same = record { sound = sound_fcb; sound_drive = sound_drive; by_control_block = opened; by_directory = listed }
