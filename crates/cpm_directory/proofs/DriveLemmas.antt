-- The directory's entries in the records of a disk.
use Rattle.std.proofs.Common.{◌≡◌, ℕ, ◌+◌, ◌/◌, ◌%◌, ◌<◌, ◌≤◌, length, ap, ◌∙◌, arith}
use Rattle.cpm_geom.specs.declared.format.Format.{Format}
use Rattle.cpm_geom.specs.declared.format.Format.TheVariants.{Ibm3740, Large}
use Rattle.cpm_geom.specs.Geometry.{dpb_of, tracks_of, sectors_per_track, track_of, IsRecord, record_index}
use Rattle.cpm_geom.specs.Disk.{Disk, records_of, sector_at}
use Rattle.cpm_geom.proofs.RecordLemmas.{are_listed}
use Rattle.cpm_volume.specs.Files.{entry_at, no_entry}
use Rattle.cpm_volume.specs.Encoding.{entry_of}
use Rattle.cpm_directory.specs.Directory.{slot_bytes, entries_of}
use Rattle.cpm_directory.proofs.DirectoryLemmas.{directory_length, directory_at}

there : (f : Format) (i : ℕ) → i ≤ (dpb_of f).last_entry → track_of f (i / 4) < tracks_of f
unfolding dpb_of track_of tracks_of sectors_per_track
there Ibm3740 i h = omega arith
there Large i h = omega arith

-- an entry lies in a record
pub entry_record : (f : Format) (i : ℕ) → i ≤ (dpb_of f).last_entry → IsRecord f (i / 4)
entry_record f i h = record { track_there = there f i h }

pub last_entry_small : (f : Format) → (dpb_of f).last_entry < 256
unfolding dpb_of
last_entry_small Ibm3740 = omega arith
last_entry_small Large = omega arith

pub last_block_small : (f : Format) → (dpb_of f).last_block < 512
unfolding dpb_of
last_block_small Ibm3740 = omega arith
last_block_small Large = omega arith

pub entries_length : (disk : Disk) → length (entries_of disk) ≡ (dpb_of disk.format).last_entry + 1
unfolding entries_of
entries_length disk = directory_length (dpb_of disk.format) (records_of disk)

pub entry_is : (disk : Disk) (i : ℕ) → i ≤ (dpb_of disk.format).last_entry → entry_at (entries_of disk) i ≡ entry_of (dpb_of disk.format) (slot_bytes (sector_at disk (record_index disk.format (i / 4))) (i % 4))
unfolding entries_of entry_at
entry_is disk i h =
    directory_at (dpb_of disk.format) (records_of disk) i no_entry (omega arith) ∙ ap (λ bytes. entry_of (dpb_of disk.format) (slot_bytes bytes (i % 4))) ((are_listed disk).at (i / 4) (entry_record disk.format i h))
