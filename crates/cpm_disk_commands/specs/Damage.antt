-- What is told of the fault of an image's directory. All of it is own.
use Rattle.std.specs.Prelude.{ℕ}
use Rattle.cpm_directory.specs.Directory.{entries_of}
use Rattle.cpm_directory.specs.declared.fault.DriveFault.{DriveFault}
use Rattle.cpm_directory.specs.declared.fault.DriveFault.TheVariants.{BadBlock, TwiceBlock, TwiceEntry}
use Rattle.cpm_volume.specs.Files.{entry_at}
use Rattle.cpm_volume.specs.declared.extent.Entry.{Entry}
use Rattle.cpm_geom.specs.Disk.{Disk}
use Rattle.cpm_geom.specs.Geometry.{dpb_of}
use Rattle.cpm_disk_commands.specs.declared.damage.Damage.{Damage}
use Rattle.cpm_disk_commands.specs.declared.damage.NamedFile.{NamedFile}

-- the file that an entry is of
abbrev pub file_of : Entry → NamedFile
file_of e = record { user = e.user; name = e.extent.name }

-- the entry that has the fault, and the one that it is told beside
abbrev pub fault_entry : DriveFault → ℕ
fault_entry (BadBlock entry block) = entry
fault_entry (TwiceBlock entry block owner) = entry
fault_entry (TwiceEntry entry earlier) = entry

abbrev pub other_of : DriveFault → ℕ
other_of (BadBlock entry block) = entry
other_of (TwiceBlock entry block owner) = owner
other_of (TwiceEntry entry earlier) = earlier

-- a fault of a disk, with the files that these entries are of and the disk's last block
abbrev pub damage_of : Disk → DriveFault → Damage
damage_of disk fault = record {
  fault = fault;
  file = file_of (entry_at (entries_of disk) (fault_entry fault));
  other = file_of (entry_at (entries_of disk) (other_of fault));
  last_block = (dpb_of disk.format).last_block;
}
