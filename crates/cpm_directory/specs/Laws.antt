-- The laws of directories, over all disks.
use Rattle.std.specs.Prelude.{◌≡◌, ◌≢◌, ◌⊎◌, ◌↔◌, ℕ, ◌+◌, ◌*◌, ◌<◌, ◌≤◌, true, List, None}
use Rattle.cpm_geom.specs.declared.dpb.Dpb.{Dpb}
use Rattle.cpm_geom.specs.Geometry.{dpb_of, IsRecord, record_index}
use Rattle.cpm_geom.specs.Disk.{Disk, IsDisk, with_sector}
use Rattle.cpm_volume.specs.declared.extent.Entry.{Entry}
use Rattle.cpm_volume.specs.Files.{entry_at, InUse, block_number, directory_records, is_reserved, IsFormat, IsWellFormed}
use Rattle.cpm_directory.specs.Directory.{entries_of}
use Rattle.cpm_directory.specs.Login.{reserved_at_login}
use Rattle.cpm_directory.specs.WellFormed.{fault_of}

-- a record that is written outside the directory leaves the entries
abbrev pub OutsideLaw : Type 0
OutsideLaw =
    (disk : Disk) (n : ℕ) (bytes : List ℕ) → IsDisk disk → IsRecord disk.format n → directory_records (dpb_of disk.format) ≤ n
    → entries_of (with_sector disk (record_index disk.format n) bytes) ≡ entries_of disk

-- a drive that is logged in has reserved the directory's blocks and those in its entries, and no others
pub record ReservesAtLogin (d : Dpb) (es : List Entry) : Type 0 where
  pub directory : (b : ℕ) → b * (d.block_mask + 1) < directory_records d → is_reserved (reserved_at_login d es) b ≡ true
  pub numbers : (i s : ℕ) → InUse es i → block_number (entry_at es i).extent s ≢ 0
      → is_reserved (reserved_at_login d es) (block_number (entry_at es i).extent s) ≡ true
  pub others : (b : ℕ) → b ≤ d.last_block → is_reserved (reserved_at_login d es) b ≡ true
      → (b * (d.block_mask + 1) < directory_records d) ⊎ ((i : ℕ) × (s : ℕ) × InUse es i × (block_number (entry_at es i).extent s ≡ b))

abbrev pub LoginLaw : Type 0
LoginLaw = (d : Dpb) (es : List Entry) → IsFormat d → ReservesAtLogin d es

-- the directory of a disk is checked without a fault exactly where the drive, logged in, agrees with itself: that is what the laws of files ask of it
abbrev pub CheckedLaw : Type 0
CheckedLaw =
    (disk : Disk) → IsDisk disk
    → (((i : ℕ) → fault_of (dpb_of disk.format) (entries_of disk) i ≡ None)
    ↔ IsWellFormed (dpb_of disk.format) (entries_of disk) (reserved_at_login (dpb_of disk.format) (entries_of disk)))
