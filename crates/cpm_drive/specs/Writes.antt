-- What a write leaves once its entries are written.
use Rattle.std.specs.Prelude.{ℕ, List}
use Rattle.cpm_volume.specs.declared.extent.Extent.{Extent}
use Rattle.cpm_volume.specs.declared.fcb.Fcb.{Fcb}
use Rattle.cpm_volume.specs.Files.{DiskWrite}
use Rattle.cpm_drive.specs.declared.drive.Drive.{Drive}
use Rattle.cpm_drive.specs.Drive.{after_writes}

-- a drive to which this was written
abbrev pub drive_written : Drive → List DiskWrite → Drive
drive_written drive ws = record drive { image = after_writes ws drive.image }

-- a file control block at a record of an extent
abbrev pub stood_on : Extent → ℕ → Fcb → Fcb
stood_on x current fcb = record fcb { extent = x; current_record = current }
