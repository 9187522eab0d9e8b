use Rattle.std.proofs.Common.{refl}
use Rattle.cpm_drive.specs.Drive.{after_writes, after_write}
use Rattle.cpm_drive.proofs.drive.Drive.write_record.Goals as goal

pub returns-clause-drive : goal.returns-clause-drive
unfolding after_writes after_write
returns-clause-drive c =
    let written = rw c.unwrap.ensures at c.put_record.ensures in
    rw (written.1, c.record_in_block-number.ensures.value, c.format.ensures.format) refl
