use Rattle.std.proofs.Common.{ap}
use Rattle.cpm_drives.specs.Files.{close_file_on, by_close}
use Rattle.cpm_drive.specs.Calls.{ClosedFile}
use Rattle.cpm_drives.proofs.own.close_file.Goals as goal

pub returns : goal.returns
unfolding close_file_on
returns c =
    λ buffer. rw c.code_or_fault.ensures (ap (λ (o : ClosedFile). by_close buffer o) c.close_file.ensures)
