use Rattle.std.proofs.Common.{ap}
use Rattle.cpm_drives.specs.Files.{read_next_on, by_record}
use Rattle.cpm_drive.specs.Drive.{CallResult}
use Rattle.cpm_drives.proofs.own.read_next.Goals as goal

pub returns : goal.returns
unfolding read_next_on
returns c =
    rw (c.code_of.ensures) (ap (λ (o : CallResult). by_record o) c.read_next.ensures.value)
