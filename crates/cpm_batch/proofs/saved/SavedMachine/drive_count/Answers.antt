use Rattle.std.proofs.Common.{◌∙◌, List, Option, ap, is_some}
use Rattle.std.specs.Prelude.{count_by}
use Rattle.cpm_drives.specs.Disks.{images_of}
use Rattle.cpm_geom.specs.Disk.{Disk}
use Rattle.cpm_machine.specs.MachineState.{MachineState}
use Rattle.cpm_batch.specs.Savings.{drive_count}
use Rattle.cpm_batch.proofs.saved.SavedMachine.drive_count.Goals as goal

pub returns : goal.returns
unfolding drive_count
returns c =
    c.count_drives.ensures
    ∙ ap (λ (ds : List (Option Disk)). count_by is_some ds) (c.finish-closed.ensures.drives ∙ ap (λ (m : MachineState). images_of m.session.disks) c.in_ok-machine.ensures)
