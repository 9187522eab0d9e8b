use Rattle.cpm_saved.proofs.Appends.{then_appended}
use Rattle.cpm_saved.specs.declared.part.SavingPart.TheVariants as part
use Rattle.cpm_saved.proofs.disks.append_disks.Goals as goal

pub returns-clause-appended : goal.returns-clause-appended
returns-clause-appended c =
    then_appended _ _ _ _ _ _ _ c.in_ok-append_drives.ensures.appended
    (then_appended _ _ _ _ _ _ _ c.in_ok-append_marks.ensures
    (then_appended _ _ _ _ _ _ _ (c.in_ok-append_byte.ensures part.CurrentDrive)
    (then_appended _ _ _ _ _ _ _ (c.in_ok-append_byte-2.ensures part.User) c.in_ok-append_search.ensures)))
