use Rattle.cpm_saved.proofs.Appends.{then_appended}
use Rattle.cpm_saved.specs.declared.part.SavingPart.TheVariants as part
use Rattle.cpm_saved.proofs.disks.append_marks.Goals as goal

pub returns : goal.returns
returns c =
    then_appended _ _ _ _ _ _ _ c.in_ok-append_reserved.ensures
    (then_appended _ _ _ _ _ _ _ (c.in_ok-append_flag.ensures part.Drive) (c.in_ok-append_flag-2.ensures part.Drive))
