use Rattle.cpm_saved.proofs.DiskSteps.{reserved_appended}
use Rattle.cpm_saved.specs.declared.part.SavingPart.TheVariants as part
use Rattle.cpm_saved.proofs.disks.append_reserved.Goals as goal

pub returns : goal.returns
returns c =
    reserved_appended c.args.reserved.now _ _ _ _ c.len.ensures.value (rw (← c.len.ensures.value) c.len.ensures.fits) (c.in_ok-append_word.ensures part.Drive)
    c.in_ok-append_marks.ensures
