use Rattle.cpm_saved.proofs.DiskSteps.{image_appended}
use Rattle.cpm_saved.specs.declared.part.SavingPart.TheVariants as part
use Rattle.cpm_saved.proofs.disks.append_image.Goals as goal

pub returns-clause-appended : goal.returns-clause-appended
returns-clause-appended c =
    image_appended _ _ _ _ _ _ _ c.is_large.ensures c.bytes.ensures.value c.bytes.ensures.length (c.in_ok-append_flag.ensures part.Image)
    (c.in_ok-append_bytes.ensures part.Image)
