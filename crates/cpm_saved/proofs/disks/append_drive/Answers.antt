use Rattle.std.proofs.Common.{Option, ap, sym}
use Rattle.std.specs.Prelude.{option_map}
use Rattle.cpm_drive.specs.declared.drive.Drive.{Drive}
use Rattle.cpm_geom.specs.Disk.{Disk}
use Rattle.cpm_saved.proofs.Appends.{as_value, none_appended, some_appended, then_appended}
use Rattle.cpm_saved.specs.SavedDisks.{drive_fields, image_fields}
use Rattle.cpm_saved.specs.declared.part.SavingPart.TheVariants as part
use Rattle.cpm_saved.proofs.disks.append_drive.Goals as goal

pub returns-in_ok-append_flag-in-None-clause-appended : goal.returns-in_ok-append_flag-in-None-clause-appended
returns-in_ok-append_flag-in-None-clause-appended c =
    as_value _ _ _ _ _ (ap (λ (o : Option Drive). option_map drive_fields o) (sym c.in-None.is))
    (none_appended part.Drive _ _ _ (c.in_ok-append_flag-in-None.ensures part.Drive))

pub returns-in_ok-append_image-in-Some-clause-appended : goal.returns-in_ok-append_image-in-Some-clause-appended
returns-in_ok-append_image-in-Some-clause-appended c =
    as_value _ _ _ _ _ (ap (λ (o : Option Drive). option_map drive_fields o) (sym c.in-Some.is))
    (some_appended part.Drive _ _ _ _ _ (c.in_ok-append_flag-in-Some.ensures part.Drive)
    (then_appended _ _ _ _ _ _ _ c.in_ok-append_marks-in-Some.ensures
    (as_value _ _ _ _ _ (ap (λ (d : Disk). image_fields d) c.image.ensures) c.in_ok-append_image-in-Some.ensures.appended)))
