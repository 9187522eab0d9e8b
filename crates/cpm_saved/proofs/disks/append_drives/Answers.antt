use Rattle.std.proofs.Common.{List, Option, ap, map}
use Rattle.std.specs.Prelude.{option_map}
use Rattle.cpm_drive.specs.declared.drive.Drive.{Drive}
use Rattle.cpm_saved.proofs.Appends.{as_value, four_appended, four_got}
use Rattle.cpm_saved.specs.SavedDisks.{drive_fields}
use Rattle.cpm_saved.proofs.disks.append_drives.Goals as goal

pub returns-clause-appended : goal.returns-clause-appended
returns-clause-appended c =
    as_value _ _ _ _ _
    (ap (λ (ds : List (Option Drive)). map (option_map drive_fields) ds)
    (four_got c.args.drives.now c.index-drives-0.result c.index-drives-1.result c.index-drives-2.result c.index-drives-3.result c.type_inv.drives))
    (four_appended _ _ _ _ _ _ _ _ _ _ c.in_ok-append_drive.ensures.appended c.in_ok-append_drive-2.ensures.appended
    c.in_ok-append_drive-3.ensures.appended c.in_ok-append_drive-4.ensures.appended)
