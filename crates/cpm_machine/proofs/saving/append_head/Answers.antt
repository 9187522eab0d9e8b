use Rattle.std.proofs.Common.{refl}
use Rattle.cpm_saved.proofs.Appends.{tested_appended, then_appended}
use Rattle.cpm_saved.specs.declared.part.SavingPart.TheVariants as part
use Rattle.cpm_machine.specs.Saving.{is_magic, is_version}
use Rattle.cpm_machine.proofs.saving.append_head.Goals as goal

pub returns : goal.returns
returns c =
    then_appended _ _ _ _ _ _ _ (tested_appended part.Magic 8 is_magic _ _ _ refl (c.in_ok-append_array.ensures part.Magic))
    (then_appended _ _ _ _ _ _ _ (tested_appended part.Version 1 is_version _ _ _ refl (c.in_ok-append_array-2.ensures part.Version))
    (c.in_ok-append_array-3.ensures part.SystemDigest))
