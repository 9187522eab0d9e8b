use Rattle.cpm_saved.proofs.Appends.{then_appended}
use Rattle.cpm_saved.specs.declared.part.SavingPart.TheVariants as part
use Rattle.cpm_saved.proofs.session.append_session.Goals as goal

pub returns-clause-appended : goal.returns-clause-appended
returns-clause-appended c =
    then_appended _ _ _ _ _ _ _ c.in_ok-append_registers.ensures
    (then_appended _ _ _ _ _ _ _ c.in_ok-append_mode.ensures.appended
    (then_appended _ _ _ _ _ _ _ (c.in_ok-append_word.ensures part.Buffer)
    (then_appended _ _ _ _ _ _ _ c.in_ok-append_place.ensures
    (then_appended _ _ _ _ _ _ _ c.in_ok-append_file.ensures
    (then_appended _ _ _ _ _ _ _ c.in_ok-append_line.ensures
    (then_appended _ _ _ _ _ _ _ c.in_ok-append_console.ensures c.in_ok-append_disks.ensures.appended))))))
