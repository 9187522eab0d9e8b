use Rattle.cpm_saved.proofs.Appends.{with_test}
use Rattle.cpm_saved.proofs.ModeLaws.{mode_length, modes_are}
use Rattle.cpm_saved.specs.declared.part.SavingPart.TheVariants as part
use Rattle.cpm_saved.proofs.mode.append_mode.Goals as goal

pub returns-clause-appended : goal.returns-clause-appended
returns-clause-appended c =
    with_test part.Mode _ _ _ _ _ _ c.mode_bytes.ensures.bytes (mode_length c.args.mode) (modes_are c.args.mode c.mode_bytes.ensures.fits)
    (c.in_ok-append_bytes.ensures part.Mode)
