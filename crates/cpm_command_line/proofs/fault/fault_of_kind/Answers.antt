use Rattle.std.proofs.Common.{Bool, true, false, if◌then◌else◌, inl, refl}
use Rattle.clap.specs.Words.{IsAmong}
use Rattle.clap.specs.declared.error.kind.ErrorKind.TheVariants as kind
use Rattle.cpm_command_line.specs.Refusals.{IsOfLine, kinds_of}
use Rattle.cpm_command_line.specs.declared.fault.UsageFault.{UsageFault}
use Rattle.cpm_command_line.specs.declared.fault.UsageFault.TheVariants as fault
use Rattle.cpm_command_line.proofs.fault.fault_of_kind.Goals as goal

pub returns-in-ValueValidation : goal.returns-in-ValueValidation
returns-in-ValueValidation c = rw (c.in-ValueValidation.is, c.wrong_number.ensures)
    (number c.args.is_disk c.names_option-is_pace.result c.names_option-is_checkpoint.result c.names_option-is_frames.result)
  where
    wrong : (is_disk is_pace is_checkpoint is_frames : Bool) → UsageFault
    wrong d p k f =
        if d then fault.NotAUser c.quoted-word.result
        else (if p then fault.NotAPace c.quoted-word.result
        else (if k then fault.NotACheckpoint c.quoted-word.result
        else (if f then fault.NotFrames c.quoted-word.result else fault.NotANumber c.quoted-word.result)))

    number : (d p k f : Bool) → IsAmong kind.ValueValidation (kinds_of (wrong d p k f)) × IsOfLine d (wrong d p k f)
    number true p k f = (inl refl, refl)
    number false true k f = (inl refl, refl)
    number false false true f = (inl refl, refl)
    number false false false true = (inl refl, refl)
    number false false false false = (inl refl, refl)
