use Rattle.std.proofs.Common.{Bool, ap}
use Rattle.cpm_flags.specs.Arithmetic.{bit}
use Rattle.cpm_saved.proofs.Appends.{as_value, then_appended}
use Rattle.cpm_saved.specs.declared.part.SavingPart.TheVariants as part
use Rattle.cpm_saved.proofs.console.append_console.Goals as goal

pub returns : goal.returns
returns c =
    then_appended _ _ _ _ _ _ _ (c.in_ok-append_keys.ensures part.Keys)
    (then_appended _ _ _ _ _ _ _ (c.in_ok-append_waiting.ensures part.ConsoleBytes)
    (then_appended _ _ _ _ _ _ _ (c.in_ok-append_waiting-2.ensures part.ListBytes)
    (then_appended _ _ _ _ _ _ _ (as_value _ _ _ _ _ c.column.ensures.value (c.in_ok-append_byte.ensures part.Column))
    (as_value _ _ _ _ _ (ap (λ (b : Bool). bit b) c.list_echo.ensures) (c.in_ok-append_flag.ensures part.ListEcho)))))
