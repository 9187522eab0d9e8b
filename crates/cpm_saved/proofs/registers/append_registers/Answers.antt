use Rattle.std.proofs.Common.{ap}
use Rattle.cpm_flags.specs.declared.regs.Alternate.{Alternate}
use Rattle.cpm_saved.proofs.Appends.{as_value, then_appended}
use Rattle.cpm_saved.specs.SavedRegisters.{bank_fields}
use Rattle.cpm_saved.proofs.registers.append_registers.Goals as goal

pub returns : goal.returns
returns c =
    then_appended _ _ _ _ _ _ _ (as_value _ _ _ _ _ (ap (λ (b : Alternate). bank_fields b) c.main_bank.ensures) c.in_ok-append_bank.ensures)
    (then_appended _ _ _ _ _ _ _ c.in_ok-append_pointers.ensures c.in_ok-append_bank-2.ensures)
