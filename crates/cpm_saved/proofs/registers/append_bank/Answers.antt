use Rattle.cpm_saved.proofs.Appends.{as_value, then_appended}
use Rattle.cpm_saved.specs.declared.part.SavingPart.TheVariants as part
use Rattle.cpm_saved.proofs.registers.append_bank.Goals as goal

pub returns : goal.returns
returns c =
    then_appended _ _ _ _ _ _ _ (c.in_ok-append_byte.ensures part.Registers)
    (then_appended _ _ _ _ _ _ _ (as_value _ _ _ _ _ c.pack.ensures (c.in_ok-append_byte-2.ensures part.Registers))
    (then_appended _ _ _ _ _ _ _ (c.in_ok-append_byte-3.ensures part.Registers)
    (then_appended _ _ _ _ _ _ _ (c.in_ok-append_byte-4.ensures part.Registers)
    (then_appended _ _ _ _ _ _ _ (c.in_ok-append_byte-5.ensures part.Registers)
    (then_appended _ _ _ _ _ _ _ (c.in_ok-append_byte-6.ensures part.Registers)
    (then_appended _ _ _ _ _ _ _ (c.in_ok-append_byte-7.ensures part.Registers)
    (c.in_ok-append_byte-8.ensures part.Registers)))))))
