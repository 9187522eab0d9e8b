use Rattle.cpm_saved.proofs.Appends.{then_appended}
use Rattle.cpm_saved.specs.declared.part.SavingPart.TheVariants as part
use Rattle.cpm_saved.proofs.registers.append_pointers.Goals as goal

pub returns : goal.returns
returns c =
    then_appended _ _ _ _ _ _ _ (c.in_ok-append_word.ensures part.Registers)
    (then_appended _ _ _ _ _ _ _ (c.in_ok-append_word-2.ensures part.Registers)
    (then_appended _ _ _ _ _ _ _ (c.in_ok-append_word-3.ensures part.Registers)
    (then_appended _ _ _ _ _ _ _ (c.in_ok-append_word-4.ensures part.Registers)
    (then_appended _ _ _ _ _ _ _ (c.in_ok-append_byte.ensures part.Registers)
    (then_appended _ _ _ _ _ _ _ (c.in_ok-append_byte-2.ensures part.Registers)
    (then_appended _ _ _ _ _ _ _ (c.in_ok-append_flag.ensures part.Registers) (c.in_ok-append_flag-2.ensures part.Registers)))))))
