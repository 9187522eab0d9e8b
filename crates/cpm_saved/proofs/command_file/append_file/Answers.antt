use Rattle.cpm_saved.proofs.Appends.{then_appended}
use Rattle.cpm_saved.specs.declared.part.SavingPart.TheVariants as part
use Rattle.cpm_saved.proofs.command_file.append_file.Goals as goal

pub returns : goal.returns
returns c =
    then_appended _ _ _ _ _ _ _ (c.in_ok-append_byte.ensures part.CommandFile)
    (then_appended _ _ _ _ _ _ _ (c.in_ok-append_array.ensures part.CommandFile)
    (then_appended _ _ _ _ _ _ _ (c.in_ok-append_byte-2.ensures part.CommandFile)
    (then_appended _ _ _ _ _ _ _ (c.in_ok-append_byte-3.ensures part.CommandFile)
    (then_appended _ _ _ _ _ _ _ (c.in_ok-append_byte-4.ensures part.CommandFile)
    (then_appended _ _ _ _ _ _ _ (c.in_ok-append_byte-5.ensures part.CommandFile)
    (then_appended _ _ _ _ _ _ _ c.in_ok-append_blocks.ensures
    (then_appended _ _ _ _ _ _ _ (c.in_ok-append_byte-6.ensures part.CommandFile)
    (c.in_ok-append_array-2.ensures part.CommandFile))))))))
