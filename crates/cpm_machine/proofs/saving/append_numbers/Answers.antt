use Rattle.std.proofs.Common.{arith}
use Rattle.cpm_saved.proofs.Appends.{as_value, below_appended, then_appended, within_appended}
use Rattle.cpm_saved.specs.declared.part.SavingPart.TheVariants as part
use Rattle.cpm_machine.proofs.SavingSteps.{end_small, processor_small}
use Rattle.cpm_machine.proofs.saving.append_numbers.Goals as goal

pub returns : goal.returns
returns c =
    then_appended _ _ _ _ _ _ _
    (below_appended part.Processor 2 _ _ _ (processor_small c.args.runner.now.cpu) (as_value _ _ _ _ _ c.processor_number.ensures (c.in_ok-append_byte.ensures part.Processor)))
    (then_appended _ _ _ _ _ _ _ (c.in_ok-append_flag.ensures part.Program)
    (then_appended _ _ _ _ _ _ _ (within_appended part.Quota 0 256 _ _ _ (omega arith) (omega (arith, c.requires)) (c.in_ok-append_word.ensures part.Quota))
    (then_appended _ _ _ _ _ _ _ (c.in_ok-append_long.ensures part.Count)
    (below_appended part.End 6 _ _ _ (end_small c.args.runner.now.ended) (as_value _ _ _ _ _ c.end_number.ensures (c.in_ok-append_byte-2.ensures part.End))))))
