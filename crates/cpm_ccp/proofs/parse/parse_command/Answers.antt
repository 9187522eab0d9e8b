use Rattle.std.proofs.Common.{arith, sym, ◌∙◌}
use Rattle.cpm_ccp.proofs.OperandLemmas.{letter_of_drive, meaning-fits}
use Rattle.cpm_ccp.proofs.parse.parse_command.Goals as goal

pub overflow_sub-result : goal.overflow_sub-result
overflow_sub-result c = (letter_of_drive _ _ (sym c.is_drive_alone.ensures ∙ c.if-is_drive_alone.true)).0

pub returns-then-is_drive_alone-clause-operands : goal.returns-then-is_drive_alone-clause-operands
returns-then-is_drive_alone-clause-operands c =
    let letter = letter_of_drive _ _ (sym c.is_drive_alone.ensures ∙ c.if-is_drive_alone.true) in omega arith

pub returns-then-is_program_name-clause-operands :
    goal.returns-then-is_program_name-clause-operands
returns-then-is_program_name-clause-operands c =
    rw c.command_meaning.ensures (meaning-fits _ _ _ (omega arith) (sym c.is_program_name.ensures ∙ c.if-is_program_name.true))
