-- The two laws of reading.
use Rattle.cpm_asm_expression.proofs.TreesRead.{spelled_read}
use Rattle.cpm_asm_expression.proofs.Sound.{only_spelled}
use Rattle.cpm_asm_expression.proofs.laws.exact_reading.Goals as goal

pub returns-clause-read : goal.returns-clause-read
returns-clause-read c m a ts v s = spelled_read m a ts v s

pub returns-clause-only : goal.returns-clause-only
returns-clause-only c m a ts v e = only_spelled m a ts v e
