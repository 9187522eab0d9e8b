-- What is read so far is read on.
use Rattle.std.proofs.Common.{◌≡◌, reverse, length}
use Rattle.cpm_asm_expression.specs.Names.{in_table}
use Rattle.cpm_asm_expression.specs.Tokens.{tokens_of, tokens_or_end}
use Rattle.cpm_asm_expression.specs.Reading.{state, value_at}
use Rattle.cpm_asm_expression.proofs.Readings.{read_on}
use Rattle.cpm_asm_expression.proofs.reader.value_of.Given as goal

abbrev pub invariant-loop-rest : goal.invariant-loop-rest
invariant-loop-rest l = read_on (in_table l.names) l.here (state l.stage (reverse l.waiting.items)) (tokens_or_end l.rest tokens_of) ≡ value_at (in_table l.names) l.here l.text

abbrev pub decreases-loop-rest : goal.decreases-loop-rest
decreases-loop-rest l = length l.rest
