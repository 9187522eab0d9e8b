-- No row so far is the word's.
use Rattle.std.proofs.Common.{◌≡◌, drop}
use Rattle.cpm_asm_expression.specs.Words.{look, plain_rows}
use Rattle.cpm_asm_expression.proofs.words.look.Given as goal

abbrev pub invariant-loop-letters : goal.invariant-loop-letters
invariant-loop-letters g l = look l.word (plain_rows (drop l.letters-index l.rows)) ≡ look l.word (plain_rows l.rows)
