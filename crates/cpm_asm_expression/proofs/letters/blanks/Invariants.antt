-- All bytes so far pass.
use Rattle.std.proofs.Common.{◌≡◌, ◌+◌, drop}
use Rattle.std.specs.List.{prefix_len}
use Rattle.cpm_asm_expression.specs.Letters.{is_blank}
use Rattle.cpm_asm_expression.proofs.letters.blanks.Given as goal

abbrev pub invariant-loop-place : goal.invariant-loop-place
invariant-loop-place l = l.place + prefix_len is_blank (drop l.place l.text) ≡ prefix_len is_blank l.text
