-- All bytes so far pass.
use Rattle.std.proofs.Common.{◌≡◌, ◌+◌, drop}
use Rattle.std.specs.List.{prefix_len}
use Rattle.cpm_asm_expression.specs.Letters.{continues_word}
use Rattle.cpm_asm_expression.proofs.letters.word_length.Given as goal

abbrev pub invariant-loop-place : goal.invariant-loop-place
invariant-loop-place l = l.place + prefix_len continues_word (drop l.place l.text) ≡ prefix_len continues_word l.text
