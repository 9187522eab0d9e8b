-- The characters so far, and those of the rest.
use Rattle.std.proofs.Common.{◌≡◌, ◌≤◌, ◌++◌, drop, length}
use Rattle.cpm_asm_expression.specs.Letters.{letters_of}
use Rattle.cpm_asm_expression.proofs.letters.letters_of.Given as goal

abbrev pub invariant-loop-byte : goal.invariant-loop-byte
invariant-loop-byte l = record {
  same : l.letters.items ++ letters_of (drop l.byte-index l.word) ≡ letters_of l.word;
  room : length l.letters.items ≤ 16;
}
