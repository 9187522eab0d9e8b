-- The characters so far, and those of the rest.
use Rattle.std.proofs.Common.{◌≡◌, ◌≤◌, length}
use Rattle.cpm_asm_expression.specs.Quotes.{characters, sized_text, quoted_text}
use Rattle.cpm_asm_expression.proofs.Quoted.{behind_all}
use Rattle.cpm_asm_expression.proofs.quotes.quoted_text.Given as goal

abbrev pub invariant-loop-after : goal.invariant-loop-after
invariant-loop-after l = record {
  same : sized_text (behind_all l.characters.items (characters l.rest)) ≡ quoted_text l.text;
  room : length l.characters.items ≤ 64;
}

abbrev pub decreases-loop-after : goal.decreases-loop-after
decreases-loop-after l = length l.rest
