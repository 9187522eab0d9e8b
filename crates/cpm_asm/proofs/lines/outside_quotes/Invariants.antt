-- No sign so far.
use Rattle.std.proofs.Common.{◌≡◌, ◌+◌, drop, false}
use Rattle.cpm_asm.specs.Lines.{outside}
use Rattle.cpm_asm.proofs.lines.outside_quotes.Given as goal

abbrev pub invariant-loop-place : goal.invariant-loop-place
invariant-loop-place l = l.place + outside l.sign l.quoted (drop l.place l.text) ≡ outside l.sign false l.text
