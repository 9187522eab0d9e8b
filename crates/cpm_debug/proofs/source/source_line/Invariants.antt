use Rattle.std.proofs.Common.{◌≡◌, length}
use Rattle.std.specs.Str.Lines.{lines}
use Rattle.cpm_debug.specs.Source.{first_with, source_line}
use Rattle.cpm_debug.proofs.source.source_line.Given as goal

-- no line so far is the one
abbrev pub invariant-loop-rest : goal.invariant-loop-rest
invariant-loop-rest l = first_with l.head (lines l.rest) ≡ source_line l.listing l.pc

abbrev pub decreases-loop-rest : goal.decreases-loop-rest
decreases-loop-rest l = length l.rest
