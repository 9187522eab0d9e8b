use Rattle.cpm_serve.proofs.WriteLemmas.{IsLineWritten}
use Rattle.cpm_serve.proofs.append.write_bytes.Given as goal

abbrev pub invariant-loop-write : goal.invariant-loop-write
invariant-loop-write g l = IsLineWritten l.initial.rest l.rest (g.W.Write.contents l.initial.out) (g.W.Write.contents l.out)
