use Rattle.cpm_serve.proofs.ResumeLemmas.{AreRedoneSoFar}
use Rattle.cpm_serve.proofs.resume.redo_lines.Given as goal

-- the lines so far were done again
abbrev pub invariant-loop-line : goal.invariant-loop-line
invariant-loop-line g l = AreRedoneSoFar (g.R.Read.remaining l.fn.input) (g.R.Read.remaining l.input) l.fn.server.host.host l.server.host.host l.line
