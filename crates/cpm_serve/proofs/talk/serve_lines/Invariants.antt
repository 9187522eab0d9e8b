use Rattle.cpm_serve.proofs.TalkLemmas.{IsTalkSoFar}
use Rattle.cpm_serve.proofs.talk.serve_lines.Given as goal

abbrev pub invariant-loop-line : goal.invariant-loop-line
invariant-loop-line g l =
    IsTalkSoFar g.F.Folder.does (g.R.Read.remaining l.fn.input) (g.R.Read.remaining l.input) l.fn.server.host.host l.server.host.host l.fn.folder l.folder (g.W.Write.contents l.fn.out) (g.W.Write.contents l.out) l._line
