use Rattle.std.proofs.Common.{ℕ, List, subst}
use Rattle.cpm_serve.specs.Resumed.{IsLineRedone, IsLineFault}
use Rattle.cpm_serve.proofs.ResumeLemmas.{redone_begun, redone_broken, redone_more, redone_torn}
use Rattle.cpm_serve.proofs.resume.redo_lines.Goals as goal

pub loop-line-init : goal.loop-line-init
loop-line-init g c = redone_begun (g.R.Read.remaining c.args.input.now) c.args.server.now.host.host

pub returns-in-Ok-Torn-clause-done : goal.returns-in-Ok-Torn-clause-done
returns-in-Ok-Torn-clause-done g c =
    redone_torn (g.R.Read.remaining c.args.input.now) (g.R.Read.remaining c.loop-line.input) c.args.server.now.host.host c.loop-line.server.host.host c.loop-line.line c.in-Ok-Torn.count
    c.loop-line.invariant (rw c.in-Ok-Torn.field-0-is at c.in-Ok-Torn.ensures)

pub returns-in-Err-redo_line-clause-broken : goal.returns-in-Err-redo_line-clause-broken
returns-in-Err-redo_line-clause-broken g c =
    let line = c.in-Ok-Whole.text.items in
    redone_broken (g.R.Read.remaining c.args.input.now) (g.R.Read.remaining c.loop-line.input) (g.R.Read.remaining c.next_journal_line.new.input)
    c.args.server.now.host.host c.loop-line.server.host.host c.redo_line.new.server.host.host c.loop-line.line line c.in-Err-redo_line.fault
    c.loop-line.invariant (rw c.in-Ok-Whole.field-0-is at c.in-Ok-Whole.ensures) c.in-Err-redo_line.ensures.unchanged
    (subst (λ (l : List ℕ). IsLineFault l c.loop-line.server.host.host c.in-Err-redo_line.fault) c.deref.ensures.value c.in-Err-redo_line.ensures.undone)

pub loop-line-preserved : goal.loop-line-preserved
loop-line-preserved g c =
    let line = c.in-Ok-Whole.text.items in
    redone_more (g.R.Read.remaining c.args.input.now) (g.R.Read.remaining c.loop-line.input) (g.R.Read.remaining c.next_journal_line.new.input)
    c.args.server.now.host.host c.loop-line.server.host.host c.redo_line.new.server.host.host c.loop-line.line line
    c.loop-line.invariant (rw c.in-Ok-Whole.field-0-is at c.in-Ok-Whole.ensures)
    (subst (λ (l : List ℕ). IsLineRedone l c.loop-line.server.host.host c.redo_line.new.server.host.host) c.deref.ensures.value c.in_default.ensures.done)
