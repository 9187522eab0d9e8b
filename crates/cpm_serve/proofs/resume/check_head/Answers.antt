use Rattle.std.proofs.Common.{ℕ, List, subst}
use Rattle.std.specs.Prelude.{⊤, Result, Err}
use Rattle.cpm_journal.specs.Heads.{IsHeadRead}
use Rattle.cpm_journal.specs.declared.head.HeadFault.{HeadFault}
use Rattle.cpm_journal.specs.declared.head.JournalHead.{JournalHead}
use Rattle.cpm_serve.specs.Resumed.{host_head}
use Rattle.cpm_serve.proofs.ResumeLemmas.{refused-head, torn-head}
use Rattle.cpm_serve.proofs.resume.check_head.Goals as goal

pub returns-in-Ok-Torn-clause-refused : goal.returns-in-Ok-Torn-clause-refused
returns-in-Ok-Torn-clause-refused g c =
    torn-head (host_head c.args.server.now.host.host) (g.R.Read.remaining c.args.input.now) c.in-Ok-Torn.field-0-0 (rw c.in-Ok-Torn.field-0-is at c.in-Ok-Torn.ensures)

pub returns-clause-refused : goal.returns-clause-refused
returns-clause-refused g c =
    let line = c.in-Ok-Whole.line.items in
    let e = c.in-Err-check.fault in
    refused-head (host_head c.args.server.now.host.host) (g.R.Read.remaining c.args.input.now) (g.R.Read.remaining c.next_journal_line.new.input) line e
    (rw c.in-Ok-Whole.field-0-is at c.in-Ok-Whole.ensures)
    (subst (λ (w : JournalHead). IsHeadRead w line (Err e)) c.head-head.ensures.head
    (subst (λ (l : List ℕ). IsHeadRead c.head-head.result l (Err e)) c.deref.ensures.value
    (subst (λ (r : Result ⊤ HeadFault). IsHeadRead c.head-head.result c.deref.result.now r) c.in-Err-check.is c.check.ensures)))
