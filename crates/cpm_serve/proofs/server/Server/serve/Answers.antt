use Rattle.std.proofs.Common.{inl, refl}
use Rattle.std.proofs.lemmas.Result.{IfErr-weaker, IfOk-weaker}
use Rattle.std.specs.Prelude.{string_bytes}
use Rattle.serde_json.specs.View.{view}
use Rattle.cpm_serve.specs.Lines.{CutEventsLead, IsLineCut, IsLineServed, KeptEventsLead}
use Rattle.cpm_serve.specs.declared.folder.ServeError.TheVariants as error
use Rattle.cpm_serve.proofs.LineLemmas.{cut-line, long-cut, served-line, unread-cut, unread-served}
use Rattle.cpm_serve.proofs.ManyLemmas.{lacked-cut, made-as}
use Rattle.cpm_serve.proofs.server.Server.serve.Goals as goal

pub returns-in-Ok-clause-served : goal.returns-in-Ok-clause-served
returns-in-Ok-clause-served g c =
    let h = c.args.self.now.host.host in
    IfOk-weaker c.serve_text.result _ _
    (λ t k. served-line (KeptEventsLead g.F.Folder.does h c.args.folder.now c.serve_text.new.folder) c.args.line.now (view c.in-Ok.line.value) (string_bytes t) h c.serve_text.new.host.host
    c.if-line-gt-MOST_LINE.false c.in-Ok.ensures.read k)
    c.serve_text.ensures.served

pub returns-in-Ok-clause-cut : goal.returns-in-Ok-clause-cut
returns-in-Ok-clause-cut g c =
    let h = c.args.self.now.host.host in
    IfErr-weaker c.serve_text.result _ _
    (λ e k. cut-line (CutEventsLead e g.F.Folder.does h c.args.folder.now c.serve_text.new.folder) c.args.line.now (view c.in-Ok.line.value) h c.serve_text.new.host.host
    c.if-line-gt-MOST_LINE.false c.in-Ok.ensures.read k)
    c.serve_text.ensures.cut

pub returns-in-Err-clause-served : goal.returns-in-Err-clause-served
returns-in-Err-clause-served g c =
    let h = c.args.self.now.host.host in
    let leads = KeptEventsLead g.F.Folder.does h c.args.folder.now c.args.folder.now in
    made-as c.text_made-in-Err.result c.unread_text.result (λ t. IsLineServed leads c.args.line.now h h (string_bytes t)) c.text_made-in-Err.ensures.made
    (IfOk-weaker c.unread_text.result _ _
    (λ t e. unread-served leads (refl, tt) c.args.line.now c.in-Err.error (string_bytes t) h c.if-line-gt-MOST_LINE.false c.in-Err.ensures.refused e)
    c.unread_text.ensures)

pub returns-in-Err-clause-cut : goal.returns-in-Err-clause-cut
returns-in-Err-clause-cut g c =
    let h = c.args.self.now.host.host in
    let leads = CutEventsLead error.OutOfMemory g.F.Folder.does h c.args.folder.now c.args.folder.now in
    lacked-cut c.text_made-in-Err.result (λ e. IsLineCut (CutEventsLead e g.F.Folder.does h c.args.folder.now c.args.folder.now) c.args.line.now h h) c.text_made-in-Err.ensures.lacked
    (unread-cut leads (refl, inl tt) c.args.line.now c.in-Err.error h c.if-line-gt-MOST_LINE.false c.in-Err.ensures.refused)

pub returns-then-line-gt-MOST_LINE-clause-cut : goal.returns-then-line-gt-MOST_LINE-clause-cut
returns-then-line-gt-MOST_LINE-clause-cut g c =
    let h = c.args.self.now.host.host in
    let leads = CutEventsLead error.OutOfMemory g.F.Folder.does h c.args.folder.now c.args.folder.now in
    lacked-cut c.text_made.result (λ e. IsLineCut (CutEventsLead e g.F.Folder.does h c.args.folder.now c.args.folder.now) c.args.line.now h h) c.text_made.ensures.lacked
    (long-cut leads (refl, inl tt) c.args.line.now h c.if-line-gt-MOST_LINE.true)
