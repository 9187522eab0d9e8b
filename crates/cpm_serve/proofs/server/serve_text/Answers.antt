use Rattle.std.specs.Prelude.{string_bytes}
use Rattle.std.proofs.lemmas.Result.{IfOk-weaker}
use Rattle.serde_json.specs.View.{view}
use Rattle.cpm_serve.specs.Lines.{CutEventsLead, KeptEventsLead}
use Rattle.cpm_serve.specs.Parts.{IsTextServed, IsValueCut}
use Rattle.cpm_serve.proofs.LineLemmas.{kept-value, served-text}
use Rattle.cpm_serve.proofs.ManyLemmas.{lacked-cut, lacked-value, made-as}
use Rattle.cpm_serve.proofs.server.serve_text.Goals as goal

pub returns-clause-served : goal.returns-clause-served
returns-clause-served g c =
    let d = view c.args.line.now.value in
    let h = c.args.host.now.host in
    let new = c.serve_line.new.host.host in
    let leads = KeptEventsLead g.F.Folder.does h c.args.folder.now c.serve_line.new.folder in
    made-as c.text_made.result c.to_string.result (λ t. IsTextServed leads d h new (string_bytes t)) c.text_made.ensures.made
    (IfOk-weaker c.to_string.result _ _
    (λ t said. served-text leads d (view c.in_ok-reply.reply) (string_bytes t) h new c.in_ok-reply.ensures.served said)
    c.to_string.ensures.text)

pub returns-clause-cut : goal.returns-clause-cut
returns-clause-cut g c =
    let d = view c.args.line.now.value in
    let h = c.args.host.now.host in
    let new = c.serve_line.new.host.host in
    let leads = KeptEventsLead g.F.Folder.does h c.args.folder.now c.serve_line.new.folder in
    lacked-cut c.text_made.result (λ e. IsValueCut (CutEventsLead e g.F.Folder.does h c.args.folder.now c.serve_line.new.folder) d h new) c.text_made.ensures.lacked
    (lacked-value g.F.Folder.does c.args.folder.now c.serve_line.new.folder d h new (kept-value leads d (view c.in_ok-reply.reply) h new c.in_ok-reply.ensures.served))
