use Rattle.std.proofs.Common.{◌∙◌, ap, refl, sym}
use Rattle.std.proofs.lemmas.Result.{IfOk-weaker}
use Rattle.serde_json.specs.View.{view}
use Rattle.cpm_protocol.specs.Replies.{Wrong, reply_json}
use Rattle.cpm_protocol.specs.Requests.{fault_seen, request_seen}
use Rattle.cpm_serve.specs.Lines.{CutEventsLead, KeptEventsLead, tag_shown}
use Rattle.cpm_serve.specs.Owned.{owned_answer}
use Rattle.cpm_serve.specs.Parts.{IsEventCut, IsEventServed}
use Rattle.cpm_serve.proofs.ByteKeys.{byte-keys}
use Rattle.cpm_serve.proofs.EventLemmas.{event-served, event-wrong}
use Rattle.cpm_serve.proofs.ManyLemmas.{cut-served, lacked-cut, lacked-event, made-as}
use Rattle.cpm_serve.proofs.many.serve_value.Goals as goal

pub perform_kept-requires-clause-bytes : goal.perform_kept-requires-clause-bytes
perform_kept-requires-clause-bytes g c = byte-keys (view c.args.value.now) (request_seen c.in-Ok.request) (sym c.in-Ok.ensures)

pub returns-in_ok-reply-in-Ok-clause-served : goal.returns-in_ok-reply-in-Ok-clause-served
returns-in_ok-reply-in-Ok-clause-served g c =
    let d = view c.args.value.now in
    let a = owned_answer c.in_ok-reply-in-Ok.reply in
    let h = c.args.host.now.host in
    let new = c.perform_kept.new.host.host in
    let leads = KeptEventsLead g.F.Folder.does h c.args.folder.now c.perform_kept.new.folder in
    made-as c.made.result c.value.result (λ v. IsEventServed leads d h new (view v)) c.made.ensures.made
    (IfOk-weaker c.value.result _ _
    (λ v is. event-served leads d h new a (view v) c.in_ok-reply-in-Ok.ensures.done (is ∙ ap (λ t. reply_json t a) c.tag_shown-tag.ensures))
    c.value.ensures)

pub returns-in_ok-reply-in-Ok-clause-cut : goal.returns-in_ok-reply-in-Ok-clause-cut
returns-in_ok-reply-in-Ok-clause-cut g c =
    let d = view c.args.value.now in
    let a = owned_answer c.in_ok-reply-in-Ok.reply in
    let h = c.args.host.now.host in
    let new = c.perform_kept.new.host.host in
    let leads = KeptEventsLead g.F.Folder.does h c.args.folder.now c.perform_kept.new.folder in
    let reply = reply_json (tag_shown d) a in
    lacked-cut c.made.result (λ e. IsEventCut (CutEventsLead e g.F.Folder.does h c.args.folder.now c.perform_kept.new.folder) d h new) c.made.ensures.lacked
    (lacked-event g.F.Folder.does c.args.folder.now c.perform_kept.new.folder d h new
    (cut-served leads d reply h new (event-served leads d h new a reply c.in_ok-reply-in-Ok.ensures.done refl)))

pub returns-in-Err-clause-served : goal.returns-in-Err-clause-served
returns-in-Err-clause-served g c =
    let d = view c.args.value.now in
    let fault = fault_seen c.in-Err.fault in
    let h = c.args.host.now.host in
    let leads = KeptEventsLead g.F.Folder.does h c.args.folder.now c.args.folder.now in
    made-as c.made-in-Err.result c.value-in-Err.result (λ v. IsEventServed leads d h h (view v)) c.made-in-Err.ensures.made
    (IfOk-weaker c.value-in-Err.result _ _
    (λ v is. event-wrong g.F.Folder.does d fault h c.args.folder.now (view v) c.in-Err.ensures (is ∙ ap (λ t. reply_json t (Wrong fault)) c.tag_shown-tag.ensures))
    c.value-in-Err.ensures)

pub returns-in-Err-clause-cut : goal.returns-in-Err-clause-cut
returns-in-Err-clause-cut g c =
    let d = view c.args.value.now in
    let fault = fault_seen c.in-Err.fault in
    let h = c.args.host.now.host in
    let reply = reply_json (tag_shown d) (Wrong fault) in
    let leads = KeptEventsLead g.F.Folder.does h c.args.folder.now c.args.folder.now in
    lacked-cut c.made-in-Err.result (λ e. IsEventCut (CutEventsLead e g.F.Folder.does h c.args.folder.now c.args.folder.now) d h h) c.made-in-Err.ensures.lacked
    (lacked-event g.F.Folder.does c.args.folder.now c.args.folder.now d h h
    (cut-served leads d reply h h (event-wrong g.F.Folder.does d fault h c.args.folder.now reply c.in-Err.ensures refl)))
