use Rattle.std.proofs.Common.{◌≡◌, ◌∙◌, ap, refl}
use Rattle.std.proofs.lemmas.Result.{IfErr-weaker, IfOk-weaker, err_from_is_err_and}
use Rattle.serde_json.specs.View.{items_view, view}
use Rattle.cpm_protocol.specs.Replies.{Wrong, many_json, reply_json}
use Rattle.cpm_protocol.specs.Requests.{Many, One, fault_seen, line_asked, request_seen}
use Rattle.cpm_serve.specs.Lines.{CutEventsLead, KeptEventsLead}
use Rattle.cpm_serve.specs.Parts.{IsValueCut, IsValueServed}
use Rattle.cpm_serve.proofs.LineLemmas.{asked_as, many-cut, many-kept, many-served, one-cut, one-served, wrong-cut, wrong-served}
use Rattle.cpm_serve.proofs.ManyLemmas.{lacked-cut, lacked-value, made-as}
use Rattle.cpm_serve.proofs.server.serve_line.Goals as goal

pub returns-in-Ok-One-clause-served : goal.returns-in-Ok-One-clause-served
returns-in-Ok-One-clause-served g c =
    let d = view c.args.line.now.value in
    let h = c.args.host.now.host in
    let e : asked_as (One (request_seen c.in-Ok-One.field-0-0)) ≡ line_asked d = rw c.in-Ok-One.field-0-is at c.in-Ok-One.ensures in
    IfOk-weaker c.serve_value.result _ _
    (λ v k. one-served (KeptEventsLead g.F.Folder.does h c.args.folder.now c.serve_value.new.folder) d (request_seen c.in-Ok-One.field-0-0) h c.serve_value.new.host.host (view v) e k)
    c.serve_value.ensures.served

pub returns-in-Ok-One-clause-cut : goal.returns-in-Ok-One-clause-cut
returns-in-Ok-One-clause-cut g c =
    let d = view c.args.line.now.value in
    let h = c.args.host.now.host in
    let e : asked_as (One (request_seen c.in-Ok-One.field-0-0)) ≡ line_asked d = rw c.in-Ok-One.field-0-is at c.in-Ok-One.ensures in
    IfErr-weaker c.serve_value.result _ _
    (λ x k. one-cut (CutEventsLead x g.F.Folder.does h c.args.folder.now c.serve_value.new.folder) d (request_seen c.in-Ok-One.field-0-0) h c.serve_value.new.host.host e k)
    c.serve_value.ensures.cut

pub returns-in_err-replies-in-Ok-Many-clause-cut : goal.returns-in_err-replies-in-Ok-Many-clause-cut
returns-in_err-replies-in-Ok-Many-clause-cut g c =
    let d = view c.args.line.now.value in
    let h = c.args.host.now.host in
    let by = c.in_err-replies-in-Ok-Many.field-0.0 in
    let e : asked_as (Many (items_view c.in-Ok-Many.values.now)) ≡ line_asked d = rw c.in-Ok-Many.field-0-is at c.in-Ok-Many.ensures in
    let p = err_from_is_err_and c.from_residual.result c.from_residual.ensures.1 in
    rw (p.1, p.2)
    (many-cut (CutEventsLead by g.F.Folder.does h c.args.folder.now c.serve_values.new.folder) d c.in-Ok-Many.values.now h c.serve_values.new.host.host e c.in_err-replies-in-Ok-Many.ensures.cut)

pub returns-in_ok-replies-in-Ok-Many-clause-served : goal.returns-in_ok-replies-in-Ok-Many-clause-served
returns-in_ok-replies-in-Ok-Many-clause-served g c =
    let d = view c.args.line.now.value in
    let h = c.args.host.now.host in
    let new = c.serve_values.new.host.host in
    let leads = KeptEventsLead g.F.Folder.does h c.args.folder.now c.serve_values.new.folder in
    let e : asked_as (Many (items_view c.in-Ok-Many.values.now)) ≡ line_asked d = rw c.in-Ok-Many.field-0-is at c.in-Ok-Many.ensures in
    let rs = c.in_ok-replies-in-Ok-Many.replies.items in
    made-as c.made.result c.many_value.result (λ v. IsValueServed leads d h new (view v)) c.made.ensures.made
    (IfOk-weaker c.many_value.result _ _
    (λ v is. many-served leads d c.in-Ok-Many.values.now rs h new (view v) e c.in_ok-replies-in-Ok-Many.ensures.served (is ∙ ap (λ t. many_json t (items_view rs)) c.tag_shown-tag.ensures))
    c.many_value.ensures)

pub returns-in_ok-replies-in-Ok-Many-clause-cut : goal.returns-in_ok-replies-in-Ok-Many-clause-cut
returns-in_ok-replies-in-Ok-Many-clause-cut g c =
    let d = view c.args.line.now.value in
    let h = c.args.host.now.host in
    let new = c.serve_values.new.host.host in
    let leads = KeptEventsLead g.F.Folder.does h c.args.folder.now c.serve_values.new.folder in
    let e : asked_as (Many (items_view c.in-Ok-Many.values.now)) ≡ line_asked d = rw c.in-Ok-Many.field-0-is at c.in-Ok-Many.ensures in
    lacked-cut c.made.result (λ x. IsValueCut (CutEventsLead x g.F.Folder.does h c.args.folder.now c.serve_values.new.folder) d h new) c.made.ensures.lacked
    (lacked-value g.F.Folder.does c.args.folder.now c.serve_values.new.folder d h new
    (many-kept leads d c.in-Ok-Many.values.now c.in_ok-replies-in-Ok-Many.replies.items h new e c.in_ok-replies-in-Ok-Many.ensures.served))

pub returns-in-Err-clause-served : goal.returns-in-Err-clause-served
returns-in-Err-clause-served g c =
    let d = view c.args.line.now.value in
    let h = c.args.host.now.host in
    let fault = fault_seen c.in-Err.fault in
    let leads = KeptEventsLead g.F.Folder.does h c.args.folder.now c.args.folder.now in
    made-as c.made-in-Err.result c.value.result (λ v. IsValueServed leads d h h (view v)) c.made-in-Err.ensures.made
    (IfOk-weaker c.value.result _ _
    (λ v is. wrong-served leads (refl, tt) d fault h (view v) c.in-Err.ensures (is ∙ ap (λ t. reply_json t (Wrong fault)) c.tag_shown-tag.ensures))
    c.value.ensures)

pub returns-in-Err-clause-cut : goal.returns-in-Err-clause-cut
returns-in-Err-clause-cut g c =
    let d = view c.args.line.now.value in
    let h = c.args.host.now.host in
    let leads = KeptEventsLead g.F.Folder.does h c.args.folder.now c.args.folder.now in
    lacked-cut c.made-in-Err.result (λ x. IsValueCut (CutEventsLead x g.F.Folder.does h c.args.folder.now c.args.folder.now) d h h) c.made-in-Err.ensures.lacked
    (lacked-value g.F.Folder.does c.args.folder.now c.args.folder.now d h h (wrong-cut leads (refl, tt) d (fault_seen c.in-Err.fault) h c.in-Err.ensures))
