use Rattle.std.proofs.Common.{◌∙◌, ◌+◌, ◌∷◌, [], ap, drop, map, sym, subst, take}
use Rattle.std.proofs.lemmas.List.{map-append}
use Rattle.std.proofs.lemmas.Result.{err_from_is_err_and}
use Rattle.serde_json.specs.View.{view}
use Rattle.cpm_serve.specs.Lines.{KeptEventsLead}
use Rattle.cpm_serve.specs.Parts.{AreServed}
use Rattle.cpm_serve.specs.declared.folder.ServeError.TheVariants as error
use Rattle.cpm_serve.proofs.ManyLemmas.{all-values, cut-at, cut-served, lacked-event, served-more, up-to}
use Rattle.cpm_serve.proofs.many.serve_values.Goals as goal

pub loop-value-preserved : goal.loop-value-preserved
loop-value-preserved g c =
    let values = c.args.values.now in
    let i = c.loop-value.value-index in
    let x = c.value-item.result in
    let r = c.in_ok-reply.reply in
    subst (λ rs. AreServed (KeptEventsLead g.F.Folder.does c.args.host.now.host c.args.folder.now c.serve_value.new.folder) (map view (take (i + 1) values)) c.args.host.now.host c.serve_value.new.host.host rs)
    (sym (ap (map view) c.in_ok-pushed.ensures.added ∙ map-append view c.loop-value.replies.items (r ∷ [])))
    (served-more g.F.Folder.does c.args.folder.now c.loop-value.folder c.serve_value.new.folder (map view (take i values)) (map view (take (i + 1) values)) (view x) (map view c.loop-value.replies.items) (view r)
    c.args.host.now.host c.loop-value.host.host c.serve_value.new.host.host c.loop-value.invariant c.in_ok-reply.ensures.served
    (up-to view values i x c.loop-value-test.true c.value-item.is))

pub returns-in_err-reply-clause-cut : goal.returns-in_err-reply-clause-cut
returns-in_err-reply-clause-cut g c =
    let values = c.args.values.now in
    let i = c.loop-value.value-index in
    let x = c.value-item.result in
    let p = err_from_is_err_and c.from_residual.result c.from_residual.ensures.1 in
    rw (p.1, p.2)
    (cut-at g.F.Folder.does c.in_err-reply.field-0.0 c.args.folder.now c.loop-value.folder c.serve_value.new.folder (map view (take i values)) (map view values) (view x) (map view (drop (i + 1) values))
    (map view c.loop-value.replies.items) c.args.host.now.host c.loop-value.host.host c.serve_value.new.host.host c.loop-value.invariant c.in_err-reply.ensures.cut
    (all-values view values i x c.loop-value-test.true c.value-item.is))

pub returns-in_err-pushed-clause-cut : goal.returns-in_err-pushed-clause-cut
returns-in_err-pushed-clause-cut g c =
    let values = c.args.values.now in
    let i = c.loop-value.value-index in
    let x = c.value-item.result in
    let p = err_from_is_err_and c.from_residual-in_err-pushed.result c.from_residual-in_err-pushed.ensures.1 in
    rw (p.1, p.2, c.in_err-pushed.ensures.lacked)
    (cut-at g.F.Folder.does error.OutOfMemory c.args.folder.now c.loop-value.folder c.serve_value.new.folder (map view (take i values)) (map view values) (view x) (map view (drop (i + 1) values))
    (map view c.loop-value.replies.items) c.args.host.now.host c.loop-value.host.host c.serve_value.new.host.host c.loop-value.invariant
    (lacked-event g.F.Folder.does c.loop-value.folder c.serve_value.new.folder (view x) c.loop-value.host.host c.serve_value.new.host.host
    (cut-served (KeptEventsLead g.F.Folder.does c.loop-value.host.host c.loop-value.folder c.serve_value.new.folder) (view x) (view c.in_ok-reply.reply) c.loop-value.host.host c.serve_value.new.host.host c.in_ok-reply.ensures.served))
    (all-values view values i x c.loop-value-test.true c.value-item.is))
