use Rattle.std.proofs.Common.{map}
use Rattle.std.specs.Vec.Iter.{into_iter_items}
use Rattle.std.proofs.lemmas.Result.{err_from_is_err_and}
use Rattle.cpm_run.proofs.PrepareLemmas.{prepare_refused, prepared_more, prepared_next}
use Rattle.cpm_run.specs.Settled.{settled_view}
use Rattle.cpm_run.proofs.play.prepare_all.Goals as goal

pub returns-in_err-prepare-clause-refusal : goal.returns-in_err-prepare-clause-refusal
returns-in_err-prepare-clause-refusal c =
    let p = err_from_is_err_and c.from_residual.result c.from_residual.ensures.1 in
    let l = c.loop-input in
    let all = map settled_view c.args.inputs.items in
    let next = prepared_next c.args.host.now.host l.host.host all (into_iter_items l.rest) (into_iter_items c.next.new.self) c.in-Some.input l.players.items c.in-Some.ensures.cases.0 l.invariant in
    rw (p.1, p.2) (prepare_refused c.args.host.now.host l.host.host all (map settled_view (into_iter_items c.next.new.self)) (settled_view c.in-Some.input) l.players.items c.in_err-prepare.field-0.0 next
    c.in_err-prepare.ensures.refusal)

pub loop-input-preserved : goal.loop-input-preserved
loop-input-preserved c =
    let l = c.loop-input in
    let all = map settled_view c.args.inputs.items in
    let next = prepared_next c.args.host.now.host l.host.host all (into_iter_items l.rest) (into_iter_items c.next.new.self) c.in-Some.input l.players.items c.in-Some.ensures.cases.0 l.invariant in
    prepared_more c.args.host.now.host l.host.host c.prepare.new.host.host all (map settled_view (into_iter_items c.next.new.self)) (settled_view c.in-Some.input) l.players.items c.push.new.self.items c.in_ok-prepare.field-0
    next c.in_ok-prepare.ensures.prepared c.in_ok-push.ensures.items
