use Rattle.std.proofs.Common.{◌≡◌, ◌∙◌, [], ap, length, map, rules}
use Rattle.std.specs.Vec.Iter.{into_iter_items, into_iter_len}
use Rattle.std.proofs.lemmas.List.{nil_from_length}
use Rattle.std.proofs.lemmas.Result.{err_from_is_err_and}
use Rattle.cpm_batch.specs.Inputs.{given}
use Rattle.cpm_run.specs.Settled.{settled_view, typed_view}
use Rattle.cpm_run.specs.declared.error.RunError.TheVariants as refusal
use Rattle.cpm_run.proofs.SettleLemmas.{all_settled, first_settled, next_openable, next_refused, next_settled, pushed_view, settled_more, settled_next}
use Rattle.cpm_run.proofs.settle.settle.Goals as goal

pub loop-input-init : goal.loop-input-init
loop-input-init g c =
    first_settled c.args.system.now c.args.options.stops_idle (typed_view c.args.typed.now) c.args.config.now.sessions.items c.args.inputs.items (into_iter_items c.into_iter-rest.result) c.new-settled.result.items c.into_iter-rest.ensures.rest
    c.new-settled.ensures.items c.requires.fit

pub settle_session-requires-clause-fit : goal.settle_session-requires-clause-fit
settle_session-requires-clause-fit g c =
    let l = c.loop-input in
    let next = settled_next c.args.system.now c.args.options.stops_idle (typed_view c.args.typed.now) c.args.config.now.sessions.items (map given c.args.inputs.items) (into_iter_items l.rest) (into_iter_items c.next.new.self) c.in-Some.input l.settled.items c.as_slice-before.result.now
    c.in-Some.ensures.cases.0 c.as_slice-before.ensures.value l.invariant in
    next.fit.0

pub settle_session-requires-clause-sound : goal.settle_session-requires-clause-sound
settle_session-requires-clause-sound g c =
    let l = c.loop-input in
    let next = settled_next c.args.system.now c.args.options.stops_idle (typed_view c.args.typed.now) c.args.config.now.sessions.items (map given c.args.inputs.items) (into_iter_items l.rest) (into_iter_items c.next.new.self) c.in-Some.input l.settled.items c.as_slice-before.result.now
    c.in-Some.ensures.cases.0 c.as_slice-before.ensures.value l.invariant in
    next.sound

pub settle_session-requires-clause-openable : goal.settle_session-requires-clause-openable
settle_session-requires-clause-openable g c =
    let l = c.loop-input in
    let next = settled_next c.args.system.now c.args.options.stops_idle (typed_view c.args.typed.now) c.args.config.now.sessions.items (map given c.args.inputs.items) (into_iter_items l.rest) (into_iter_items c.next.new.self) c.in-Some.input l.settled.items c.as_slice-before.result.now
    c.in-Some.ensures.cases.0 c.as_slice-before.ensures.value l.invariant in
    next_openable c.args.system.now c.args.options.stops_idle (typed_view c.args.typed.now) c.args.config.now.sessions.items (map given c.args.inputs.items) (map given (into_iter_items c.next.new.self)) (given c.in-Some.input)
    (map settled_view c.as_slice-before.result.now) next c.requires.openable

pub returns-in_err-next-clause-refusal : goal.returns-in_err-next-clause-refusal
returns-in_err-next-clause-refusal g c =
    let p = err_from_is_err_and c.from_residual.result c.from_residual.ensures.1 in
    let l = c.loop-input in
    let next = settled_next c.args.system.now c.args.options.stops_idle (typed_view c.args.typed.now) c.args.config.now.sessions.items (map given c.args.inputs.items) (into_iter_items l.rest) (into_iter_items c.next.new.self) c.in-Some.input l.settled.items c.as_slice-before.result.now
    c.in-Some.ensures.cases.0 c.as_slice-before.ensures.value l.invariant in
    rw (p.1, p.2) (next_refused c.args.system.now c.args.options (typed_view c.args.typed.now) c.args.config.now.sessions.items (map given c.args.inputs.items) (map given (into_iter_items c.next.new.self)) (given c.in-Some.input)
    (map settled_view c.as_slice-before.result.now) c.in_err-next.field-0.0 next c.in_err-next.ensures.refusal)

pub loop-input-smaller : goal.loop-input-smaller
loop-input-smaller g c = search rules

pub loop-input-preserved : goal.loop-input-preserved
loop-input-preserved g c =
    let l = c.loop-input in
    let next = settled_next c.args.system.now c.args.options.stops_idle (typed_view c.args.typed.now) c.args.config.now.sessions.items (map given c.args.inputs.items) (into_iter_items l.rest) (into_iter_items c.next.new.self) c.in-Some.input l.settled.items c.as_slice-before.result.now
    c.in-Some.ensures.cases.0 c.as_slice-before.ensures.value l.invariant in
    settled_more c.args.system.now c.args.options.stops_idle (typed_view c.args.typed.now) c.args.config.now.sessions.items (map given c.args.inputs.items) (map given (into_iter_items c.next.new.self)) (given c.in-Some.input)
    (map settled_view c.as_slice-before.result.now) (map settled_view c.push.new.self.items) (settled_view c.in_ok-next.next) next
    (next_settled c.args.system.now c.args.options.stops_idle (typed_view c.args.typed.now) c.as_slice-before.result.now _ (given c.in-Some.input) (settled_view c.in_ok-next.next) c.in_ok-next.ensures.settled)
    c.in_ok-next.ensures.sound
    (pushed_view l.settled.items c.as_slice-before.result.now c.push.new.self.items c.in_ok-next.next c.as_slice-before.ensures.value c.in_ok-push.ensures.items)

pub returns-in_err-push-clause-refusal : goal.returns-in_err-push-clause-refusal
returns-in_err-push-clause-refusal g c =
    let p = err_from_is_err_and c.from_residual-in_err-push.result c.from_residual-in_err-push.ensures.1 in
    let l = c.loop-input in
    let next = settled_next c.args.system.now c.args.options.stops_idle (typed_view c.args.typed.now) c.args.config.now.sessions.items (map given c.args.inputs.items) (into_iter_items l.rest) (into_iter_items c.next.new.self) c.in-Some.input l.settled.items c.as_slice-before.result.now
    c.in-Some.ensures.cases.0 c.as_slice-before.ensures.value l.invariant in
    rw (p.1, p.2) (next_refused c.args.system.now c.args.options (typed_view c.args.typed.now) c.args.config.now.sessions.items (map given c.args.inputs.items) (map given (into_iter_items c.next.new.self)) (given c.in-Some.input)
    (map settled_view c.as_slice-before.result.now) refusal.OutOfMemory next tt)

pub returns-clause-settled : goal.returns-clause-settled
returns-clause-settled g c =
    let long : length (into_iter_items c.loop-input.rest) ≡ into_iter_len c.loop-input.rest = search rules in
    let none : into_iter_items c.loop-input.rest ≡ [] = nil_from_length (into_iter_items c.loop-input.rest) (long ∙ c.in_default.ensures.cases.0) in
    all_settled c.args.system.now c.args.options.stops_idle (typed_view c.args.typed.now) c.args.config.now.sessions.items (map given c.args.inputs.items) (map given (into_iter_items c.loop-input.rest))
    (map settled_view c.loop-input.settled.items) (ap (map given) none) c.loop-input.invariant

pub returns-clause-sound : goal.returns-clause-sound
returns-clause-sound g c = c.loop-input.invariant.sound
