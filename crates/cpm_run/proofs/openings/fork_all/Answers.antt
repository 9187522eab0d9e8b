use Rattle.std.proofs.Common.{◌≤◌, arith, length, map}
use Rattle.std.proofs.lemmas.List.{length-map}
use Rattle.cpm_batch.specs.Inputs.{given, start_view}
use Rattle.cpm_run.specs.Run.{starts_read}
use Rattle.cpm_run.proofs.OpeningLemmas.{forked_all, forked_more, not_forked, start_there}
use Rattle.cpm_run.proofs.openings.fork_all.Goals as goal

pub loop-place-init : goal.loop-place-init
loop-place-init c = λ h left. left

pub loop-place-preserved : goal.loop-place-preserved
loop-place-preserved c = λ h left.
    let inputs = c.args.inputs.now in
    let place = c.loop-place.place in
    let item = c.index-inputs-place.result in
    forked_more (starts_read (map given inputs)) h place (start_view item.start) c.loop-place.left c.in-Ok.next
    (start_there inputs place item c.loop-place-test.true c.index-inputs-place.is) c.in-Ok.ensures.left (c.loop-place.invariant h left)

pub returns-in-Err-clause-refusal : goal.returns-in-Err-clause-refusal
returns-in-Err-clause-refusal c = λ first h left refuses.
    let inputs = c.args.inputs.now in
    let place = c.loop-place.place in
    let item = c.index-inputs-place.result in
    c.refused_at.ensures first
    (refuses c.in-Err.fault place (not_forked (starts_read (map given inputs)) h place (start_view item.start) c.loop-place.left c.in-Err.fault
    (start_there inputs place item c.loop-place-test.true c.index-inputs-place.is) c.in-Err.ensures.refusal (c.loop-place.invariant h left)))

pub returns-clause-room : goal.returns-clause-room
returns-clause-room c = λ h left.
    let inputs = c.args.inputs.now in
    let place = c.loop-place.place in
    let a = length-map inputs given in
    let b = length-map (map given inputs) (λ i. i.start) in
    let last = c.loop-place-test.false in
    let past : length (starts_read (map given inputs)) ≤ place = omega (arith, a, b, last) in
    forked_all (starts_read (map given inputs)) h place c.loop-place.left past (c.loop-place.invariant h left)
