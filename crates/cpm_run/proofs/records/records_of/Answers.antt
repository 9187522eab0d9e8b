use Rattle.std.proofs.Common.{◌<◌, ◌∙◌, ◌++◌, ap, arith, drop, length, map}
use Rattle.std.proofs.lemmas.Bool.Decides.{nat_tests}
use Rattle.cpm_store.specs.Writes.{named_output}
use Rattle.cpm_run.specs.Run.{record_outputs}
use Rattle.cpm_run.specs.Settled.{settled_view}
use Rattle.cpm_run.proofs.RecordLemmas.{own-below, records-all, records-more, records-past}
use Rattle.cpm_run.proofs.records.records_of.Goals as goal

pub loop-place-init : goal.loop-place-init
loop-place-init c = ap (λ os. map named_output os ++ record_outputs c.args.records.now (map settled_view c.args.settled.now)) c.new-outputs.ensures.items

pub returns-in_default : goal.returns-in_default
returns-in_default c =
    let past = c.in_default.ensures.lookup.0 in
    records-past c.args.records.now c.args.settled.now c.loop-place.place _ (grind (arith, nat_tests)) c.loop-place.invariant

pub add_record-requires : goal.add_record-requires
add_record-requires c =
    let test = c.in-Some.ensures.lookup.0 in
    let within : c.loop-place.place < length c.args.settled.now = grind (arith, nat_tests) in
    own-below c.args.settled.now c.loop-place.place c.in-Some.session.now c.keys_after-own.result.now c.requires within c.in-Some.ensures.lookup.1
    (c.keys_after-own.ensures ∙ ap (drop c.in-Some.session.now.before) c.as_slice.ensures.value)

pub loop-place-preserved : goal.loop-place-preserved
loop-place-preserved c =
    let test = c.in-Some.ensures.lookup.0 in
    let within : c.loop-place.place < length c.args.settled.now = grind (arith, nat_tests) in
    records-more c.args.records.now c.args.settled.now c.loop-place.place _ c.in-Some.session.now c.keys_after-own.result.now _ _ c.loop-place-test.true within c.in-Some.ensures.lookup.1
    (c.keys_after-own.ensures ∙ ap (drop c.in-Some.session.now.before) c.as_slice.ensures.value) c.in_ok-add_record.ensures c.loop-place.invariant

pub returns : goal.returns
returns c = records-all c.args.records.now c.args.settled.now c.loop-place.place _ c.loop-place-test.false c.loop-place.invariant
