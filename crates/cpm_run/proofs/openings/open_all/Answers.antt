use Rattle.std.proofs.Common.{List, ap, map, refl}
use Rattle.std.proofs.lemmas.List.{drop_all}
use Rattle.cpm_batch.specs.Inputs.{given}
use Rattle.cpm_batch.specs.declared.input.Input.{Input}
use Rattle.cpm_slots.specs.Host.{new_host}
use Rattle.cpm_run.specs.Run.{starts_read}
use Rattle.cpm_run.proofs.OpeningLemmas.{not_opened, opened_all, opened_first, opened_more, start_next}
use Rattle.cpm_run.proofs.openings.open_all.Goals as goal

pub loop-place-init : goal.loop-place-init
loop-place-init c = record { opened = opened_first (starts_read (map given c.args.inputs.now)) c.args.system.now _ c.args.config.now.frames refl refl; known = tt }

pub loop-place-preserved : goal.loop-place-preserved
loop-place-preserved c =
    let inputs = c.args.inputs.now in
    let place = c.loop-place.place in
    let item = c.index-inputs-place.result in
    record {
      opened = opened_more (starts_read (map given inputs)) (new_host c.args.system.now c.args.config.now.frames) place _ _ item.start c.loop-place.room c.in-Ok.left
          (start_next inputs place item c.loop-place-test.true c.index-inputs-place.is) c.in-Ok.ensures.left c.loop-place.invariant.opened;
      known = c.open_in.ensures.known;
    }

pub returns-in-Err-clause-refusal : goal.returns-in-Err-clause-refusal
returns-in-Err-clause-refusal c =
    let inputs = c.args.inputs.now in
    let place = c.loop-place.place in
    let item = c.index-inputs-place.result in
    let first = new_host c.args.system.now c.args.config.now.frames in
    c.refused_at.ensures first
    (not_opened (starts_read (map given inputs)) first place _ _ item.start c.loop-place.room c.in-Err.fault (start_next inputs place item c.loop-place-test.true c.index-inputs-place.is)
    c.in-Err.ensures.refusal c.loop-place.invariant.opened)

pub returns-clause-left : goal.returns-clause-left
returns-clause-left c =
    let inputs = c.args.inputs.now in
    let place = c.loop-place.place in
    opened_all (starts_read (map given inputs)) (new_host c.args.system.now c.args.config.now.frames) place _ c.loop-place.room
    (ap (λ (xs : List Input). starts_read (map given xs)) (drop_all place inputs c.loop-place-test.false)) c.loop-place.invariant.opened
