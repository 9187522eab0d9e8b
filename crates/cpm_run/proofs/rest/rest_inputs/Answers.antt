use Rattle.cpm_run.specs.Kept.{standing_view}
use Rattle.cpm_run.proofs.RestLemmas.{rests-all, rests-more, rests-none}
use Rattle.cpm_run.proofs.rest.rest_inputs.Goals as goal

pub loop-place-init : goal.loop-place-init
loop-place-init c = rests-none (standing_view c.args.kept.now) c.args.inputs.now c.new-rests.result.items c.new-rests.ensures.items

pub loop-place-preserved : goal.loop-place-preserved
loop-place-preserved c =
    rests-more (standing_view c.args.kept.now) c.args.inputs.now c.loop-place.place c.index-inputs-place.result c.loop-place.rests.items c.push.new.self.items c.in_ok-rest_session.field-0 c.loop-place-test.true
    c.index-inputs-place.is c.in_ok-rest_session.ensures c.in_ok-push.ensures.items c.loop-place.invariant

pub returns : goal.returns
returns c = rests-all (standing_view c.args.kept.now) c.args.inputs.now c.loop-place.place c.loop-place.rests.items c.loop-place-test.false c.loop-place.invariant
