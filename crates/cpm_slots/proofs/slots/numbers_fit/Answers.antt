use Rattle.std.proofs.Common.{◌≤◌, length, take_all, subst, All, arith}
use Rattle.std.proofs.lemmas.List.{get_or_read}
use Rattle.std.proofs.lemmas.List.Elements.{All-more}
use Rattle.cpm_slots.proofs.FitSlots.{SlotFits}
use Rattle.cpm_slots.proofs.slots.numbers_fit.Goals as goal

pub loop-slot-preserved : goal.loop-slot-preserved
loop-slot-preserved c =
    let slots = c.args.slots.now in
    let slot = c.slot-item.result in
    All-more SlotFits slots c.loop-slot.slot-index slot c.loop-slot-test.true c.loop-slot.invariant
    (subst SlotFits (get_or_read slots c.loop-slot.slot-index slot c.loop-slot-test.true c.slot-item.is slot) c.numbers_fit.ensures)

pub returns : goal.returns
returns c =
    let finished : length c.args.slots.now ≤ c.loop-slot.slot-index = omega (arith, c.loop-slot-test.false) in
    subst (All SlotFits) (take_all c.loop-slot.slot-index c.args.slots.now finished) c.loop-slot.invariant
