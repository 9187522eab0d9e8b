use Rattle.std.proofs.Common.{All, take}
use Rattle.cpm_bdos.specs.Bounds.{IsFit}
use Rattle.cpm_slots.proofs.slots.numbers_fit.Given as goal

abbrev pub invariant-loop-slot : goal.invariant-loop-slot
invariant-loop-slot l = All (λ slot. IsFit slot.runner.session) (take l.slot-index l.slots)
