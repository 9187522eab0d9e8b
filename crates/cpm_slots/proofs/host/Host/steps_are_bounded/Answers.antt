use Rattle.std.proofs.Common.{All, ap, ◌∙◌}
use Rattle.cpm_memory.specs.Frames.{memories}
use Rattle.cpm_machine.proofs.StepBounds.{IsBounded-step}
use Rattle.cpm_slots.specs.Host.{slot_at}
use Rattle.cpm_slots.specs.HostWithStore.{HostWithStore}
use Rattle.cpm_slots.proofs.FitSlots.{SlotFits, fit-slot}
use Rattle.cpm_slots.proofs.host.Host.steps_are_bounded.Goals as goal

pub returns : goal.returns
returns c = λ system id state at.
    let s = c.self.inside in
    let fits : All SlotFits s.slots.items = rw c.deref.ensures.value at c.numbers_fit.ensures in
    IsBounded-step system state (fit-slot (memories s.store) s.slots.items id state fits (ap (λ (x : HostWithStore). slot_at id x.host.slots) c.self.view_is ∙ at))
