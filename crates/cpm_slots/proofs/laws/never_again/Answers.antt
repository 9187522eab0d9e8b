use Rattle.std.proofs.Common.{ap, ◌∙◌}
use Rattle.cpm_slots.specs.Account.{slot_after}
use Rattle.cpm_slots.specs.Host.{own}
use Rattle.cpm_slots.proofs.EventLaws.{slot-after, slot_after-none}
use Rattle.cpm_slots.proofs.laws.never_again.Goals as goal

pub returns : goal.returns
returns c = λ h events id below none.
    slot-after id events h below ∙ ap (λ o. slot_after h.system (own id events) o) none ∙ slot_after-none h.system (own id events)
