use Rattle.std.proofs.Common.{◌∙◌, Some, ap}
use Rattle.cpm_slots.specs.Host.{Host, slot_at}
use Rattle.cpm_slots.specs.HostWithStore.{HostWithStore}
use Rattle.cpm_play.proofs.HostLemmas.{looked, looks}
use Rattle.cpm_run.proofs.EndingLemmas.{ending_seen}
use Rattle.cpm_run.proofs.ending.ending_of_slot.Goals as goal

pub returns-in_default-clause-ending : goal.returns-in_default-clause-ending
returns-in_default-clause-ending c = λ s at. absurd (looks c.args.host.now.host c.args.id.0 c.in_default.field-0 s c.in_default.ensures.reply at)

pub returns-clause-ending : goal.returns-clause-ending
returns-clause-ending c = λ s at.
    let same = ap (λ (h : HostWithStore). h.host) c.in-Ok.ensures.unchanged in
    let there = ap (λ (h : Host). slot_at c.args.id.0 h.slots) same ∙ at in
    ap Some (ending_seen s c.in-Ok.look c.bytes_of.result (looked c.args.host.now.host c.args.id.0 c.in-Ok.look s c.in-Ok.ensures.reply at) (c.bytes_of.ensures s there))
