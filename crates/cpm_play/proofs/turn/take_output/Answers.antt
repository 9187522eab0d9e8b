use Rattle.std.proofs.Common.{◌≡◌, []}
use Rattle.cpm_console.specs.declared.device.Device.{Device}
use Rattle.cpm_console.specs.declared.device.Device.TheVariants as device
use Rattle.cpm_slots.specs.Host.{slot_at}
use Rattle.cpm_play.specs.ScriptedSlots.{waits_in}
use Rattle.cpm_play.proofs.HostLemmas.{moves-on}
use Rattle.cpm_play.proofs.ScriptedSlotLemmas.{resting-empty}
use Rattle.cpm_play.proofs.TextLemmas.{on_ok}
use Rattle.cpm_play.proofs.turn.take_output.Goals as goal

pub returns-clause-resting : goal.returns-clause-resting
returns-clause-resting c =
    let first = c.in_ok-take_all.ensures in
    let p = c.take_all-2.new.slot in
    let h = c.take_all-2.new.host.host in
    on_ok c.take_all-2.result c.take_all-2.ensures.playing c.take_all-2.ensures.empty c.take_all-2.ensures.stays
    (λ last none stays. λ steps start r.
    let empty : (on : Device) → waits_in on (slot_at p.id.0 h.slots) ≡ [] = elim [ device.Console ↦ stays device.Console first.empty | device.List ↦ none ] in
    resting-empty steps start p h empty (last steps start (first.playing steps start r)))
