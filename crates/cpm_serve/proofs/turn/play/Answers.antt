use Rattle.cpm_slots.specs.Host.{slot_at}
use Rattle.cpm_serve.proofs.ServedLemmas.{if-open}
use Rattle.cpm_serve.proofs.TurnLemmas.{turn-served}
use Rattle.cpm_serve.proofs.turn.play.Goals as goal

pub returns : goal.returns
returns c =
    if-open (slot_at c.args.id.0 c.args.host.now.host.slots) _
    (λ s at. turn-served c.args.host.now.host c.offer-accepted.new.host.host c.work-executed.new.host.host c.move_out-text.new.host.host c.move_out-list.new.host.host _
    c.args.id.0 c.args.steps _ c.args.keys.now c.move_out-text.result.items c.move_out-list.result.items c.work-executed.result c.look_behind-waiting.result s at
    c.offer-accepted.ensures.host c.offer-accepted.ensures.accepted c.work-executed.ensures c.move_out-text.ensures c.move_out-list.ensures c.look_behind-waiting.ensures)
