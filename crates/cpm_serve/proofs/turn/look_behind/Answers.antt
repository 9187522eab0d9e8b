use Rattle.std.proofs.Common.{◌∙◌, ap, ap₂, Bool}
use Rattle.cpm_machine.specs.declared.reply.Look.{Look}
use Rattle.cpm_protocol.specs.declared.word.WireEnd.{WireEnd}
use Rattle.cpm_slots.specs.Host.{slot_at}
use Rattle.cpm_slots.specs.HostWithStore.{HostWithStore}
use Rattle.cpm_serve.specs.Seen.{end_seen}
use Rattle.cpm_serve.specs.Turns.{IsSeen}
use Rattle.cpm_serve.proofs.ServedLemmas.{if-open}
use Rattle.cpm_serve.proofs.TurnLemmas.{look-is, look-not}
use Rattle.cpm_serve.proofs.turn.look_behind.Goals as goal

pub returns-in-Ok : goal.returns-in-Ok
returns-in-Ok c =
    if-open (slot_at c.args.id.0 c.args.host.now.host.slots) (IsSeen (c.in-Ok.look.waiting, c.end_seen.result) c.args.host.now.host c.look.new.self.host)
    (λ s at.
    let is = look-is c.args.host.now.host c.args.id.0 s c.in-Ok.look at c.in-Ok.ensures.reply in
    record {
      seen_is = ap₂ (λ (b : Bool) (e : WireEnd). (b, e)) (ap (λ (l : Look). l.waiting) is) (c.end_seen.ensures ∙ ap (λ (l : Look). end_seen l.ended) is);
      host = ap (λ (x : HostWithStore). x.host) c.in-Ok.ensures.unchanged;
    })

pub returns-in-Err : goal.returns-in-Err
returns-in-Err c =
    if-open (slot_at c.args.id.0 c.args.host.now.host.slots) _
    (λ s at. absurd (look-not c.args.host.now.host c.args.id.0 s c.in-Err.field-0 at c.in-Err.ensures.reply))
