use Rattle.std.proofs.Common.{◌≡◌, ◌∙◌, Some, ap, subst}
use Rattle.std.specs.Prelude.{IfSome}
use Rattle.cpm_slots.specs.Host.{Host, slot_at}
use Rattle.cpm_slots.specs.HostWithStore.{HostWithStore}
use Rattle.cpm_slots.specs.Remaking.{id_at_place}
use Rattle.cpm_serve.specs.Compact.{IsSlotWritten}
use Rattle.cpm_serve.proofs.CompactLemmas.{slots-more}
use Rattle.cpm_serve.proofs.compact.write_slots.Goals as goal

pub loop-place-preserved : goal.loop-place-preserved
loop-place-preserved g c =
    let h = c.args.host.now.host in
    let id = c.in-Some.id.0 in
    let between = g.W.Write.contents c.loop-place.out in
    let new = g.W.Write.contents c.write_slot.new.out in
    let same : c.loop-place.host.host ≡ h = ap (λ (x : HostWithStore). x.host) c.loop-place.invariant.0 in
    let named : Some id ≡ id_at_place c.loop-place.place h.slots = subst (λ (x : Host). Some id ≡ id_at_place c.loop-place.place x.slots) same c.in-Some.ensures in
    let written : IfSome (slot_at id h.slots) (λ s. IsSlotWritten h (record { id = id; state = s }) between new) =
    subst (λ (x : Host). IfSome (slot_at id x.slots) (λ s. IsSlotWritten x (record { id = id; state = s }) between new)) same c.in_ok-write_slot.ensures.written in (
      c.in_ok-write_slot.ensures.unchanged ∙ c.loop-place.invariant.0,
      slots-more h c.loop-place.place id (g.W.Write.contents c.args.out.now) between new c.slots_are_orderly.ensures named c.loop-place.invariant.1 written,
    )
