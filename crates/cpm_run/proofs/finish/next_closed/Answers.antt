use Rattle.std.proofs.Common.{◌≡◌, ◌∙◌, ◌∷◌, Some, ap, refl}
use Rattle.std.specs.Vec.Iter.{into_iter_items}
use Rattle.cpm_slots.specs.HostWithStore.{HostWithStore}
use Rattle.cpm_play.specs.declared.player.Player.TheVariants.{Playing}
use Rattle.cpm_run.proofs.SlotLemmas.{ending_there, first_closed, first_closes}
use Rattle.cpm_run.proofs.finish.next_closed.Goals as goal

pub returns-in_default-ending_of_slot-clause-closed : goal.returns-in_default-ending_of_slot-clause-closed
returns-in_default-ending_of_slot-clause-closed c = λ p ps s is at.
    let slot = c.in-Some-Playing.slot in
    let left = into_iter_items c.next.new.self in
    let first : into_iter_items c.args.players.now ≡ Playing slot ∷ left = cc (c.in-Some-Playing.ensures.cases.0, c.in-Some-Playing.field-0-is) in
    absurd (ending_there p slot ps left (into_iter_items c.args.players.now) s c.args.host.now.host c.ending_of_slot.result is first at c.ending_of_slot.ensures.ending c.in_default-ending_of_slot.not-Some)

pub returns-in-Ok-clause-closed : goal.returns-in-Ok-clause-closed
returns-in-Ok-clause-closed c = λ p ps s is at.
    let slot = c.in-Some-Playing.slot in
    let left = into_iter_items c.next.new.self in
    let first : into_iter_items c.args.players.now ≡ Playing slot ∷ left = cc (c.in-Some-Playing.ensures.cases.0, c.in-Some-Playing.field-0-is) in
    first_closed p (record { slot = slot; ending = c.in-Some.ending; drives = c.in-Ok.closed.drives; saved = c.in_ok-saved.saved }) ps left (into_iter_items c.args.players.now) s c.args.is_saved
    c.args.host.now.host c.ending_of_slot.new.host.host c.saving_if.new.host.host c.close.new.self.host c.in-Ok.closed is first at c.in-Some.ensures.ending
    (ap (λ (h : HostWithStore). h.host) c.in-Some.ensures.host) c.in_ok-saved.ensures.saved c.in_ok-saved.ensures.restores (ap (λ (h : HostWithStore). h.host) c.in_ok-saved.ensures.host) c.in-Ok.ensures.closed refl c.in-Ok.ensures.host

pub returns-in-Err-clause-closed : goal.returns-in-Err-clause-closed
returns-in-Err-clause-closed c = λ p ps s is at.
    let slot = c.in-Some-Playing.slot in
    let left = into_iter_items c.next.new.self in
    let first : into_iter_items c.args.players.now ≡ Playing slot ∷ left = cc (c.in-Some-Playing.ensures.cases.0, c.in-Some-Playing.field-0-is) in
    absurd (first_closes p slot ps left (into_iter_items c.args.players.now) s c.args.host.now.host c.saving_if.new.host.host c.in-Err.field-0 is first at
    (ap (λ (h : HostWithStore). h.host) c.in_ok-saved.ensures.host ∙ ap (λ (h : HostWithStore). h.host) c.in-Some.ensures.host) c.in-Err.ensures.reply)
