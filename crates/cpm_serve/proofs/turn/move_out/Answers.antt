use Rattle.std.proofs.Common.{◌≡◌, ◌∙◌, ◌++◌, ℕ, List, ap, arith, length, subst, take}
use Rattle.std.proofs.lemmas.Grind.{common_steps}
use Rattle.cpm_slots.specs.Host.{after_ask, reply_at, slot_at, take_reply}
use Rattle.cpm_slots.specs.Serving.{Calls, take_call}
use Rattle.cpm_serve.specs.Slot.{turn_bytes}
use Rattle.cpm_serve.specs.Turns.{IsMoved}
use Rattle.cpm_serve.proofs.ServedLemmas.{if-open}
use Rattle.cpm_serve.proofs.TurnLemmas.{moved}
use Rattle.cpm_serve.proofs.turn.move_out.Goals as goal

take-front : (n : ℕ) (xs ys : List ℕ) → length xs ≡ n → take n (xs ++ ys) ≡ xs
take-front n xs ys e = grind (arith, common_steps)

pub returns : goal.returns
returns c =
    let h = c.args.host.now.host in
    let id = c.args.id.0 in
    let out = c.take_from.new.out in
    let r = c.take_from.result in
    let n : length c.deref_mut.result.now ≡ turn_bytes = ap (λ (xs : List ℕ). length xs) c.deref_mut.ensures.value ∙ c.requires in
    let said : take_reply r out ≡ reply_at h id (Calls (take_call c.args.device turn_bytes)) =
    subst (λ (k : ℕ). take_reply r out ≡ reply_at h id (Calls (take_call c.args.device k))) n c.take_from.ensures.reply in
    let host : c.take_from.new.self.host ≡ after_ask h id (Calls (take_call c.args.device turn_bytes)) =
    subst (λ (k : ℕ). c.take_from.new.self.host ≡ after_ask h id (Calls (take_call c.args.device k))) n c.take_from.ensures.host in
    if-open (slot_at id h.slots) (IsMoved id c.args.device c.truncate.new.self.items h c.take_from.new.self.host)
    (λ s at. record {
      bytes_are = c.truncate.ensures.items ∙ ap (take c.unwrap_or-count.result) (take-front c.args.room.len out _ (c.take_from.ensures.length ∙ c.deref_mut.ensures.len))
          ∙ ap (λ k. take k out) c.unwrap_or-count.ensures ∙ moved h id turn_bytes c.args.device s r out at said;
      host = host;
    })
