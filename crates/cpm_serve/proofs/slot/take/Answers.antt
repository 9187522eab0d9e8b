use Rattle.std.proofs.Common.{◌≡◌, ◌∙◌, ◌++◌, ℕ, List, ap, arith, false, length, refl, subst, take}
use Rattle.std.specs.Prelude.{Result, Ok, Err}
use Rattle.std.proofs.lemmas.Grind.{common_steps}
use Rattle.cpm_protocol.specs.Replies.{Text}
use Rattle.cpm_slots.specs.Host.{reply_at, after_ask}
use Rattle.cpm_slots.specs.declared.event.Refusal.{Refusal}
use Rattle.cpm_slots.specs.declared.event.Reply.TheVariants as reply
use Rattle.cpm_slots.specs.Serving.{Calls, take_call}
use Rattle.cpm_serve.proofs.ServedLemmas.{same-outcome, take-served}
use Rattle.cpm_serve.proofs.slot.take.Goals as goal

take-front : (n : ℕ) (xs ys : List ℕ) → length xs ≡ n → take n (xs ++ ys) ≡ xs
take-front n xs ys e = grind (arith, common_steps)

pub returns-in-Ok-take_from : goal.returns-in-Ok-take_from
returns-in-Ok-take_from c =
    let h = c.args.host.now.host in
    let out = c.take_from.new.out in
    let count = c.in-Ok-take_from.count in
    let n : length c.deref_mut.result.now ≡ c.args.most = c.deref_mut.ensures.len ∙ c.in-Ok.ensures.len in
    let r : Result ℕ Refusal = Ok count in
    let said : reply.Bytes (record { items = take count out }) ≡ reply_at h c.args.slot (Calls (take_call c.args.device c.args.most)) =
    subst (λ (k : ℕ). reply.Bytes (record { items = take count out }) ≡ reply_at h c.args.slot (Calls (take_call c.args.device k))) n c.in-Ok-take_from.ensures.reply in
    let host : c.take_from.new.self.host ≡ after_ask h c.args.slot (Calls (take_call c.args.device c.args.most)) =
    subst (λ (k : ℕ). c.take_from.new.self.host ≡ after_ask h c.args.slot (Calls (take_call c.args.device k))) n c.take_from.ensures.host in
    record {
      lacked = false;
      served = same-outcome refl (ap Text (c.truncate.ensures.items ∙ ap (take count) (take-front c.in-Ok.room.len out _ (c.take_from.ensures.length ∙ c.deref_mut.ensures.len))))
          ∙ take-served h c.take_from.new.self.host c.args.device c.args.slot c.args.most r out said host;
    }

pub returns-in-Err : goal.returns-in-Err
returns-in-Err c =
    let h = c.args.host.now.host in
    let out = c.take_from.new.out in
    let n : length c.deref_mut.result.now ≡ c.args.most = c.deref_mut.ensures.len ∙ c.in-Ok.ensures.len in
    let r : Result ℕ Refusal = Err c.in-Err.field-0 in
    let said : reply.Refused c.in-Err.field-0 ≡ reply_at h c.args.slot (Calls (take_call c.args.device c.args.most)) =
    subst (λ (k : ℕ). reply.Refused c.in-Err.field-0 ≡ reply_at h c.args.slot (Calls (take_call c.args.device k))) n c.in-Err.ensures.reply in
    let host : c.take_from.new.self.host ≡ after_ask h c.args.slot (Calls (take_call c.args.device c.args.most)) =
    subst (λ (k : ℕ). c.take_from.new.self.host ≡ after_ask h c.args.slot (Calls (take_call c.args.device k))) n c.take_from.ensures.host in
    record {
      lacked = false;
      served = same-outcome refl c.refused-in-Err.ensures
          ∙ take-served h c.take_from.new.self.host c.args.device c.args.slot c.args.most r out said host;
    }
