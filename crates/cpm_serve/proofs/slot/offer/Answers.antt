use Rattle.std.proofs.Common.{◌≡◌, ◌+◌, ℕ, ◌∷◌, add-one, ap, arith, cond, drop, drop-cons, get_or, sym, true, false, ◌∙◌}
use Rattle.std.specs.Prelude.{is_ok}
use Rattle.cpm_slots.specs.Host.{slot_at}
use Rattle.cpm_serve.specs.Served.{after_asks}
use Rattle.cpm_serve.specs.Slot.{accepted_in, key_asks}
use Rattle.cpm_serve.proofs.ServedLemmas.{accepted-step}
use Rattle.cpm_serve.proofs.slot.offer.Goals as goal
use Rattle.cpm_serve.proofs.slot.offer.Goals.{then-is_ok, else-is_ok}

pub loop-key-preserved : goal.loop-key-preserved
loop-key-preserved c =
    let keys = c.args.keys.now in
    let i = c.loop-key.key-index in
    let key = get_or keys i 0 in
    let rest = drop (i + 1) keys in
    let first : drop i keys ≡ key ∷ rest = drop-cons keys i 0 c.loop-key-test.true ∙ ap (λ n. key ∷ drop n keys) (sym (add-one i)) in
    let h = c.loop-key.host.host in
    let id = c.args.id.0 in
    let one = accepted-step h c.key.new.self.host id key rest c.key.result c.key.ensures.reply c.key.ensures.host in
    let all : c.loop-key.accepted + accepted_in (key ∷ rest) (slot_at id h.slots) ≡ accepted_in keys (slot_at id c.args.host.now.host.slots) =
    ap (λ xs. c.loop-key.accepted + accepted_in xs (slot_at id h.slots)) (sym first) ∙ c.loop-key.invariant.accepted in
    let host : after_asks id (key_asks rest) c.key.new.self.host ≡ after_asks id (key_asks keys) c.args.host.now.host =
    ap (after_asks id (key_asks rest)) c.key.ensures.host ∙ ap (λ xs. after_asks id (key_asks xs) h) (sym first) ∙ c.loop-key.invariant.host in
    let few = c.loop-key.invariant.few in
    elim c.if-is_ok.branch [
      | then-is_ok w ↦
          let is : is_ok c.key.result ≡ true = sym c.is_ok.ensures.value ∙ w.if-is_ok.true in
          let n = w.accepted-is in
          let bit : cond {A = ℕ} (is_ok c.key.result) 1 0 ≡ 1 = ap (λ b. cond {A = ℕ} b 1 0) is in
          record { host = host; accepted = omega (arith, one, all, n, bit); few = omega (arith, few, n) }
      | else-is_ok w ↦
          let is : is_ok c.key.result ≡ false = sym c.is_ok.ensures.value ∙ w.if-is_ok.false in
          let n = w.accepted-is in
          let bit : cond {A = ℕ} (is_ok c.key.result) 1 0 ≡ 0 = ap (λ b. cond {A = ℕ} b 1 0) is in
          record { host = host; accepted = omega (arith, one, all, n, bit); few = omega (arith, few, n) }
    ]
