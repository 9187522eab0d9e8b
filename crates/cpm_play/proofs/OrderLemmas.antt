-- Keys that are still to come, in the order of their counts.
use Rattle.std.proofs.Common.{◌≡◌, ℕ, zero, suc, ◌+◌, ◌≤◌, Option, Some, None, List, [], ◌∷◌, drop, refl, sym, ap, subst, arith, slice_get}
use Rattle.std.proofs.lemmas.Option.{none-some, same_Some}
use Rattle.cpm_script.specs.declared.script.Key.{Key}
use Rattle.cpm_play.specs.Pacing.{up_to}
use Rattle.cpm_play.specs.Playing.{IsInOrder}

drop_first : (keys : List Key) (n : ℕ) (k : Key) → slice_get keys n ≡ Some k → drop n keys ≡ k ∷ drop (suc n) keys
drop_first [] n k h = absurd (none-some k h)
drop_first (x ∷ keys) zero k h = ap (λ y. y ∷ keys) (same_Some x k h)
drop_first (x ∷ keys) (suc n) k h = drop_first keys n k h

drop_none : (keys : List Key) (n : ℕ) → slice_get keys n ≡ None → drop n keys ≡ []
drop_none [] zero h = refl
drop_none [] (suc n) h = refl
drop_none (x ∷ keys) zero h = absurd (none-some x (sym h))
drop_none (x ∷ keys) (suc n) h = drop_none keys n h

-- what is left comes with the next key's count or later
pub order-first : (n m : ℕ) (keys : List Key) (k : Key) → slice_get keys m ≡ Some k → IsInOrder n (drop m keys) → (n ≤ k.count) × IsInOrder k.count (drop (m + 1) keys)
order-first n m keys k at order =
    let on : suc m ≡ m + 1 = omega arith in
    let P : List Key → Type 0 = λ ks. IsInOrder n ks in
    let first : IsInOrder n (k ∷ drop (suc m) keys) = subst P (drop_first keys m k at) order in
    (first.0, subst (λ j. IsInOrder k.count (drop j keys)) on first.1)

pub order-later : (o : Option Key) (keys : List Key) (n k m p : ℕ) → slice_get keys p ≡ o → IsInOrder n (drop p keys) → k ≤ up_to o n m → IsInOrder (n + k) (drop p keys)
order-later None keys n k m p at order within =
    let P : List Key → Type 0 = λ ks. IsInOrder (n + k) ks in subst P (sym (drop_none keys p at)) tt
order-later (Some key) keys n k m p at order within =
    let first = order-first n p keys key at order in
    let low : n ≤ key.count = first.0 in
    let reach : n + k ≤ key.count = omega arith in
    let on : suc p ≡ p + 1 = omega arith in
    let P : List Key → Type 0 = λ ks. IsInOrder (n + k) ks in
    subst P (sym (drop_first keys p key at)) (reach, subst (λ j. IsInOrder key.count (drop j keys)) (sym on) first.1)
