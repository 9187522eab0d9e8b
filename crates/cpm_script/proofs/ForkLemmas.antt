-- The keys before a fork: how many they are, and their order; and the room that they leave.
use Rattle.std.proofs.Common.{◌≡◌, ◌<◌, ◌≤◌, ◌+◌, ◌-◌, ℕ, Bool, true, false, cond, List, [], ◌∷◌, Option, Some, None, Result, Ok, Err, length, arith, refl, ap, if◌then◌else◌, nat_lt}
use Rattle.std.proofs.lemmas.Bool.Decides.{nat_tests}
use Rattle.std.proofs.lemmas.List.Elements.{All-cons, All-nil}
use Rattle.cpm_script.specs.Fork.{line_fault_or, keys_before, room_left}
use Rattle.cpm_script.specs.Laws.{AreFrom, IsCut, KeysBeforeAreFirst}
use Rattle.cpm_script.specs.declared.fault.LineFault.{LineFault}
use Rattle.cpm_script.specs.declared.fault.LineFault.TheVariants.{BeforeFork, TooManyForked}
use Rattle.cpm_script.specs.declared.script.Key.{Key}

pub after_room : (number : ℕ) (r : Result ℕ LineFault) (next : ℕ → Option (ℕ × LineFault)) (P : Type 0)
    → ((left : ℕ) → r ≡ Ok left → next left ≡ None → P) → line_fault_or number r next ≡ None → P
after_room number (Ok left) next P goes is = goes left refl is
after_room number (Err fault) next P goes is = absurd (cc)

pub room-is : (at room left count n : ℕ) → room_left at room (Some (count, n)) ≡ Ok left → (at ≤ count) × (left + n ≡ room)
room-is at room left count n is = by_tests (nat_lt count at) (nat_lt room n) refl refl is
  where
    by_tests : (early over : Bool) → nat_lt count at ≡ early → nat_lt room n ≡ over
        → (if early then Err BeforeFork else (if over then Err TooManyForked else Ok (room - n))) ≡ Ok left → (at ≤ count) × (left + n ≡ room)
    by_tests true over e f is = absurd (cc)
    by_tests false true e f is = absurd (cc)
    by_tests false false e f is =
        let same : room - n ≡ left = cc in
        let late : at ≤ count = grind (arith, nat_tests) in
        let fits : n ≤ room = grind (arith, nat_tests) in
        (late, omega arith)

-- ---- the keys before a count

length-kept : (t : Bool) (k : Key) (kept keys : List Key) → length kept ≤ length keys → length (cond t (k ∷ kept) kept) ≤ length (k ∷ keys)
length-kept true k kept keys less = omega arith
length-kept false k kept keys less = omega arith

pub length-keys_before : (at : ℕ) (keys : List Key) → length (keys_before at keys) ≤ length keys
length-keys_before at [] = omega arith
length-keys_before at (k ∷ keys) = length-kept (nat_lt k.count at) k (keys_before at keys) keys (length-keys_before at keys)

-- no key comes before the count from which they come
keys_before-none : (n at : ℕ) (keys : List Key) → at ≤ n → AreFrom n keys → keys_before at keys ≡ []
keys_before-none n at [] low order = refl
keys_before-none n at (k ∷ keys) low order =
    let late : nat_lt k.count at ≡ false = grind (arith, nat_tests, order.0) in
    rw late (keys_before-none k.count at keys (omega (arith, order.0)) order.1)

cut_more : (n at : ℕ) (k : Key) (keys : List Key) (t : Bool) → nat_lt k.count at ≡ t → AreFrom n (k ∷ keys) → IsCut k.count at keys (keys_before at keys)
    → IsCut n at (k ∷ keys) (cond t (k ∷ keys_before at keys) (keys_before at keys))
cut_more n at k keys true is order cut =
    let here : k.count < at = grind (arith, nat_tests) in
    record {
      in_order = (order.0, cut.in_order);
      before = All-cons (λ (x : Key). x.count < at) k (keys_before at keys) here cut.before;
      rest = cut.rest;
      joined = ap (λ ks. k ∷ ks) cut.joined;
      from_cut = cut.from_cut;
    }
cut_more n at k keys false is order cut =
    let late : at ≤ k.count = grind (arith, nat_tests) in
    rw (keys_before-none k.count at keys late order.1) (record {
      in_order = tt;
      before = All-nil (λ (x : Key). x.count < at);
      rest = k ∷ keys;
      joined = refl;
      from_cut = (late, order.1);
    })

pub keys_before-cut : KeysBeforeAreFirst
keys_before-cut n at [] order = record { in_order = tt; before = All-nil (λ (x : Key). x.count < at); rest = []; joined = refl; from_cut = tt }
keys_before-cut n at (k ∷ keys) order = cut_more n at k keys (nat_lt k.count at) refl order (keys_before-cut k.count at keys order.1)
