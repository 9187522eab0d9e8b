-- The keys that come to a session of its own are in order, from its fork on.
use Rattle.std.proofs.Common.{◌≡◌, ◌∙◌, ◌≤◌, ⊎_elim, ℕ, Bool, true, false, true≢false, List, [], ◌∷◌, ◌++◌, length, map, drop, sym, subst, arith, append-nil, append_assoc}
use Rattle.std.specs.Prelude.{max}
use Rattle.std.proofs.Math.Nat.{le-max_left, le-max_right, max-le}
use Rattle.cpm_geom.specs.Disk.{Disk}
use Rattle.cpm_machine.specs.MachineState.{MachineState}
use Rattle.cpm_play.specs.Cued.{IsCuedFrom, screen_at}
use Rattle.cpm_play.specs.Playing.{IsInOrder}
use Rattle.cpm_script.specs.Cues.{cue_text}
use Rattle.cpm_script.specs.Laws.{CountsRise, PressesFollow}
use Rattle.cpm_script.specs.declared.cue.Cue.{Cue}
use Rattle.cpm_script.specs.declared.cue.Cue.TheVariants.{Key as Timed, Wait, Press}
use Rattle.cpm_script.specs.declared.script.Key.{Key}

-- counts that are at least one are at least a lower one
pub order_from : (m n : ℕ) (ks : List Key) → m ≤ n → IsInOrder n ks → IsInOrder m ks
order_from m n [] low order = tt
order_from m n (k ∷ ks) low order = (let first = order.0 in omega (arith, low, first), order.1)

max_below : (a b k : ℕ) → a ≤ k → b ≤ k → max a b ≤ k
max_below a b k p q = max-le p q

-- given keys, and more that come at a count or later, in order
pub record GoesOn (from : ℕ) (given keys : List Key) : Type 0 where
  pub more : List Key
  pub joined : keys ≡ given ++ more
  pub order : IsInOrder from more

no_more : (from : ℕ) (given keys : List Key) → keys ≡ given → GoesOn from given keys
no_more from given keys same = record { more = []; joined = same ∙ sym (append-nil given); order = tt }

one_more : (from count : ℕ) (given keys : List Key) (k : Key) → from ≤ k.count → GoesOn (max from k.count) (given ++ k ∷ []) keys → GoesOn from given keys
one_more from count given keys k late r = record {
  more = k ∷ r.more;
  joined = r.joined ∙ append_assoc given (k ∷ []) r.more;
  order = (late, order_from k.count (max from k.count) r.more (le-max_right from k.count) r.order);
}

module _ (system : Disk) (start : MachineState) (steps at : ℕ) where
  goes_on : (n : ℕ) (waited : Bool) (given : List Key) (from mark : ℕ) (cues : List Cue) (keys : List Key) → at ≤ n → CountsRise n (map cue_text cues) → PressesFollow waited (map cue_text cues)
      → (waited ≡ true → at ≤ from) → IsCuedFrom system start steps steps at given from mark cues keys → GoesOn (max at from) given keys
  goes_on n waited given from mark [] keys low rise follow later h = no_more (max at from) given keys h
  goes_on n waited given from mark (Timed k ∷ cues) keys low rise follow later h =
      ⊎_elim (λ comes.
      let count = max from k.count in
      let key : Key = record { count = count; byte = k.byte } in
      let first = rise.0 in
      let least = le-max_left from k.count in
      let own = le-max_right from k.count in
      let r = goes_on k.count false (given ++ key ∷ []) count (length (screen_at system start given count)) cues keys (omega (arith, low, first)) rise.1 follow (λ e. absurd (true≢false (sym e))) comes.1 in
      let bound : max at from ≤ count = max_below at from count (omega (arith, low, first, own)) least in
      let whole : max at count ≤ max (max at from) count = max_below at count (max (max at from) count) (let a = le-max_left at from in let b = le-max_left (max at from) count in omega (arith, a, b)) (le-max_right (max at from) count) in
      let whole_too : max (max at from) count ≤ max at count = max_below (max at from) count (max at count) (let a = le-max_right at count in omega (arith, a, bound)) (le-max_right at count) in
      let same : max at count ≡ max (max at from) count = omega (arith, whole, whole_too) in
      one_more (max at from) count given keys key bound (subst (λ (m : ℕ). GoesOn m (given ++ key ∷ []) keys) same r))
      (λ none. no_more (max at from) given keys none.1) h
  goes_on n waited given from mark (Press b ∷ cues) keys low rise follow later h =
      ⊎_elim (λ comes.
      let key : Key = record { count = from; byte = b } in
      let after = later follow.0 in
      let r = goes_on n true (given ++ key ∷ []) from (length (screen_at system start given from)) cues keys low rise follow.1 (λ _. after) comes.1 in
      let bound : max at from ≤ from = max_below at from from after (omega arith) in
      let least = le-max_right (max at from) from in
      let other = le-max_right at from in
      let up : max (max at from) from ≤ max at from = max_below (max at from) from (max at from) (omega arith) other in
      let same : max at from ≡ max (max at from) from = let l = le-max_left (max at from) from in omega (arith, up, l) in
      one_more (max at from) from given keys key bound (subst (λ (m : ℕ). GoesOn m (given ++ key ∷ []) keys) same r))
      (λ none. no_more (max at from) given keys none.1) h
  goes_on n waited given from mark (Wait text ∷ cues) keys low rise follow later h =
      ⊎_elim (λ met.
      let count = met.0 in
      let late = met.1.next.later in
      let a = le-max_left at from in
      let r = goes_on n true given count mark cues keys low rise follow (λ _. omega (arith, late, a)) met.2 in
      record { more = r.more; joined = r.joined; order = order_from (max at from) (max at count) r.more (let b = le-max_right at count in omega (arith, late, b)) r.order })
      (λ none. no_more (max at from) given keys none.1) h

  -- keys that come first are left away
  pub own_from : (before given : List Key) (from mark : ℕ) (own : List Cue) (keys : List Key) → CountsRise at (map cue_text own) → PressesFollow false (map cue_text own)
      → IsCuedFrom system start steps steps at given from mark (map Timed before ++ own) keys → (came : List Key) × (keys ≡ given ++ came) × IsInOrder at (drop (length before) came)
  own_from [] given from mark own keys rise follow h =
      let r = goes_on at false given from mark own keys (omega arith) rise follow (λ e. absurd (true≢false (sym e))) h in
      (r.more, r.joined, order_from at (max at from) r.more (le-max_left at from) r.order)
  own_from (k ∷ before) given from mark own keys rise follow h =
      ⊎_elim (λ comes.
      let count = max from k.count in
      let key : Key = record { count = count; byte = k.byte } in
      let r = own_from before (given ++ key ∷ []) count (length (screen_at system start given count)) own keys rise follow comes.1 in
      (key ∷ r.0, r.1 ∙ append_assoc given (key ∷ []) r.0, r.2))
      (λ none. ([], none.1 ∙ sym (append-nil given), tt)) h
