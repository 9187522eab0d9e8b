-- Entries by index, and the first of a file's group.
use Rattle.std.proofs.Common.{◌≡◌, ◌≢◌, ℕ, suc, ◌<◌, Bool, true, false, List, [], ◌∷◌, length, get_or, set, sym, refl, ap, ◌∙◌, inl, inr, arith}
use Rattle.std.proofs.lemmas.List.{get_or-set_same, get_or-set_other, get_or_past}
use Rattle.std.proofs.lemmas.List.Folds.{position_or_len-set}
use Rattle.std.proofs.lemmas.List.Sums.{position_or_len_is, passes_at_first}
use Rattle.std.specs.List.{list_any}
use Rattle.std.proofs.lemmas.Bool.{false≢true, eqb-true, eq-eqb, ne_eqb, and_parts, and_from, and_left, cases_lt, cases_Bool, false_from_ne_true}
use Rattle.cpm_geom.specs.declared.dpb.Dpb.{Dpb}
use Rattle.cpm_volume.specs.declared.extent.Entry.{Entry}
use Rattle.cpm_volume.specs.Files.{extent_number, group_of, same_name, deleted, no_entry, entry_at, is_of, first_of}

pub entry_at-set_same : (es : List Entry) (i : ℕ) (e : Entry) → i < length es → entry_at (set es i e) i ≡ e
unfolding entry_at
entry_at-set_same es i e h = get_or-set_same es i e _ h

pub entry_at-set_other : (es : List Entry) (i j : ℕ) (e : Entry) → j ≢ i → entry_at (set es i e) j ≡ entry_at es j
unfolding entry_at
entry_at-set_other es i j e h = get_or-set_other es i j e _ h

-- an entry that is in use is within the directory
pub in_use_within : (es : List Entry) (i : ℕ) → (entry_at es i).user ≢ deleted → i < length es
unfolding entry_at no_entry
in_use_within es i h =
    elim (cases_lt i (length es)) [
      | inl lt ↦ lt
      | inr ge ↦ absurd (h (ap (λ (e : Entry). e.user) (get_or_past es i _ ge)))
    ]

-- what a match says
pub is_of_parts : (d : Dpb) (user : ℕ) (name : List ℕ) (group : ℕ) (e : Entry) → is_of d user name group e ≡ true → (e.user ≡ user) × (same_name name e.extent.name ≡ true) × (group_of d (extent_number e.extent) ≡ group)
unfolding is_of
is_of_parts d user name group e h =
    let p = and_parts _ _ h in
    let q = and_parts _ _ p.1 in
    (eqb-true _ _ p.0, q.0, eqb-true _ _ q.1)

pub is_of_from : (d : Dpb) (user : ℕ) (name : List ℕ) (group : ℕ) (e : Entry) → e.user ≡ user → same_name name e.extent.name ≡ true → group_of d (extent_number e.extent) ≡ group → is_of d user name group e ≡ true
unfolding is_of
is_of_from d user name group e a b c =
    and_from _ _ (eq-eqb _ _ a) (and_from _ _ b (eq-eqb _ _ c))

-- two entries with equal keys are of the same files
pub is_of_same : (d : Dpb) (user : ℕ) (name : List ℕ) (group : ℕ) (e f : Entry) → e.user ≡ f.user → e.extent.name ≡ f.extent.name → group_of d (extent_number e.extent) ≡ group_of d (extent_number f.extent) → is_of d user name group e ≡ is_of d user name group f
unfolding is_of same_name group_of extent_number
is_of_same d user name group e f a b c = rw (a, b, c) refl

-- past the end nothing is of a file
pub no_entry_is_of : (d : Dpb) (user : ℕ) (name : List ℕ) (group : ℕ) → user ≢ deleted → is_of d user name group no_entry ≡ false
unfolding is_of no_entry
no_entry_is_of d user name group h = and_left _ _ (ne_eqb _ _ (λ e. h (sym e)))

-- the one entry of a file's group is the first
pub first_of_is : (d : Dpb) (es : List Entry) (user : ℕ) (name : List ℕ) (group i : ℕ) → user ≢ deleted → is_of d user name group (entry_at es i) ≡ true → ((j : ℕ) → is_of d user name group (entry_at es j) ≡ true → j ≡ i) → first_of d es user name group ≡ i
unfolding first_of entry_at
first_of_is d es user name group i u h only =
    let lt : i < length es = in_use_within es i (λ e. u (sym (is_of_parts d user name group _ h).0 ∙ e)) in
    position_or_len_is (is_of d user name group) es i no_entry (omega arith) (λ k l. false_from_ne_true _ (λ t. let e : k ≡ i = only k t in absurd (omega arith))) (λ _. h)

-- what stands at the first is of the file, where there is one
pub first_of_passes : (d : Dpb) (es : List Entry) (user : ℕ) (name : List ℕ) (group : ℕ) → first_of d es user name group < length es → is_of d user name group (entry_at es (first_of d es user name group)) ≡ true
unfolding first_of entry_at
first_of_passes d es user name group h = passes_at_first (is_of d user name group) es no_entry h

-- an entry that is not of the file is not its first
pub first_of_other : (d : Dpb) (es : List Entry) (user : ℕ) (name : List ℕ) (group i : ℕ) → i < length es → is_of d user name group (entry_at es i) ≡ false → first_of d es user name group ≢ i
first_of_other d es user name group i lt h e =
    let passes = first_of_passes d es user name group (rw e lt) in
    let at_i = rw e at passes in
    false≢true (sym h ∙ at_i)

-- an entry of the same key in the place of another
pub first_of-set : (d : Dpb) (es : List Entry) (user : ℕ) (name : List ℕ) (group i : ℕ) (e : Entry) → is_of d user name group e ≡ is_of d user name group (entry_at es i) → first_of d (set es i e) user name group ≡ first_of d es user name group
unfolding first_of entry_at
first_of-set d es user name group i e h = position_or_len-set (is_of d user name group) es i e no_entry h

-- where a test passes somewhere, a place where it does
pub any_index : {X : Type 0} (p : X → Bool) (xs : List X) (other : X) → list_any p xs ≡ true → (i : ℕ) × (i < length xs) × (p (get_or xs i other) ≡ true)
any_index p [] other h = absurd (false≢true h)
any_index p (x ∷ xs) other h =
    elim (cases_Bool (p x)) [
      | inl t ↦ (0, omega arith, t)
      | inr f ↦ let r = any_index p xs other (rw f at h) in (suc r.0, let l = r.1 in omega arith, r.2)
    ]
