-- Counts of entries that are not in use, and of blocks that are not reserved.
use Rattle.std.proofs.Common.{◌≡◌, ◌≢◌, ℕ, ◌+◌, ◌<◌, ◌≤◌, Bool, true, false, not, cond, eqb, List, [], ◌∷◌, length, get_or, set, take, length-take, refl, ap, ◌∙◌, inl, inr, arith}
use Rattle.std.specs.List.{count_by, position_or_len}
use Rattle.std.proofs.lemmas.List.Sums.{sum_by-cons, sum_by-set, passes_at_first, count_by-le-length}
use Rattle.std.proofs.lemmas.Bool.{eq-eqb, ne_eqb, eqb-true, cases_Bool, cond-true, cond-false, not-true}
use Rattle.cpm_volume.specs.declared.extent.Entry.{Entry}
use Rattle.cpm_volume.specs.Reserved.{is_reserved, least_free}
use Rattle.cpm_volume.specs.Files.{deleted, no_entry, entry_at, first_free}
use Rattle.cpm_image_files.specs.Appending.{unused, unreserved}

count_by-cons : {X : Type 0} (p : X → Bool) (x : X) (xs : List X) → count_by p (x ∷ xs) ≡ cond (p x) 1 0 + count_by p xs
count_by-cons p x xs = sum_by-cons (λ x. cond (p x) 1 0) x xs

-- where no element passes none is counted
count_by-none : {X : Type 0} (p : X → Bool) (xs : List X) → length xs ≤ position_or_len p xs → count_by p xs ≡ 0
count_by-none p [] h = refl
count_by-none p (x ∷ xs) h =
    elim (cases_Bool (p x)) [
      | inl t ↦ absurd (let h' = rw t at h in omega arith)
      | inr f ↦
          let h' = rw f at h in
          count_by-cons p x xs ∙ rw (f, count_by-none p xs (omega arith)) refl
    ]

count_by-set : {X : Type 0} (p : X → Bool) (xs : List X) (i : ℕ) (y d : X) → i < length xs → count_by p (set xs i y) + cond (p (get_or xs i d)) 1 0 ≡ count_by p xs + cond (p y) 1 0
count_by-set p xs i y d h = sum_by-set (λ x. cond (p x) 1 0) xs i y d h

-- no more are counted than there are
pub counted_below : {X : Type 0} (p : X → Bool) (xs : List X) (i : ℕ) → count_by p (take i xs) ≤ length xs
counted_below p xs i =
    let most = count_by-le-length p (take i xs) in
    let size = length-take i xs in
    omega arith

-- ---- entries
pub unused-none : (es : List Entry) → length es ≤ first_free es → unused es ≡ 0
unfolding unused first_free
unused-none es h = count_by-none (λ (e : Entry). eqb e.user deleted) es h

pub free_user : (es : List Entry) → first_free es < length es → (entry_at es (first_free es)).user ≡ deleted
unfolding first_free entry_at
free_user es h = eqb-true _ _ (passes_at_first (λ (e : Entry). eqb e.user deleted) es no_entry h)

-- an entry that was not in use is taken
pub unused-taken : (es : List Entry) (i : ℕ) (e : Entry) → i < length es → (entry_at es i).user ≡ deleted → e.user ≢ deleted → unused (set es i e) + 1 ≡ unused es
unfolding unused entry_at
unused-taken es i e h free used =
    let c : unused (set es i e) + cond {A = ℕ} (eqb (get_or es i no_entry).user deleted) 1 0 ≡ unused es + cond {A = ℕ} (eqb e.user deleted) 1 0 = count_by-set (λ (e : Entry). eqb e.user deleted) es i e no_entry h in
    let was : cond {A = ℕ} (eqb (get_or es i no_entry).user deleted) 1 0 ≡ 1 = cond-true _ _ _ (eq-eqb _ _ free) in
    let is : cond {A = ℕ} (eqb e.user deleted) 1 0 ≡ 0 = cond-false _ _ _ (ne_eqb _ _ used) in
    omega arith

-- an entry is written whose user stays
pub unused-same : (es : List Entry) (i : ℕ) (e : Entry) → i < length es → e.user ≡ (entry_at es i).user → unused (set es i e) ≡ unused es
unfolding unused entry_at
unused-same es i e h same =
    let c : unused (set es i e) + cond {A = ℕ} (eqb (get_or es i no_entry).user deleted) 1 0 ≡ unused es + cond {A = ℕ} (eqb e.user deleted) 1 0 = count_by-set (λ (e : Entry). eqb e.user deleted) es i e no_entry h in
    let both : cond {A = ℕ} (eqb e.user deleted) 1 0 ≡ cond {A = ℕ} (eqb (get_or es i no_entry).user deleted) 1 0 = ap (λ u. cond {A = ℕ} (eqb u deleted) 1 0) same in
    omega arith

-- ---- blocks
pub unreserved-none : (reserved : List Bool) → length reserved ≤ least_free reserved → unreserved reserved ≡ 0
unfolding unreserved least_free
unreserved-none reserved h = count_by-none not reserved h

pub unreserved-taken : (reserved : List Bool) → least_free reserved < length reserved → unreserved (set reserved (least_free reserved) true) + 1 ≡ unreserved reserved
unfolding unreserved least_free
unreserved-taken reserved h =
    let c : unreserved (set reserved (least_free reserved) true) + cond {A = ℕ} (not (get_or reserved (position_or_len not reserved) true)) 1 0 ≡ unreserved reserved + 0 = count_by-set not reserved (position_or_len not reserved) true true h in
    let was : cond {A = ℕ} (not (get_or reserved (position_or_len not reserved) true)) 1 0 ≡ 1 = cond-true _ _ _ (passes_at_first not reserved true h) in
    omega arith

pub least_is_free : (reserved : List Bool) → least_free reserved < length reserved → is_reserved reserved (least_free reserved) ≡ false
unfolding is_reserved least_free
least_is_free reserved h = not-true _ (passes_at_first not reserved true h)
