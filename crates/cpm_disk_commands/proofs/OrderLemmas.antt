-- Files in their order: each is put in its place among others, before the first that it comes before.
use Rattle.std.proofs.Common.{◌≡◌, ◌⊎◌, ◌∙◌, ℕ, ◌+◌, ◌-◌, ◌%◌, ◌<◌, ◌≤◌, Bool, true, false, not, ◌&&◌, ◌||◌, eqb, ltb, List, [], ◌∷◌, ◌++◌, length, get_or, sym, ap, append-nil, subst, inl, inr, arith}
use Rattle.std.specs.List.{insert, position_or_len}
use Rattle.std.proofs.lemmas.Bool.{false≢true, true≢false, ltb-true, lt-ltb, le-ltb, eqb-true, eq-eqb, ne_eqb, or_cases, or_left, or_right, or_from, and_parts, and_from, and_left, and_right, cases_lt, cases_order, false_from_ne_true}
use Rattle.std.proofs.lemmas.List.Edits.{get_or-insert_at, get_or-insert_above, get_or-insert_below, length-insert}
use Rattle.std.proofs.lemmas.List.Sums.{fails_before_first, passes_at_first, prefix_len-le-length}
use Rattle.std.proofs.lemmas.List.Sorted.{IsPermutation-append_left, IsPermutation-insert, IsPermutation-middle, IsPermutation-refl, IsPermutation-trans}
use Rattle.std.specs.List.Sorted.{IsPermutation}
use Rattle.cpm_image_files.specs.declared.listing.DiskFile.{DiskFile}
use Rattle.cpm_disk_commands.specs.Listing.{comes_before, is_less, in_its_place, placed_all, OrderLaw}

-- ---- the first number that differs says what is less, or else what follows

first_cases : (m n : ℕ) (b : Bool) → (ltb m n || (eqb m n && b)) ≡ true → (m < n) ⊎ ((m ≡ n) × (b ≡ true))
first_cases m n b h =
    elim (or_cases (ltb m n) (eqb m n && b) h) [
      | inl less ↦ inl (ltb-true m n less)
      | inr same ↦ let parts = and_parts (eqb m n) b same in inr (eqb-true m n parts.0, parts.1)
    ]

first_less : (m n : ℕ) (b : Bool) → m < n → (ltb m n || (eqb m n && b)) ≡ true
first_less m n b l = or_left (ltb m n) (eqb m n && b) (lt-ltb m n l)

first_same : (m n : ℕ) (b : Bool) → m ≡ n → b ≡ true → (ltb m n || (eqb m n && b)) ≡ true
first_same m n b e h = or_right (ltb m n) (eqb m n && b) (and_from (eqb m n) b (eq-eqb m n e) h)

pub first_one_way : (m n : ℕ) (b c : Bool) → (b ≡ true → c ≡ false) → (ltb m n || (eqb m n && b)) ≡ true → (ltb n m || (eqb n m && c)) ≡ false
first_one_way m n b c rest h =
    elim (first_cases m n b h) [
      | inl l ↦ or_from (ltb n m) (eqb n m && c) (le-ltb n m (omega arith)) (and_left (eqb n m) c (ne_eqb n m (λ e. omega arith)))
      | inr s ↦ let e : m ≡ n = s.0 in or_from (ltb n m) (eqb n m && c) (le-ltb n m (omega arith)) (and_right (eqb n m) c (rest s.1))
    ]

pub first_trans : (l m n : ℕ) (b c d : Bool) → (b ≡ true → c ≡ true → d ≡ true) → (ltb l m || (eqb l m && b)) ≡ true → (ltb m n || (eqb m n && c)) ≡ true → (ltb l n || (eqb l n && d)) ≡ true
first_trans l m n b c d rest p q =
    elim (first_cases l m b p) [
      | inl low ↦
          elim (first_cases m n c q) [
            | inl high ↦ first_less l n d (omega arith)
            | inr same ↦ let e : m ≡ n = same.0 in first_less l n d (omega arith)
          ]
      | inr equal ↦
          let f : l ≡ m = equal.0 in
          elim (first_cases m n c q) [
            | inl high ↦ first_less l n d (omega arith)
            | inr same ↦ let e : m ≡ n = same.0 in first_same l n d (omega arith) (rest equal.1 same.1)
          ]
    ]

pub less_one_way : (a b : List ℕ) → is_less a b ≡ true → is_less b a ≡ false
unfolding is_less
less_one_way [] b h = absurd (false≢true h)
less_one_way (x ∷ a) [] h = absurd (false≢true h)
less_one_way (x ∷ a) (y ∷ b) h = first_one_way (x % 128) (y % 128) (is_less a b) (is_less b a) (less_one_way a b) h

pub less_trans : (a b c : List ℕ) → is_less a b ≡ true → is_less b c ≡ true → is_less a c ≡ true
unfolding is_less
less_trans [] b c p q = absurd (false≢true p)
less_trans (x ∷ a) [] c p q = absurd (false≢true p)
less_trans (x ∷ a) (y ∷ b) [] p q = absurd (false≢true q)
less_trans (x ∷ a) (y ∷ b) (z ∷ c) p q = first_trans (x % 128) (y % 128) (z % 128) (is_less a b) (is_less b c) (is_less a c) (less_trans a b c) p q

-- ---- an element in its place

-- none comes before one that stands before it
abbrev pub IsOrdered : {X : Type 0} → (X → X → Bool) → List X → Type 0
IsOrdered {X} before xs = (j k : ℕ) (d : X) → j < k → k < length xs → before (get_or xs k d) (get_or xs j d) ≡ false

module _ {X : Type 0} (before : X → X → Bool) (one_way : (x y : X) → before x y ≡ true → before y x ≡ false)
    (trans : (x y z : X) → before x y ≡ true → before y z ≡ true → before x z ≡ true) (x : X) (xs : List X) (ordered : IsOrdered before xs) where
  within : position_or_len (before x) xs ≤ length xs
  within = prefix_len-le-length (λ y. not (before x y)) xs

  -- none behind the place comes before the element
  behind : (m : ℕ) (d : X) → position_or_len (before x) xs ≤ m → m < length xs → before (get_or xs m d) x ≡ false
  behind m d l h =
      let p = position_or_len (before x) xs in
      let first : before x (get_or xs p d) ≡ true = passes_at_first (before x) xs d (omega arith) in
      elim (cases_lt p m) [
        | inl above ↦
            false_from_ne_true (before (get_or xs m d) x) (λ e. true≢false (sym (trans (get_or xs m d) x (get_or xs p d) e first) ∙ ordered p m d above h))
        | inr here ↦
            let same : p ≡ m = omega arith in
            ap (λ i. before (get_or xs i d) x) (sym same) ∙ one_way x (get_or xs p d) first
      ]

  same_answer : (a b c d : X) → a ≡ b → c ≡ d → before b d ≡ false → before a c ≡ false
  same_answer a b c d e f h = rw e (rw f h)

  below_is : (i : ℕ) (d : X) → i < position_or_len (before x) xs → get_or (insert xs (position_or_len (before x) xs) x) i d ≡ get_or xs i d
  below_is i d l = get_or-insert_below xs (position_or_len (before x) xs) x d i l within

  here_is : (i : ℕ) (d : X) → i ≡ position_or_len (before x) xs → get_or (insert xs (position_or_len (before x) xs) x) i d ≡ x
  here_is i d e = ap (λ n. get_or (insert xs (position_or_len (before x) xs) x) n d) e ∙ get_or-insert_at xs (position_or_len (before x) xs) x d within

  above_is : (i : ℕ) (d : X) → position_or_len (before x) xs < i → get_or (insert xs (position_or_len (before x) xs) x) i d ≡ get_or xs (i - 1) d
  above_is i d l =
      let next : i ≡ (i - 1) + 1 = omega arith in
      ap (λ n. get_or (insert xs (position_or_len (before x) xs) x) n d) next ∙ get_or-insert_above xs (position_or_len (before x) xs) x d (i - 1) (omega arith) within

  pub insert_ordered : IsOrdered before (insert xs (position_or_len (before x) xs) x)
  insert_ordered j k d l h =
      let p = position_or_len (before x) xs in
      let size : length (insert xs p x) ≡ length xs + 1 = length-insert xs p x within in
      elim (cases_order k p) [
        | inl here ↦ same_answer _ _ _ _ (here_is k d here) (below_is j d (omega arith)) (fails_before_first (before x) xs j d (omega arith))
        | inr (inl low) ↦ same_answer _ _ _ _ (below_is k d low) (below_is j d (omega arith)) (ordered j k d l (omega (arith, within)))
        | inr (inr high) ↦
            elim (cases_order j p) [
              | inl here ↦ same_answer _ _ _ _ (above_is k d high) (here_is j d here) (behind (k - 1) d (omega arith) (omega arith))
              | inr (inl low) ↦ same_answer _ _ _ _ (above_is k d high) (below_is j d low) (ordered j (k - 1) d (omega arith) (omega arith))
              | inr (inr up) ↦ same_answer _ _ _ _ (above_is k d high) (above_is j d up) (ordered (j - 1) (k - 1) d (omega arith) (omega arith))
            ]
      ]

-- ---- files, each put in its place

before_one_way : (x y : DiskFile) → comes_before x y ≡ true → comes_before y x ≡ false
unfolding comes_before
before_one_way x y h = first_one_way x.user y.user (is_less x.name y.name) (is_less y.name x.name) (less_one_way x.name y.name) h

before_trans : (x y z : DiskFile) → comes_before x y ≡ true → comes_before y z ≡ true → comes_before x z ≡ true
unfolding comes_before
before_trans x y z p q =
    first_trans x.user y.user z.user (is_less x.name y.name) (is_less y.name z.name) (is_less x.name z.name) (less_trans x.name y.name z.name) p q

placed_ordered : (done files : List DiskFile) → IsOrdered comes_before done → IsOrdered comes_before (placed_all done files)
unfolding in_its_place placed_all
placed_ordered done [] h = h
placed_ordered done (file ∷ files) h =
    placed_ordered (in_its_place file done) files (insert_ordered comes_before before_one_way before_trans file done h)

placed_same : (done files : List DiskFile) → IsPermutation (done ++ files) (placed_all done files)
unfolding in_its_place placed_all
placed_same done [] = subst (λ xs. IsPermutation xs done) (sym (append-nil done)) (IsPermutation-refl done)
placed_same done (file ∷ files) =
    let front = IsPermutation-middle done file files in
    let put = IsPermutation-append_left files (file ∷ done) (in_its_place file done) (IsPermutation-insert done (position_or_len (comes_before file) done) file) in
    IsPermutation-trans (done ++ file ∷ files) (in_its_place file done ++ files) (placed_all (in_its_place file done) files) (IsPermutation-trans (done ++ file ∷ files) (file ∷ (done ++ files)) (in_its_place file done ++ files) front put) (placed_same (in_its_place file done) files)

pub in_their_order : OrderLaw
in_their_order files = (placed_same [] files, placed_ordered [] files (λ j k d l h. absurd (omega arith)))
