-- Lists of which the element at a place is another.
use Rattle.std.proofs.Common.{◌≡◌, ◌≢◌, ℕ, zero, suc, ◌+◌, ◌<◌, ◌≤◌, Option, Some, List, [], ◌∷◌, length, get_or, set, sum_by, refl, sym, ap, ◌∙◌, arith, slice_get}
use Rattle.std.proofs.lemmas.Option.{none-some, same_Some, slice_get-get_or}
use Rattle.std.proofs.lemmas.List.Sums.{sum_by-cons}

pub at-set : {A : Type 0} (xs : List A) (i : ℕ) (x y : A) → slice_get xs i ≡ Some x → slice_get (set xs i y) i ≡ Some y
at-set [] i x y h = absurd (none-some x h)
at-set (z ∷ xs) zero x y h = refl
at-set (z ∷ xs) (suc i) x y h = at-set xs i x y h

pub at-other : {A : Type 0} (xs : List A) (i j : ℕ) (y : A) → j ≢ i → slice_get (set xs i y) j ≡ slice_get xs j
at-other [] i j y ne = refl
at-other (z ∷ xs) zero zero y ne = absurd (ne refl)
at-other (z ∷ xs) zero (suc j) y ne = refl
at-other (z ∷ xs) (suc i) zero y ne = refl
at-other (z ∷ xs) (suc i) (suc j) y ne = at-other xs i j y (λ e. ne (ap suc e))

pub within-at : {A : Type 0} (xs : List A) (i : ℕ) (x : A) → slice_get xs i ≡ Some x → i < length xs
within-at [] i x h = absurd (none-some x h)
within-at (z ∷ xs) zero x h = omega arith
within-at (z ∷ xs) (suc i) x h = let rest = within-at xs i x h in omega arith

-- an element within a list
pub some-at : {A : Type 0} (xs : List A) (i : ℕ) → i < length xs → (x : A) × (slice_get xs i ≡ Some x)
some-at [] i l = absurd (let no : ⊥ = omega (arith, l) in no)
some-at (z ∷ xs) zero l = (z, refl)
some-at (z ∷ xs) (suc i) l = some-at xs i (omega (arith, l))

pub same-at : {A : Type 0} (o : Option A) (x y : A) → o ≡ Some x → o ≡ Some y → x ≡ y
same-at o x y e f = same_Some x y (sym e ∙ f)

-- sums
pub sum-set : {A : Type 0} (f : A → ℕ) (xs : List A) (i : ℕ) (x y : A) → slice_get xs i ≡ Some x → sum_by f (set xs i y) + f x ≡ sum_by f xs + f y
sum-set f [] i x y h = absurd (none-some x h)
sum-set f (z ∷ xs) zero x y h =
    let same = ap f (same_Some z x h) in
    let a = sum_by-cons f y xs in
    let b = sum_by-cons f z xs in
    omega arith
sum-set f (z ∷ xs) (suc i) x y h =
    let rest = sum-set f xs i x y h in
    let a = sum_by-cons f z (set xs i y) in
    let b = sum_by-cons f z xs in
    omega arith

pub sum-at : {A : Type 0} (f : A → ℕ) (xs : List A) (i : ℕ) (x : A) → slice_get xs i ≡ Some x → f x ≤ sum_by f xs
sum-at f [] i x h = absurd (none-some x h)
sum-at f (z ∷ xs) zero x h =
    let same = ap f (same_Some z x h) in
    let b = sum_by-cons f z xs in
    omega arith
sum-at f (z ∷ xs) (suc i) x h =
    let rest = sum-at f xs i x h in
    let b = sum_by-cons f z xs in
    omega arith

pub sum-none : {A : Type 0} (f : A → ℕ) (xs : List A) → ((i : ℕ) (x : A) → slice_get xs i ≡ Some x → f x ≡ 0) → sum_by f xs ≡ 0
sum-none f [] each = refl
sum-none f (z ∷ xs) each =
    let first = each 0 z refl in
    let rest = sum-none f xs (λ i x h. each (suc i) x h) in
    let b = sum_by-cons f z xs in
    omega arith

-- an element that was read at a place
pub at-index : {A : Type 0} (xs : List A) (i : ℕ) (x y : A) → i < length xs → x ≡ get_or xs i x → x ≡ y → slice_get xs i ≡ Some y
at-index xs i x y within read is = slice_get-get_or xs i x within ∙ ap Some (sym read ∙ is)
