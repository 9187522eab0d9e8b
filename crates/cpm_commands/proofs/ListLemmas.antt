-- Steps of the loops that add a part for each of a list: what is there so far, and what is to come.
use Rattle.std.proofs.Common.{◌≡◌, ◌⊎◌, inl, inr, ◌∙◌, ◌<◌, ◌≤◌, ◌+◌, ℕ, List, [], ◌∷◌, ◌++◌, Option, Some, None, is_some, length, refl, sym, ap, get_or, drop, append-nil, append_assoc, option_map}
use Rattle.std.specs.List.{zip}
use Rattle.std.proofs.lemmas.List.{drop_all, drop_more}

-- ---- F is the whole of what is added, and h the part of one

module _ {X Y : Type 0} (F : List X → List Y) where
  pub part_turned : (h : X → List Y) → ((x : X) (xs : List X) → F (x ∷ xs) ≡ h x ++ F xs) → (left rest : List X) (x : X) (so_far more all : List Y) → left ≡ x ∷ rest
      → more ≡ so_far ++ h x → so_far ++ F left ≡ all → more ++ F rest ≡ all
  part_turned h step left rest x so_far more all next is whole =
      ap (λ (ys : List Y). ys ++ F rest) is ∙ append_assoc so_far (h x) (F rest) ∙ ap (λ (ys : List Y). so_far ++ ys) (sym (ap F next ∙ step x rest)) ∙ whole

  pub part_more : (h : X → List Y) → ((x : X) (xs : List X) → F (x ∷ xs) ≡ h x ++ F xs) → (xs : List X) (i : ℕ) (d : X) (so_far more all : List Y) → i < length xs
      → more ≡ so_far ++ h (get_or xs i d) → so_far ++ F (drop i xs) ≡ all → more ++ F (drop (i + 1) xs) ≡ all
  part_more h step xs i d so_far more all within = part_turned h step (drop i xs) (drop (i + 1) xs) (get_or xs i d) so_far more all (drop_more xs i d within)

  pub part_ended : F [] ≡ [] → (left : List X) (so_far all : List Y) → left ≡ [] → so_far ++ F left ≡ all → so_far ≡ all
  part_ended none left so_far all end whole = sym (append-nil so_far) ∙ ap (λ (ys : List Y). so_far ++ ys) (sym (ap F end ∙ none)) ∙ whole

  pub part_all : F [] ≡ [] → (xs : List X) (i : ℕ) (so_far all : List Y) → length xs ≤ i → so_far ++ F (drop i xs) ≡ all → so_far ≡ all
  part_all none xs i so_far all past = part_ended none (drop i xs) so_far all (drop_all i xs past)

-- ---- two lists side by side

zip_none : {A B : Type 0} (xs : List A) → zip {X = B} xs [] ≡ []
zip_none [] = refl
zip_none (x ∷ xs) = refl

pub zip_ended : {A B : Type 0} (xs : List A) (ys : List B) → (xs ≡ []) ⊎ (ys ≡ []) → zip xs ys ≡ []
zip_ended {A} xs ys (inl e) = ap (λ (l : List A). zip l ys) e
zip_ended xs ys (inr e) = ap (zip xs) e ∙ zip_none xs

-- the pair that comes, and those after it
pub zip_turned : {A B : Type 0} (xs more_xs : List A) (ys more_ys : List B) (x : A) (y : B) → (xs ≡ x ∷ more_xs) × (ys ≡ y ∷ more_ys)
    → zip xs ys ≡ (x, y) ∷ zip more_xs more_ys
zip_turned xs more_xs ys more_ys x y e = λ i. zip (e.0 i) (e.1 i)

-- ---- options

pub is_some_map : {X Y : Type 0} (f : X → Y) (o : Option X) → is_some (option_map f o) ≡ is_some o
is_some_map f None = refl
is_some_map f (Some x) = refl
