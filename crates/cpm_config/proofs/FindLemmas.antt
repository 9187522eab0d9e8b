-- What is found in a list of views.
use Rattle.std.proofs.Common.{◌≡◌, ℕ, ◌+◌, Bool, true, false, cond, List, [], ◌∷◌, map, Option, Some, None, refl, ap, ◌∙◌}
use Rattle.std.specs.Prelude.{option_map}
use Rattle.std.specs.Borrow.{Bor}
use Rattle.std.specs.List.{find, position_from}

-- an element that is found, or what is found behind it
first : {A B : Type 0} (view : A → B) (b : Bool) (x : A) (o : Option A) (p : Option B) → option_map view o ≡ p
    → option_map view (cond b (Some x) o) ≡ cond b (Some (view x)) p
first view true x o p rest = refl
first view false x o p rest = rest

-- the first of the views that passes is the view of the first that passes
find-map : {A B : Type 0} (view : A → B) (test : B → Bool) (xs : List A) → option_map view (find (λ x. test (view x)) xs) ≡ find test (map view xs)
find-map view test [] = refl
find-map view test (x ∷ xs) = first view (test (view x)) x (find (λ y. test (view y)) xs) (find test (map view xs)) (find-map view test xs)

-- what is lent, seen by its view
lent : {A B : Type 0} (view : A → B) (r : Option (Bor A)) → option_map (λ x. view x.now) r ≡ option_map view (option_map (λ x. x.now) r)
lent view None = refl
lent view (Some x) = refl

-- what is lent of a list is the first of its views that passes
pub found_view : {A B : Type 0} (view : A → B) (test : B → Bool) (xs : List A) (r : Option (Bor A)) → option_map (λ x. x.now) r ≡ find (λ x. test (view x)) xs
    → option_map (λ x. view x.now) r ≡ find test (map view xs)
found_view view test xs r found = lent view r ∙ ap (option_map view) found ∙ find-map view test xs

-- and it is at the same place
pub position_from-map : {A B : Type 0} (view : A → B) (test : B → Bool) (i : ℕ) (xs : List A) → position_from (λ x. test (view x)) i xs ≡ position_from test i (map view xs)
position_from-map view test i [] = refl
position_from-map view test i (x ∷ xs) = ap (cond (test (view x)) (Some i)) (position_from-map view test (i + 1) xs)
