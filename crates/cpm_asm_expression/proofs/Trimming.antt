-- Dollar signs at the end of a text.
use Rattle.std.proofs.Common.{◌≡◌, ℕ, Bool, true, false, List, [], ◌∷◌, ◌++◌, refl, ap, ◌∙◌}
use Rattle.std.specs.Prelude.{if◌then◌else◌}
use Rattle.cpm_asm_expression.specs.Letters.{is_dollar}
use Rattle.cpm_asm_expression.specs.Numbers.{before_dollars, without_dollars}

-- a dollar sign at the end falls away
pub trimmed-dollar : (xs : List ℕ) (b : ℕ) → is_dollar b ≡ true → without_dollars (xs ++ b ∷ []) ≡ without_dollars xs
trimmed-dollar [] b h = ap (λ (q : Bool). if q then [] else b ∷ []) h
trimmed-dollar (x ∷ xs) b h = ap (before_dollars x) (trimmed-dollar xs b h)

behind_some : (x : ℕ) (xs : List ℕ) (b : ℕ) → before_dollars x (xs ++ b ∷ []) ≡ x ∷ (xs ++ b ∷ [])
behind_some x [] b = refl
behind_some x (y ∷ ys) b = refl

-- another byte at the end stays
pub trimmed-other : (xs : List ℕ) (b : ℕ) → is_dollar b ≡ false → without_dollars (xs ++ b ∷ []) ≡ xs ++ b ∷ []
trimmed-other [] b h = ap (λ (q : Bool). if q then [] else b ∷ []) h
trimmed-other (x ∷ xs) b h = ap (before_dollars x) (trimmed-other xs b h) ∙ behind_some x xs b
