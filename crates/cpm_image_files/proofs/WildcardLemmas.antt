-- Names without a `?`.
use Rattle.std.proofs.Common.{◌≡◌, ℕ, ◌%◌, Bool, ◌||◌, eqb, List, [], ◌∷◌, refl, ap}
use Rattle.std.specs.List.{list_any}
use Rattle.cpm_volume.specs.Files.{has_wildcard}

pub any_is_wildcard : (cs : List ℕ) → list_any (λ c. eqb (c % 128) 0x3F) cs ≡ has_wildcard cs
unfolding has_wildcard
any_is_wildcard [] = refl
any_is_wildcard (c ∷ cs) = ap (λ (t : Bool). eqb (c % 128) 0x3F || t) (any_is_wildcard cs)
