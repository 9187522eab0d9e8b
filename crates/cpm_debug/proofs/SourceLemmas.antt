-- A line is never nothing, with a line of a listing behind it or alone.
use Rattle.std.proofs.Common.{◌≢◌, ℕ, List, [], ◌∷◌}
use Rattle.cpm_debug.specs.Dialog.{with_source}

pub with_source_some : (text source : List ℕ) → with_source text source ≢ []
with_source_some [] [] none = let bad : ⊥ = cc in bad
with_source_some [] (b ∷ source) none = let bad : ⊥ = cc in bad
with_source_some (t ∷ text) [] none = let bad : ⊥ = cc in bad
with_source_some (t ∷ text) (b ∷ source) none = let bad : ⊥ = cc in bad
