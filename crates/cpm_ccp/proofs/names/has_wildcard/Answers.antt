use Rattle.std.proofs.Common.{◌≡◌, ℕ, List, [], ◌∷◌, refl, ap, ◌∙◌}
use Rattle.std.specs.Prelude.{◌||◌}
use Rattle.std.specs.List.{list_any}
use Rattle.cpm_volume.specs.Files.{has_wildcard}
use Rattle.cpm_ccp.specs.Names.{is_wildcard}
use Rattle.cpm_ccp.proofs.names.has_wildcard.Goals as goal

any_is : (name : List ℕ) → list_any is_wildcard name ≡ has_wildcard name
unfolding has_wildcard
any_is [] = refl
any_is (c ∷ cs) = ap (λ b. is_wildcard c || b) (any_is cs)

pub returns : goal.returns
returns c = c.has_any_wildcard.ensures ∙ any_is c.args.file.now.extent.name
