-- What each write leaves of the others.
use Rattle.std.proofs.Common.{◌≡◌, Bool, true, false, [], ◌∷◌, Some, refl, ap, ◌∙◌}
use Rattle.std.specs.Prelude.{◌||◌, if◌then◌else◌}
use Rattle.std.specs.Str.{bytes_eq}
use Rattle.std.proofs.lemmas.Slice.Eq.{bytes_eq-Decides}
use Rattle.cpm_store.specs.Laws.{LastWritesStay, UnwrittenStay, has_name_among}
use Rattle.cpm_store.specs.Writes.{with_file}

neither : (a b : Bool) → (a || b) ≡ false → (a ≡ false) × (b ≡ false)
neither false b none = (refl, none)
neither true b none = absurd (cc)

pub others_stay : UnwrittenStay
others_stay files [] name apart = refl
others_stay files (p ∷ ps) name apart =
    let both = neither (bytes_eq name p.0) (has_name_among name ps) apart in
    others_stay (with_file files p) ps name both.1 ∙ ap (λ (b : Bool). if b then Some p.1 else files name) both.0

pub last_writes_stay : LastWritesStay
last_writes_stay files [] p after apart =
    others_stay (with_file files p) after p.0 apart ∙ ap (λ (b : Bool). if b then Some p.1 else files p.0) ((bytes_eq-Decides p.0 p.0).1 refl)
last_writes_stay files (q ∷ before) p after apart = last_writes_stay (with_file files q) before p after apart
