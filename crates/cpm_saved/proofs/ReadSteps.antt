-- Values that are read one after another.
use Rattle.std.proofs.Common.{◌≡◌, ◌∙◌, Bool, true, ap}
use Rattle.std.specs.Prelude.{Ok, if◌then◌else◌}
use Rattle.cpm_saved.specs.Layout.{Read, Rest, damaged, if_it}
use Rattle.cpm_saved.specs.declared.part.SavingPart.{SavingPart}

-- what passes its test
pub passed_read : {A : Type 0} → (test : A → Bool) (field : SavingPart) (old new : Rest) (read : Read A) (v : A) → read ≡ Ok (v, new) → test v ≡ true
    → if_it test field old read ≡ Ok (v, new)
passed_read {A} test field old new read v e passes =
    ap (λ (r : Read A). if_it test field old r) e ∙ ap (λ (b : Bool). if b then Ok (v, new) else damaged field old) passes
