-- A value that may be there, appended.
use Rattle.std.proofs.Common.{◌∙◌, ℕ, List, [], ◌∷◌, ◌++◌, Some, None, ap, append_assoc}
use Rattle.cpm_saved.specs.Layout.{Below, Layout, Maybe, coded, laid_out}
use Rattle.cpm_saved.specs.Reading.{IsPartAppended}
use Rattle.cpm_saved.specs.declared.part.SavingPart.{SavingPart}

pub none_appended : (field : SavingPart) (f : Layout) (a b : List ℕ) → IsPartAppended (Below field 2) 0 a b → IsPartAppended (Maybe field f) None a b
none_appended field f a b mark = record { bytes = mark.bytes; fits = tt }

pub some_appended : (field : SavingPart) (f : Layout) (v : laid_out f) (a b c : List ℕ) → IsPartAppended (Below field 2) 1 a b → IsPartAppended f v b c
    → IsPartAppended (Maybe field f) (Some v) a c
some_appended field f v a b c mark value = record {
  bytes = value.bytes ∙ ap (λ (xs : List ℕ). xs ++ coded f v) mark.bytes ∙ append_assoc a (1 ∷ []) (coded f v);
  fits = value.fits;
}
