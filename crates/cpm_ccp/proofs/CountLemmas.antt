-- The number that decimal digits write, from left to right.
use Rattle.std.proofs.Common.{◌≡◌, ◌<◌, ◌≤◌, ◌+◌, ◌*◌, ℕ, true, List, [], ◌∷◌, length, drop, get_or, arith, refl, ◌∙◌, sym, suc}
use Rattle.std.specs.Prelude.{◌-◌}
use Rattle.std.proofs.lemmas.Bool.{false≢true, true_from_ne_false}
use Rattle.std.proofs.lemmas.List.Folds.{list_all_at}
use Rattle.std.specs.Char.{is_ascii_digit}
use Rattle.std.proofs.lemmas.Bool.Decides.{nat_tests}
use Rattle.std.specs.List.{list_all}
use Rattle.std.specs.Char.{digit_value}
use Rattle.std.specs.Str.Parse.{digits_value_after}
use Rattle.std.proofs.Math.Seq.{drop-cons}

-- more digits do not make a number smaller
pub value_grows : (n : ℕ) (ds : List ℕ) → n ≤ digits_value_after 10 n ds
value_grows n [] = omega arith
value_grows n (d ∷ ds) = omega (arith, value_grows (n * 10 + digit_value d) ds)

pub value_step : (n i : ℕ) (ds : List ℕ) → i < length ds
    → digits_value_after 10 n (drop i ds) ≡ digits_value_after 10 (n * 10 + digit_value (get_or ds i 0)) (drop (suc i) ds)
value_step n i ds within = rw (drop-cons ds i 0) refl

digit_value-digit : (d : ℕ) → is_ascii_digit d ≡ true → digit_value d ≡ d - 48
digit_value-digit d digit = grind (arith, nat_tests)

pub digit_value-at : (ds : List ℕ) (i : ℕ) → list_all is_ascii_digit ds ≡ true → i < length ds → digit_value (get_or ds i 0) ≡ get_or ds i 0 - 48
digit_value-at ds i digits within =
    digit_value-digit _ (true_from_ne_false _ (λ e. false≢true (sym (list_all_at is_ascii_digit ds i 0 within e) ∙ digits)))
