-- Places in a text.
use Rattle.std.proofs.Common.{◌≡◌, ℕ, ◌-◌, ◌≤◌, Bool, not, List, length, take, drop, refl, inl, inr, arith}
use Rattle.std.specs.Prelude.{unwrap_or, position}
use Rattle.std.specs.List.{position_or_len}
use Rattle.std.proofs.lemmas.List.{take_rest, length-take, length-drop}
use Rattle.std.proofs.lemmas.List.Sums.{prefix_len-le-length}
use Rattle.std.proofs.lemmas.Bool.{lt-ltb, le-ltb, cases_lt}
use Rattle.cpm_directory.specs.CommandLine.{after_spaces}
use Rattle.cpm_ccp.specs.Words.{first_word, tail_of}

pub within : (p : ℕ → Bool) (xs : List ℕ) → position_or_len p xs ≤ length xs
within p xs = prefix_len-le-length (λ x. not (p x)) xs

-- the first place that passes, or the length
pub first_place : (p : ℕ → Bool) (xs : List ℕ) → unwrap_or (position p xs) (length xs) ≡ position_or_len p xs
first_place p xs =
    elim (cases_lt (position_or_len p xs) (length xs)) [
      | inl lt ↦ rw (lt-ltb _ _ lt) refl
      | inr ge ↦ let h = within p xs in rw (le-ltb _ _ ge) (omega arith)
    ]

pub rest : (xs : List ℕ) (n k : ℕ) → n ≡ length xs → take (n - k) (drop k xs) ≡ drop k xs
rest xs n k e = rw e (take_rest xs k)

-- neither the first word nor the tail is longer than its line
pub first_word-le : (line : List ℕ) → length (first_word line) ≤ length line
unfolding first_word after_spaces
first_word-le line = simp (length-take, length-drop) (omega arith)

pub tail_of-le : (line : List ℕ) → length (tail_of line) ≤ length line
unfolding tail_of after_spaces
tail_of-le line = simp (length-drop) (omega arith)
