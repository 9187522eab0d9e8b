-- How many bytes a key takes.
use Rattle.std.proofs.Common.{ℕ, ◌<◌, ◌≤◌, Bool, true, false, List, [], ◌∷◌, length, arith}
use Rattle.std.specs.Prelude.{◌==◌, if◌then◌else◌, Option, Some, None}
use Rattle.cpm_screen.specs.declared.keys.PersonKey.{PersonKey}
use Rattle.cpm_screen.specs.declared.keys.KeyRead.{KeyRead}
use Rattle.cpm_screen.specs.Keys.{byte_alone, taken_or, key_in, letter_keys, function_letters, console_letters, one_digit_key, two_digit_key, numbered_key, bracket_key, single_shift_key, key_at_front}

-- from one byte to n
record TakesFew (n : ℕ) (k : KeyRead) : Type 0 where
  low : 0 < k.taken
  high : k.taken ≤ n

by_test : (n : ℕ) (t : Bool) {x y : KeyRead} → TakesFew n x → TakesFew n y → TakesFew n (if t then x else y)
by_test n true a b = a
by_test n false a b = b

by_key : (n m : ℕ) (k : Option PersonKey) {y : KeyRead} → 0 < m → m ≤ n → TakesFew n y → TakesFew n (taken_or m k y)
by_key n m None some few b = b
by_key n m (Some key) some few b = record { low = some; high = few }

one : (n : ℕ) → 0 < n → TakesFew n byte_alone
one n some = record { low = omega arith; high = omega arith }

-- after ESC O, and after ESC [ with three bytes, with four and with more
by_shift : (n c : ℕ) → 3 ≤ n → TakesFew n (taken_or 3 (key_in letter_keys c) (taken_or 3 (key_in function_letters c) byte_alone))
by_shift n c few =
    by_key n 3 (key_in letter_keys c) (omega arith) few (by_key n 3 (key_in function_letters c) (omega arith) few (one n (omega arith)))

by_front : (n a b : ℕ) {x y : KeyRead} → 0 < n → TakesFew n x → TakesFew n y
    → TakesFew n (if a == 0x1B then (if b == 0x5B then x else (if b == 0x4F then y else byte_alone)) else byte_alone)
by_front n a b some x y =
    by_test n (a == 0x1B) (by_test n (b == 0x5B) x (by_test n (b == 0x4F) y (one n some))) (one n some)

front : (bytes : List ℕ) → 0 < length bytes → TakesFew (length bytes) (key_at_front bytes)
unfolding key_at_front bracket_key numbered_key single_shift_key
front [] some = absurd (omega arith)
front (a ∷ []) some = by_test 1 (a == 0x1B) (one 1 some) (one 1 some)
front (a ∷ b ∷ []) some = by_front 2 a b (omega arith) (one 2 some) (one 2 some)
front (a ∷ b ∷ c ∷ []) some =
    let o = one 3 (omega arith) in
    by_front 3 a b (omega arith) (by_key 3 3 (key_in letter_keys c) (omega arith) (omega arith) (by_test 3 (c == 0x5B) o o)) (by_shift 3 c (omega arith))
front (a ∷ b ∷ c ∷ d ∷ []) some =
    let o = one 4 (omega arith) in
    let numbered = by_test 4 (c == 0x5B) (by_key 4 4 (key_in console_letters d) (omega arith) (omega arith) o)
    (by_test 4 (d == 0x7E) (by_key 4 4 (one_digit_key c) (omega arith) (omega arith) o) o) in
    by_front 4 a b (omega arith) (by_key 4 3 (key_in letter_keys c) (omega arith) (omega arith) numbered) (by_shift 4 c (omega arith))
front (a ∷ b ∷ c ∷ d ∷ e ∷ rest) some =
    let n : ℕ = length (a ∷ b ∷ c ∷ d ∷ e ∷ rest) in
    let five : 5 ≤ n = omega arith in
    let o = one n (omega arith) in
    let numbered = by_test n (c == 0x5B) (by_key n 4 (key_in console_letters d) (omega arith) (omega arith) o)
    (by_test n (d == 0x7E) (by_key n 4 (one_digit_key c) (omega arith) (omega arith) o)
    (by_test n (e == 0x7E) (by_key n 5 (two_digit_key c d) (omega arith) five o) o)) in
    by_front n a b (omega arith) (by_key n 3 (key_in letter_keys c) (omega arith) (omega arith) numbered) (by_shift n c (omega arith))

none_taken : 0 < (key_at_front []).taken
unfolding key_at_front
none_taken = omega arith

pub few_taken : (bytes : List ℕ) → 0 < length bytes → (key_at_front bytes).taken ≤ length bytes
few_taken bytes some = (front bytes some).high

pub some_taken : (bytes : List ℕ) → 0 < (key_at_front bytes).taken
some_taken [] = none_taken
some_taken (a ∷ bytes) = (front (a ∷ bytes) (omega arith)).low

pub ruleset takes_few = (few_taken, some_taken)
