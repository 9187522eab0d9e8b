-- Numbers: digits, and a last letter that tells the base.
-- CP/M 2.2 Operating System Manual, "CP/M Assembler", "Numeric Constants". That a number is taken modulo 65,536 is
-- own.
use Rattle.std.specs.Prelude.{ℕ, ◌+◌, ◌-◌, ◌*◌, ◌%◌, nat_le, nat_lt, ◌==◌, ◌||◌, ◌&&◌, if◌then◌else◌, List}
use Rattle.std.specs.Prelude.{[], ◌∷◌, length, take, slice_index, Option, Some, None, option_and_then}
use Rattle.std.specs.Char.{to_ascii_uppercase}
use Rattle.cpm_asm_expression.specs.Letters.{is_dollar}

-- B is binary, O and Q octal, D decimal, H hexadecimal
abbrev pub base_of_capital : ℕ → Option ℕ
base_of_capital c =
    if c == 0x42 then Some 2
    else if c == 0x4F || c == 0x51 then Some 8
    else if c == 0x44 then Some 10
    else if c == 0x48 then Some 16
    else None

abbrev pub base_of : ℕ → Option ℕ
base_of c = base_of_capital (to_ascii_uppercase c)

abbrev pub digit_of_capital : ℕ → Option ℕ
digit_of_capital c =
    if nat_le 0x30 c && nat_le c 0x39 then Some (c - 0x30)
    else if nat_le 0x41 c && nat_le c 0x46 then Some (c - 55)
    else None

abbrev pub digit_of : ℕ → Option ℕ
digit_of c = digit_of_capital (to_ascii_uppercase c)

-- a digit below the base
abbrev pub digit_to_base : ℕ → ℕ → Option ℕ
digit_to_base base c = option_and_then (λ d. if nat_lt d base then Some d else None) (digit_of c)

-- the number that digits write to a base after those read before, modulo 65,536
abbrev pub number_to_base : ℕ → ℕ → List ℕ → Option ℕ
number_to_base base number [] = Some number
number_to_base base number (c ∷ cs) =
    if is_dollar c then number_to_base base number cs
    else option_and_then (λ d. number_to_base base ((number * base + d) % 65536) cs) (digit_to_base base c)

abbrev pub before_dollars : ℕ → List ℕ → List ℕ
before_dollars b [] = if is_dollar b then [] else b ∷ []
before_dollars b (c ∷ cs) = b ∷ c ∷ cs

-- a text without the dollar signs at its end
abbrev pub without_dollars : List ℕ → List ℕ
without_dollars [] = []
without_dollars (b ∷ bs) = before_dollars b (without_dollars bs)

abbrev pub by_base : List ℕ → Option ℕ → Option ℕ
by_base digits None = number_to_base 10 0 digits
by_base digits (Some base) = number_to_base base 0 (take (length digits - 1) digits)

abbrev pub number_of_digits : List ℕ → Option ℕ
number_of_digits [] = None
number_of_digits (c ∷ cs) = by_base (c ∷ cs) (base_of (slice_index (c ∷ cs) (length (c ∷ cs) - 1)))

-- the number that a word writes which begins with a digit
abbrev pub number_of : List ℕ → Option ℕ
number_of word = number_of_digits (without_dollars word)
