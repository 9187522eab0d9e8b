-- Texts of bytes.
use Rattle.std.proofs.Common.{◌≡◌, ◌<◌, ◌≤◌, ◌+◌, ℕ, List, [], ◌∷◌, ◌++◌, Bool, true, false, cond, chars, encode_utf8, encode_utf8_all, filter, length, get_or, take}
use Rattle.std.proofs.Common.{append_assoc, refl, ap, ap₂, sym, ◌∙◌, arith}
use Rattle.std.proofs.lemmas.List.{append-nil, take_more}
use Rattle.std.specs.Prelude.{◌&&◌}
use Rattle.std.specs.List.{AllByRecursion, list_all}
use Rattle.std.specs.Str.{all_scalars}
use Rattle.std.proofs.lemmas.Bool.{and_parts}
use Rattle.std.proofs.lemmas.Bool.Decides.{nat_tests}
use Rattle.std.proofs.lemmas.Str.{chars-encodes, encodes-append}
use lib.Utf8.{low_scalar}
use Rattle.cpm_protocol.specs.Bytes.{is_byte_character, is_byte_text, text_of_bytes}

-- bytes are the numbers of characters
scalars-bytes : (bytes : List ℕ) → AllByRecursion (λ b. b < 256) bytes → all_scalars bytes ≡ true
scalars-bytes [] all = refl
scalars-bytes (b ∷ bs) all = ap₂ (λ (x y : Bool). x && y) (low_scalar b (omega (arith, all.0))) (scalars-bytes bs all.1)

-- what is written for bytes stands for them
pub bytes-back : (bytes : List ℕ) → AllByRecursion (λ b. b < 256) bytes → chars (text_of_bytes bytes) ≡ bytes
bytes-back bytes all = chars-encodes bytes (scalars-bytes bytes all)

-- where all pass, none is left out
pub filter-all : (test : ℕ → Bool) (xs : List ℕ) → list_all test xs ≡ true → filter test xs ≡ xs
filter-all test [] all = refl
filter-all test (x ∷ xs) all =
    let parts = and_parts (test x) (list_all test xs) all in
    rw parts.0 (ap (λ (rest : List ℕ). x ∷ rest) (filter-all test xs parts.1))

is_byte : (b : ℕ) → b < 256 → is_byte_character b ≡ true
is_byte b less = grind (arith, nat_tests)

all-bytes : (bytes : List ℕ) → AllByRecursion (λ b. b < 256) bytes → list_all is_byte_character bytes ≡ true
all-bytes [] all = refl
all-bytes (b ∷ bs) all = ap₂ (λ (x y : Bool). x && y) (is_byte b all.0) (all-bytes bs all.1)

-- what is written for bytes is a text of bytes
pub byte-text : (bytes : List ℕ) → AllByRecursion (λ b. b < 256) bytes → is_byte_text (text_of_bytes bytes) ≡ true
byte-text bytes all = ap (list_all is_byte_character) (bytes-back bytes all) ∙ all-bytes bytes all

-- a character more that stands for a byte, and one that doesn't
pub byte_more : (done new rest all : List ℕ) (c : ℕ) → c < 256 → new ≡ done ++ c ∷ [] → done ++ filter is_byte_character (c ∷ rest) ≡ all → new ++ filter is_byte_character rest ≡ all
byte_more done new rest all c less pushed so_far =
    ap (λ (bytes : List ℕ). bytes ++ filter is_byte_character rest) pushed
    ∙ append_assoc done (c ∷ []) (filter is_byte_character rest)
    ∙ ap (λ (b : Bool). done ++ cond b (c ∷ filter is_byte_character rest) (filter is_byte_character rest)) (sym (is_byte c less))
    ∙ so_far

is_none : (c : ℕ) → 256 ≤ c → is_byte_character c ≡ false
is_none c more = grind (arith, nat_tests)

pub no_byte_more : (done rest all : List ℕ) (c : ℕ) → 256 ≤ c → done ++ filter is_byte_character (c ∷ rest) ≡ all → done ++ filter is_byte_character rest ≡ all
no_byte_more done rest all c more so_far =
    ap (λ (b : Bool). done ++ cond b (c ∷ filter is_byte_character rest) (filter is_byte_character rest)) (sym (is_none c more)) ∙ so_far

-- the text of one byte more
pub text_more : (bytes : List ℕ) (i : ℕ) → i < length bytes → text_of_bytes (take (i + 1) bytes) ≡ text_of_bytes (take i bytes) ++ encode_utf8 (get_or bytes i 0)
text_more bytes i within =
    ap encode_utf8_all (take_more bytes i 0 within)
    ∙ encodes-append (take i bytes) (get_or bytes i 0 ∷ [])
    ∙ ap (λ (end : List ℕ). encode_utf8_all (take i bytes) ++ end) (append-nil (encode_utf8 (get_or bytes i 0)))
