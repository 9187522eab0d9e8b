-- Tokens, one after another.
use Rattle.std.proofs.Common.{◌≡◌, ◌<◌, ◌≤◌, ◌+◌, ℕ, zero, suc, Bool, true, false, cond, List, [], ◌∷◌, Option, Some, None, length, arith, refl, ap, option_map, length-drop}
use Rattle.std.specs.Prelude.{option_and_then, ◌||◌, nat_le, nat_lt, ◌&&◌, if◌then◌else◌}
use Rattle.std.specs.Char.{is_ascii_digit}
use Rattle.std.specs.List.{prefix_len}
use Rattle.cpm_asm_expression.specs.Letters.{after_blanks, begins_name, continues_word, is_blank, is_dollar, split_word}
use Rattle.cpm_asm_expression.specs.Numbers.{number_of}
use Rattle.cpm_asm_expression.specs.Quotes.{characters, behind_character, is_quote, sized_text, quoted_text, text_number}
use Rattle.cpm_asm_expression.specs.Tokens.{first_token, tokens_joined, number_token, sign_token, tokens_below, tokens_of, tokens_or_end, with_rest, word_token}
use Rattle.cpm_asm_expression.specs.declared.tokens.Token.{Token}

-- what follows is shorter than a bound
abbrev pub Leaves : {X : Type 0} → ℕ → Option (X × List ℕ) → Type 0
Leaves n None = Unit {0}
Leaves n (Some p) = length p.1 < n

with_rest-leaves : {X : Type 0} (n : ℕ) (token : Option X) (rest : List ℕ) → length rest < n → Leaves n (with_rest token rest)
with_rest-leaves n None rest h = tt
with_rest-leaves n (Some t) rest h = h

behind-leaves : (n b : ℕ) (read : Option (List ℕ × List ℕ)) → Leaves n read → Leaves n (behind_character b read)
behind-leaves n b None h = tt
behind-leaves n b (Some p) h = h

wider : {X : Type 0} (n k : ℕ) (read : Option (X × List ℕ)) → n ≤ k → Leaves n read → Leaves k read
wider n k None h l = tt
wider n k (Some p) h l = omega (arith, h, l)

if-leaves : {X : Type 0} (n : ℕ) (b : Bool) (x y : Option (X × List ℕ)) → Leaves n x → Leaves n y → Leaves n (if b then x else y)
if-leaves n true x y h k = h
if-leaves n false x y h k = k

-- a quoted text leaves less
characters-leaves : (text : List ℕ) → Leaves (suc (length text)) (characters text)
characters-leaves [] = tt
characters-leaves (b ∷ []) = if-leaves 2 (is_quote b) (Some ([], [])) None (omega arith) tt
characters-leaves (b ∷ c ∷ rest) =
    let n = suc (length (b ∷ c ∷ rest)) in
    if-leaves n (is_quote b) _ _
    (if-leaves n (is_quote c) _ _ (behind-leaves n b (characters rest) (wider (suc (length rest)) n (characters rest) (omega arith) (characters-leaves rest))) (omega arith))
    (behind-leaves n b (characters (c ∷ rest)) (wider (suc (length (c ∷ rest))) n (characters (c ∷ rest)) (omega arith) (characters-leaves (c ∷ rest))))

sized-leaves : (n : ℕ) (read : Option (List ℕ × List ℕ)) → Leaves n read → Leaves n (sized_text read)
sized-leaves n None h = tt
sized-leaves n (Some p) h = if-leaves n (nat_lt 0 (length p.0) && nat_le (length p.0) 64) (Some p) None h tt

quoted-leaves : (n : ℕ) (read : Option (List ℕ × List ℕ)) → Leaves n read
    → Leaves n (option_and_then (λ p. with_rest (number_token (text_number p.0)) p.1) read)
quoted-leaves n None h = tt
quoted-leaves n (Some p) h = with_rest-leaves n (number_token (text_number p.0)) p.1 h

goes_on-letter : (b : ℕ) → begins_name b ≡ true → continues_word b ≡ true
goes_on-letter b h = ap (λ (x : Bool). x || is_ascii_digit b || is_dollar b) h

by_second : (x y z : Bool) → y ≡ true → (x || y || z) ≡ true
by_second true y z h = refl
by_second false y z h = ap (λ (w : Bool). w || z) h

goes_on-digit : (b : ℕ) → is_ascii_digit b ≡ true → continues_word b ≡ true
goes_on-digit b h = by_second (begins_name b) (is_ascii_digit b) (is_dollar b) h

-- what goes on with a word is taken
drop-leaves : (b : ℕ) (rest : List ℕ) → continues_word b ≡ true → length (split_word (b ∷ rest)).1 < length (b ∷ rest)
drop-leaves b rest h =
    let n = prefix_len continues_word (b ∷ rest) in
    let taken : n ≡ 1 + prefix_len continues_word rest = ap (λ (x : Bool). cond x (1 + prefix_len continues_word rest) 0) h in
    omega (arith, taken, length-drop n (b ∷ rest))

by-leaves : (letter digit quote : Bool) (b : ℕ) (rest : List ℕ) → begins_name b ≡ letter → is_ascii_digit b ≡ digit
    → Leaves (length (b ∷ rest)) (if letter then with_rest (word_token (split_word (b ∷ rest)).0) (split_word (b ∷ rest)).1
    else if digit then with_rest (number_token (number_of (split_word (b ∷ rest)).0)) (split_word (b ∷ rest)).1
    else if quote then option_and_then (λ p. with_rest (number_token (text_number p.0)) p.1) (quoted_text rest)
    else with_rest (sign_token b) rest)
by-leaves true digit quote b rest h k = with_rest-leaves (length (b ∷ rest)) _ _ (drop-leaves b rest (goes_on-letter b h))
by-leaves false true quote b rest h k = with_rest-leaves (length (b ∷ rest)) _ _ (drop-leaves b rest (goes_on-digit b k))
by-leaves false false true b rest h k =
    quoted-leaves (length (b ∷ rest)) (quoted_text rest) (sized-leaves (length (b ∷ rest)) (characters rest) (wider (suc (length rest)) (length (b ∷ rest)) (characters rest) (omega arith) (characters-leaves rest)))
by-leaves false false false b rest h k = with_rest-leaves (length (b ∷ rest)) (sign_token b) rest (omega arith)

-- a token leaves less
pub token-leaves : (text : List ℕ) → Leaves (length text) (first_token text)
token-leaves [] = tt
token-leaves (b ∷ rest) = by-leaves (begins_name b) (is_ascii_digit b) (is_quote b) b rest refl refl

pub blanks-leave : (text : List ℕ) → length (after_blanks text) ≤ length text
blanks-leave text = omega (arith, length-drop (prefix_len is_blank text) text)

joined-enough : (n k : ℕ) (bound : ℕ) (first : Option (Token × List ℕ)) → Leaves bound first
    → ((text : List ℕ) → length text < bound → tokens_below n text ≡ tokens_below k text)
    → tokens_joined first (λ rest. tokens_below n rest) ≡ tokens_joined first (λ rest. tokens_below k rest)
joined-enough n k bound None l same = refl
joined-enough n k bound (Some p) l same = ap (λ o. option_map (λ ts. p.0 ∷ ts) o) (same p.1 l)

or_end-enough : (n k : ℕ) (text : List ℕ) → ((rest : List ℕ) → length rest < length text → tokens_below n rest ≡ tokens_below k rest)
    → tokens_or_end text (λ rest. tokens_below n rest) ≡ tokens_or_end text (λ rest. tokens_below k rest)
or_end-enough n k [] same = refl
or_end-enough n k (b ∷ bs) same = joined-enough n k (length (b ∷ bs)) (first_token (b ∷ bs)) (token-leaves (b ∷ bs)) same

-- any bound above the length serves
enough : (n k : ℕ) (text : List ℕ) → length text < n → length text < k → tokens_below n text ≡ tokens_below k text
enough zero k text h j = absurd (omega (arith, h))
enough (suc n) zero text h j = absurd (omega (arith, j))
enough (suc n) (suc k) text h j =
    or_end-enough n k (after_blanks text) (λ rest less. enough n k rest (omega (arith, less, h, blanks-leave text)) (omega (arith, less, j, blanks-leave text)))

joined-of : (n bound : ℕ) (first : Option (Token × List ℕ)) → bound ≤ n → Leaves bound first
    → tokens_joined first (λ rest. tokens_below n rest) ≡ tokens_joined first tokens_of
unfolding tokens_of
joined-of n bound None h l = refl
joined-of n bound (Some p) h l = ap (λ o. option_map (λ ts. p.0 ∷ ts) o) (enough n (suc (length p.1)) p.1 (omega (arith, h, l)) (omega arith))

or_end-of : (n : ℕ) (text : List ℕ) → length text ≤ n → tokens_or_end text (λ rest. tokens_below n rest) ≡ tokens_or_end text tokens_of
unfolding tokens_of
or_end-of n [] h = refl
or_end-of n (b ∷ bs) h = joined-of n (length (b ∷ bs)) (first_token (b ∷ bs)) h (token-leaves (b ∷ bs))

-- the tokens of a text are its first one, and those of what follows
pub tokens_of-first : (text : List ℕ) → tokens_of text ≡ tokens_or_end (after_blanks text) tokens_of
unfolding tokens_of
tokens_of-first text = or_end-of (length text) (after_blanks text) (blanks-leave text)
