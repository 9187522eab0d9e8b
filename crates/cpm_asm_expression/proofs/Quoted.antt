-- The characters of a quoted text, one after another.
use Rattle.std.proofs.Common.{◌≡◌, ◌<◌, ◌≤◌, ◌+◌, ℕ, Bool, true, false, List, [], ◌∷◌, ◌++◌, Option, Some, None, length, arith, refl, ap, ◌∙◌, sym, append_assoc, append-nil, option_map, length-append}
use Rattle.std.specs.Prelude.{◌==◌, nat_le, nat_lt, ◌&&◌, if◌then◌else◌}
use Rattle.std.proofs.lemmas.Bool.Decides.{nat_tests}
use Rattle.cpm_asm_expression.specs.Quotes.{Character, Of, Last, Missing, character, characters, behind_character, is_quote, sized_text}

-- characters that were read, and those behind them
abbrev pub behind_all : List ℕ → Option (List ℕ × List ℕ) → Option (List ℕ × List ℕ)
behind_all front read = option_map (λ p. (front ++ p.0, p.1)) read

-- what a next character makes of the rest
abbrev pub from_character : Character → Option (List ℕ × List ℕ)
from_character Missing = None
from_character (Last rest) = Some ([], rest)
from_character (Of b rest) = behind_character b (characters rest)

second : (c_quote : Bool) (b c : ℕ) (rest : List ℕ)
    → (if c_quote then behind_character b (characters rest) else Some ([], c ∷ rest)) ≡ from_character (if c_quote then Of b rest else Last (c ∷ rest))
second true b c rest = refl
second false b c rest = refl

first : (b_quote : Bool) (b c : ℕ) (rest : List ℕ)
    → (if b_quote then (if is_quote c then behind_character b (characters rest) else Some ([], c ∷ rest)) else behind_character b (characters (c ∷ rest)))
    ≡ from_character (if b_quote then (if is_quote c then Of b rest else Last (c ∷ rest)) else Of b (c ∷ rest))
first true b c rest = second (is_quote c) b c rest
first false b c rest = refl

only : (b_quote : Bool) (b : ℕ) → (if b_quote then Some ([], []) else None) ≡ from_character (if b_quote then Last [] else Of b [])
only true b = refl
only false b = refl

pub characters-next : (text : List ℕ) → characters text ≡ from_character (character text)
characters-next [] = refl
characters-next (b ∷ []) = only (is_quote b) b
characters-next (b ∷ c ∷ rest) = first (is_quote b) b c rest

push : (front : List ℕ) (b : ℕ) (read : Option (List ℕ × List ℕ)) → behind_all (front ++ b ∷ []) read ≡ behind_all front (behind_character b read)
push front b None = refl
push front b (Some p) = ap (λ cs. Some (cs, p.1)) (append_assoc front (b ∷ []) p.0)

-- one more character
pub characters-push : (front rest after : List ℕ) (b : ℕ) → character rest ≡ Of b after
    → behind_all (front ++ b ∷ []) (characters after) ≡ behind_all front (characters rest)
characters-push front rest after b is = push front b (characters after) ∙ ap (behind_all front) (sym (characters-next rest ∙ ap from_character is))

over : (n : ℕ) (p : List ℕ × List ℕ) → n ≡ length p.0 → 64 < n → (if nat_lt 0 (length p.0) && nat_le (length p.0) 64 then Some p else None) ≡ None
over n p is h = grind (arith, nat_tests)

sized-fits : (p : List ℕ × List ℕ) (n : ℕ) → n ≡ length p.0 → 0 < n → n ≤ 64 → sized_text (Some p) ≡ Some p
sized-fits p n is h k = grind (arith, nat_tests)

-- the last quote behind 1 to 64 characters
pub characters-whole : (front rest after : List ℕ) → character rest ≡ Last after → 0 < length front → length front ≤ 64
    → sized_text (behind_all front (characters rest)) ≡ Some (front, after)
characters-whole front rest after is h k =
    ap sized_text (ap (behind_all front) (characters-next rest ∙ ap from_character is) ∙ ap (λ (cs : List ℕ). Some (cs, after)) (append-nil front))
    ∙ sized-fits (front, after) (length front) refl h k

too_long : (front : List ℕ) (b : ℕ) (read : Option (List ℕ × List ℕ)) → length front ≡ 64 → sized_text (behind_all front (behind_character b read)) ≡ None
too_long front b None full = refl
too_long front b (Some p) full = over (length (front ++ b ∷ p.0)) (front ++ b ∷ p.0, p.1) refl (omega (arith, length-append front (b ∷ p.0)))

-- a character behind the 64th is one too many
pub characters-full : (front rest after : List ℕ) (b : ℕ) → character rest ≡ Of b after → length front ≡ 64 → sized_text (behind_all front (characters rest)) ≡ None
characters-full front rest after b is full = ap (λ r. sized_text (behind_all front r)) (characters-next rest ∙ ap from_character is) ∙ too_long front b (characters after) full

pub not_empty : (xs : List ℕ) → false ≡ (length xs == 0) → 0 < length xs
not_empty [] e = absurd (cc)
not_empty (x ∷ xs) e = omega arith
