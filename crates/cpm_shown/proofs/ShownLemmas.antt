-- One more character, of a text or of a line.
use Rattle.std.proofs.Common.{◌≡◌, ℕ, ◌+◌, ◌<◌, false, true, if◌then◌else◌, List, ◌∷◌, ◌++◌, length, drop, map, get_or, sym, ap, ◌∙◌, IsUtf8, chars, codes, encode_utf8, add-one, drop-cons}
use Rattle.std.proofs.lemmas.Str.{chars_past_char}
use Rattle.cpm_shown.specs.Shown.{has_room_to_show, shown_after, shown_character, untabbed}

-- there is room for it
pub shown_after-more : (done new rest : List ℕ) (c : ℕ) → has_room_to_show done ≡ true → new ≡ done ++ encode_utf8 (shown_character c)
    → shown_after done (c ∷ rest) ≡ shown_after new rest
shown_after-more done new rest c room e =
    ap (λ b. if b then shown_after (done ++ encode_utf8 (shown_character c)) rest else done ++ codes "...") room
    ∙ sym (ap (λ bytes. shown_after bytes rest) e)

-- there is no room
pub shown_after-full : (done new rest : List ℕ) (c : ℕ) → has_room_to_show done ≡ false → new ≡ done ++ codes "..."
    → shown_after done (c ∷ rest) ≡ new
shown_after-full done new rest c room e =
    ap (λ b. if b then shown_after (done ++ encode_utf8 (shown_character c)) rest else done ++ codes "...") room ∙ sym e

-- a text begins with it
pub shown_after-text : (done text rest : List ℕ) (c : ℕ) → IsUtf8 text → text ≡ encode_utf8 c ++ rest
    → shown_after done (chars text) ≡ shown_after done (c ∷ chars rest)
shown_after-text done text rest c u e = ap (shown_after done) (chars_past_char text rest c u e)

-- a line has it at a place
pub shown_after-line : (done line : List ℕ) (i c : ℕ) → i < length line → c ≡ untabbed (get_or line i 0)
    → shown_after done (map untabbed (drop i line)) ≡ shown_after done (c ∷ map untabbed (drop (i + 1) line))
shown_after-line done line i c within e =
    let rest : drop i line ≡ get_or line i 0 ∷ drop (i + 1) line = rw (add-one, drop-cons line i 0) in
    ap (λ xs. shown_after done (map untabbed xs)) rest
    ∙ sym (ap (λ k. shown_after done (k ∷ map untabbed (drop (i + 1) line))) e)
