-- The first line of a text, and the lines after it.
use Rattle.std.proofs.Common.{◌≡◌, ◌<◌, ◌+◌, ℕ, false, List, [], ◌∷◌, Some, None, length, take, drop, arith, refl, ap, ◌∙◌}
use Rattle.std.specs.List.{slice_split, position_or_len}
use Rattle.std.specs.Str.Lines.{lines, lines_of_parts, strip_carriage_return}
use Rattle.std.proofs.lemmas.Bool.{false_from_ne_true}
use Rattle.std.proofs.lemmas.Bool.Decides.{nat_tests}
use Rattle.std.proofs.lemmas.List.Elements.{All-from_get_or}
use Rattle.std.proofs.lemmas.List.Splits.{length-slice_split, slice_split_first, slice_split_none}
use Rattle.std.proofs.lemmas.List.Sums.{position_or_len_is}
use Rattle.memchr.specs.Find.{IsFirstByte, is_byte}

pub line_before : (line : List ℕ) (parts : List (List ℕ)) → 0 < length parts → lines_of_parts (line ∷ parts) ≡ strip_carriage_return line ∷ lines_of_parts parts
line_before line [] some = absurd (omega arith)
line_before line (part ∷ parts) some = refl

-- a byte that was found stands at the first place that passes
pub place-found : (byte : ℕ) (text : List ℕ) (i : ℕ) → i < length text → IsFirstByte (is_byte byte) text (Some i) → position_or_len (is_byte byte) text ≡ i
place-found byte text i within found = position_or_len_is (is_byte byte) text i 0 (omega arith)
    (λ k before. false_from_ne_true _ (found.0.before k (omega arith) before)) (λ _. found.1)

pub place-none : (byte : ℕ) (text : List ℕ) → IsFirstByte (is_byte byte) text None → position_or_len (is_byte byte) text ≡ length text
place-none byte text none = position_or_len_is (is_byte byte) text (length text) 0 (omega arith)
    (λ k before. false_from_ne_true _ (none k (omega arith) before)) (λ past. absurd (omega arith))

-- a newline ends the first line
pub lines-first : (text : List ℕ) (end : ℕ) → end < length text → IsFirstByte (is_byte 10) text (Some end)
    → lines text ≡ strip_carriage_return (take end text) ∷ lines (drop (end + 1) text)
lines-first text end within found =
    let at_end = place-found 10 text end within found in
    let cut = slice_split_first (is_byte 10) text 0 (omega arith) in
    let parts : slice_split (is_byte 10) text ≡ take end text ∷ slice_split (is_byte 10) (drop (end + 1) text) =
    cut ∙ ap (λ (i : ℕ). take i text ∷ slice_split (is_byte 10) (drop (i + 1) text)) at_end in
    ap lines_of_parts parts ∙ line_before (take end text) (slice_split (is_byte 10) (drop (end + 1) text))
    (omega (arith, length-slice_split (is_byte 10) (drop (end + 1) text)))

whole_line : (text : List ℕ) → 0 < length text → lines_of_parts (text ∷ []) ≡ text ∷ []
whole_line [] some = absurd (omega arith)
whole_line (b ∷ text) some = grind (arith, nat_tests)

-- a text with no newline is one line
pub lines-whole : (text : List ℕ) → 0 < length text → IsFirstByte (is_byte 10) text None → lines text ≡ text ∷ []
lines-whole text some none =
    ap lines_of_parts (slice_split_none (is_byte 10) text (All-from_get_or (λ b. is_byte 10 b ≡ false) text 0
    (λ i within. false_from_ne_true _ (none i (omega arith) within)))) ∙ whole_line text some
