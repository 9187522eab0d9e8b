-- The first line of a text, and the lines after it.
use Rattle.std.proofs.Common.{◌≡◌, ◌<◌, ◌+◌, ◌≤◌, ℕ, false, List, [], ◌∷◌, Some, None, length, take, drop, arith, refl, ap, ◌∙◌}
use Rattle.std.specs.Prelude.{suc, Bool, true, ◌==◌, ◌&&◌, not, if◌then◌else◌}
use Rattle.cpm_asm.specs.Lines.{outside, parts, quoted_after}
use Rattle.std.specs.List.{slice_split, position_or_len, onto_first}
use Rattle.std.specs.Str.Lines.{lines, lines_of_parts, strip_carriage_return}
use Rattle.std.proofs.lemmas.Bool.{false_from_ne_true}
use Rattle.std.proofs.lemmas.Bool.Decides.{nat_tests}
use Rattle.std.proofs.lemmas.List.Elements.{All-from_get_or}
use Rattle.std.proofs.lemmas.List.Splits.{length-slice_split, slice_split_first, slice_split_none}
use Rattle.std.proofs.lemmas.List.Sums.{position_or_len_is}
use Rattle.memchr.specs.Find.{IsFirstByte, is_byte}

line_before : (line : List ℕ) (parts : List (List ℕ)) → 0 < length parts → lines_of_parts (line ∷ parts) ≡ strip_carriage_return line ∷ lines_of_parts parts
line_before line [] some = absurd (omega arith)
line_before line (part ∷ parts) some = refl

-- a byte that was found stands at the first place that passes
pub place-found : (byte : ℕ) (text : List ℕ) (i : ℕ) → i < length text → IsFirstByte (is_byte byte) text (Some i) → position_or_len (is_byte byte) text ≡ i
place-found byte text i within found = position_or_len_is (is_byte byte) text i 0 (omega arith)
    (λ k before. false_from_ne_true _ (found.0.before k (omega arith) before)) (λ _. found.1)

pub place-none : (byte : ℕ) (text : List ℕ) → IsFirstByte (is_byte byte) text None → position_or_len (is_byte byte) text ≡ length text
place-none byte text none = position_or_len_is (is_byte byte) text (length text) 0 (omega arith)
    (λ k before. false_from_ne_true _ (none k (omega arith) before)) (λ past. absurd (omega arith))

-- a newline ends the first line
pub lines-first : (text : List ℕ) (end : ℕ) → end < length text → IsFirstByte (is_byte 10) text (Some end)
    → lines text ≡ strip_carriage_return (take end text) ∷ lines (drop (end + 1) text)
lines-first text end within found =
    let at_end = place-found 10 text end within found in
    let cut = slice_split_first (is_byte 10) text 0 (omega arith) in
    let parts : slice_split (is_byte 10) text ≡ take end text ∷ slice_split (is_byte 10) (drop (end + 1) text) =
    cut ∙ ap (λ (i : ℕ). take i text ∷ slice_split (is_byte 10) (drop (i + 1) text)) at_end in
    ap lines_of_parts parts ∙ line_before (take end text) (slice_split (is_byte 10) (drop (end + 1) text))
    (omega (arith, length-slice_split (is_byte 10) (drop (end + 1) text)))

whole_line : (text : List ℕ) → 0 < length text → lines_of_parts (text ∷ []) ≡ text ∷ []
whole_line [] some = absurd (omega arith)
whole_line (b ∷ text) some = grind (arith, nat_tests)

-- a text with no newline is one line
pub lines-whole : (text : List ℕ) → 0 < length text → IsFirstByte (is_byte 10) text None → lines text ≡ text ∷ []
lines-whole text some none =
    ap lines_of_parts (slice_split_none (is_byte 10) text (All-from_get_or (λ b. is_byte 10 b ≡ false) text 0
    (λ i within. false_from_ne_true _ (none i (omega arith) within)))) ∙ whole_line text some

-- ---- parts

one_more : (n : ℕ) → suc (n + 1) ≡ suc n + 1
one_more n = omega arith

by-none : (test : Bool) (b n : ℕ) (bs : List ℕ) (rest : List (List ℕ)) (behind : List ℕ → List (List ℕ))
    → suc (length bs) ≤ (if test then 0 else suc n)
    → (length bs ≤ n → rest ≡ bs ∷ [])
    → (if test then [] ∷ behind bs else onto_first b rest) ≡ (b ∷ bs) ∷ []
by-none true b n bs rest behind h later = absurd (omega (arith, h))
by-none false b n bs rest behind h later = ap (onto_first b) (later (omega (arith, h)))

onto-some : (b : ℕ) (part : List ℕ) (rest more : List (List ℕ)) → rest ≡ part ∷ more → onto_first b rest ≡ (b ∷ part) ∷ more
onto-some b part rest more is = ap (onto_first b) is

by-sign : (test : Bool) (b n : ℕ) (bs : List ℕ) (rest : List (List ℕ)) (behind : List ℕ → List (List ℕ))
    → (if test then 0 else suc n) < suc (length bs)
    → (n < length bs → rest ≡ take n bs ∷ behind (drop (n + 1) bs))
    → (if test then [] ∷ behind bs else onto_first b rest)
    ≡ take (if test then 0 else suc n) (b ∷ bs) ∷ behind (drop ((if test then 0 else suc n) + 1) (b ∷ bs))
by-sign true b n bs rest behind h later = refl
by-sign false b n bs rest behind h later =
    onto-some b (take n bs) rest (behind (drop (n + 1) bs)) (later (omega (arith, h)))
    ∙ ap (λ (i : ℕ). (b ∷ take n bs) ∷ behind (drop i (b ∷ bs))) (one_more n)

first-from : (sign : ℕ) (quoted : Bool) (text : List ℕ) → outside sign quoted text < length text
    → parts sign quoted text ≡ take (outside sign quoted text) text ∷ parts sign false (drop (outside sign quoted text + 1) text)
first-from sign quoted [] h = absurd (omega arith)
first-from sign quoted (b ∷ bs) h =
    by-sign ((b == sign) && not quoted) b (outside sign (quoted_after quoted b) bs) bs (parts sign (quoted_after quoted b) bs) (parts sign false) h
    (first-from sign (quoted_after quoted b) bs)

-- a sign outside quotes ends the first part
pub parts-first : (sign : ℕ) (text : List ℕ) → outside sign false text < length text
    → parts sign false text ≡ take (outside sign false text) text ∷ parts sign false (drop (outside sign false text + 1) text)
parts-first sign text h = first-from sign false text h

whole-from : (sign : ℕ) (quoted : Bool) (text : List ℕ) → length text ≤ outside sign quoted text → parts sign quoted text ≡ text ∷ []
whole-from sign quoted [] h = refl
whole-from sign quoted (b ∷ bs) h =
    by-none ((b == sign) && not quoted) b (outside sign (quoted_after quoted b) bs) bs (parts sign (quoted_after quoted b) bs) (parts sign false) h
    (whole-from sign (quoted_after quoted b) bs)

-- a text with no such sign is one part
pub parts-whole : (sign : ℕ) (text : List ℕ) → length text ≤ outside sign false text → parts sign false text ≡ text ∷ []
parts-whole sign text h = whole-from sign false text h

onto-length : (b : ℕ) (rest : List (List ℕ)) → 0 < length (onto_first b rest)
onto-length b [] = omega arith
onto-length b (part ∷ rest) = omega arith

if-length : (test : Bool) (xs ys : List (List ℕ)) → 0 < length xs → 0 < length ys → 0 < length (if test then xs else ys)
if-length true xs ys h k = h
if-length false xs ys h k = k

-- a text has a part
pub parts-some : (sign : ℕ) (quoted : Bool) (text : List ℕ) → 0 < length (parts sign quoted text)
parts-some sign quoted [] = omega arith
parts-some sign quoted (b ∷ bs) = if-length ((b == sign) && not quoted) _ _ (omega arith) (onto-length b (parts sign (quoted_after quoted b) bs))
