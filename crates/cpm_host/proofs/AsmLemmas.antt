-- The lines of a text, one after another.
use Rattle.std.proofs.Common.{◌≡◌, ◌∙◌, ◌+◌, ◌-◌, ◌<◌, ◌≤◌, ap, sym, ℕ, suc, false, List, [], ◌∷◌, Some, None, length, take, drop, get_or, arith}
use Rattle.std.proofs.lemmas.Bool.{false_from_ne_true}
use Rattle.std.proofs.lemmas.List.{get_or_past}
use Rattle.std.proofs.lemmas.List.Elements.{All-from_get_or}
use Rattle.std.proofs.lemmas.List.Splits.{slice_split_first, slice_split_none}
use Rattle.std.specs.List.{slice_split}
use Rattle.memchr.specs.Find.{IsFirstByte, is_byte}
use Rattle.cpm_asm.proofs.LineLemmas.{place-found}
use Rattle.cpm_host.specs.Asm.{listed_source_line, lines_in}

-- a newline ends the first line
pub first_and_rest : (text : List ℕ) (end : ℕ) → end < length text → IsFirstByte (is_byte 10) text (Some end) → lines_in text ≡ take end text ∷ lines_in (drop (end + 1) text)
first_and_rest text end within found =
    let at_end = place-found 10 text end within found in
    slice_split_first (is_byte 10) text 0 (omega arith) ∙ ap (λ (i : ℕ). take i text ∷ slice_split (is_byte 10) (drop (i + 1) text)) at_end

-- a text with no newline is one line
pub first_alone : (text : List ℕ) → IsFirstByte (is_byte 10) text None → lines_in text ≡ text ∷ []
first_alone text none =
    slice_split_none (is_byte 10) text (All-from_get_or (λ b. is_byte 10 b ≡ false) text 0 (λ i within. false_from_ne_true _ (none i (omega arith) within)))

-- the lines of what is left are those of the text behind so many
abbrev pub AreLinesBehind : List ℕ → ℕ → List ℕ → Type 0
AreLinesBehind text passed rest = (k : ℕ) → get_or (lines_in rest) k [] ≡ get_or (lines_in text) (passed + k) []

pub lines_begun : (text : List ℕ) (passed : ℕ) → passed ≡ 0 → AreLinesBehind text passed text
lines_begun text passed none k = let same : k ≡ passed + k = omega (arith, none) in ap (λ (i : ℕ). get_or (lines_in text) i []) same

pub lines_behind : (text rest line behind : List ℕ) (passed more : ℕ) → more ≡ passed + 1 → AreLinesBehind text passed rest → lines_in rest ≡ line ∷ lines_in behind → AreLinesBehind text more behind
lines_behind text rest line behind passed more is h parts k =
    let same : passed + suc k ≡ more + k = omega (arith, is) in
    ap (λ (ps : List (List ℕ)). get_or ps (suc k) []) (sym parts) ∙ h (suc k) ∙ ap (λ (i : ℕ). get_or (lines_in text) i []) same

-- no line has the number
pub no_line : (text rest : List ℕ) (passed number : ℕ) → passed + 1 < number → AreLinesBehind text passed rest → lines_in rest ≡ rest ∷ [] → [] ≡ listed_source_line text number
no_line text rest passed number below h one =
    let k = number - 1 - passed in
    let same : passed + k ≡ number - 1 = omega (arith, below) in
    let past : length (lines_in rest) ≤ k = let e = ap length one in omega (arith, e, below) in
    sym (get_or_past (lines_in rest) k [] past) ∙ h k ∙ ap (λ (i : ℕ). get_or (lines_in text) i []) same

-- the line of the number is the first of what is left
pub line_here : (text rest line : List ℕ) (passed number : ℕ) → passed ≡ number - 1 → AreLinesBehind text passed rest → line ≡ get_or (lines_in rest) 0 [] → line ≡ listed_source_line text number
line_here text rest line passed number is h first =
    let same : passed + 0 ≡ number - 1 = omega (arith, is) in
    first ∙ h 0 ∙ ap (λ (i : ℕ). get_or (lines_in text) i []) same
