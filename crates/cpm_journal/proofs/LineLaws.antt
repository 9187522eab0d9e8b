-- Lines that are put together, and read one after another.
use Rattle.std.proofs.Common.{◌≡◌, ℕ, zero, suc, ◌+◌, ◌-◌, ◌≤◌, true, false, ◌||◌, ◌==◌, List, [], ◌∷◌, ◌++◌, length, take, inl, inr, ◌⊎◌, refl, sym, ap, ap₂, ◌∙◌, subst, arith, append_assoc, append-nil, length-append}
use Rattle.std.proofs.lemmas.Bool.{cases_eq, cases_lt, ne_eqb, or_parts, true≢false}
use Rattle.std.specs.Io.BufRead.{drop_through, take_through}
use Rattle.std.specs.List.{AllByRecursion}
use Rattle.cpm_journal.specs.Lines.{has_line_feed, journal_lines, line_torn, lines_ended, lines_text}

-- ---- a line

-- a line and what is behind it
pub ended-line : (begun line rest : List ℕ) → has_line_feed line ≡ false → lines_ended begun (line ++ 0x0A ∷ rest) ≡ (begun ++ line) ∷ lines_ended [] rest
ended-line begun [] rest h = ap (λ l. l ∷ lines_ended [] rest) (sym (append-nil begun))
ended-line begun (b ∷ bs) rest h =
    let parts = or_parts (b == 0x0A) (has_line_feed bs) h in
    rw parts.0 (ended-line (begun ++ b ∷ []) bs rest parts.1 ∙ ap (λ l. l ∷ lines_ended [] rest) (append_assoc begun (b ∷ []) bs))

pub torn-line : (begun line rest : List ℕ) → has_line_feed line ≡ false → line_torn begun (line ++ 0x0A ∷ rest) ≡ line_torn [] rest
torn-line begun [] rest h = refl
torn-line begun (b ∷ bs) rest h =
    let parts = or_parts (b == 0x0A) (has_line_feed bs) h in
    rw parts.0 (torn-line (begun ++ b ∷ []) bs rest parts.1)

-- bytes without a line feed are no whole line
pub no-line : (begun line : List ℕ) → has_line_feed line ≡ false → lines_ended begun line ≡ []
no-line begun [] h = refl
no-line begun (b ∷ bs) h =
    let parts = or_parts (b == 0x0A) (has_line_feed bs) h in
    rw parts.0 (no-line (begun ++ b ∷ []) bs parts.1)

-- ---- what is read up to a line feed

-- up to one that is there, or all
pub record IsThrough (text : List ℕ) : Type 0 where
  pub line : List ℕ
  pub free : has_line_feed line ≡ false
  pub through : take_through 0x0A text ≡ line ++ 0x0A ∷ []
  pub whole : text ≡ line ++ 0x0A ∷ drop_through 0x0A text

through-cases : (text : List ℕ) → IsThrough text ⊎ ((has_line_feed text ≡ false) × (take_through 0x0A text ≡ text))
through-cases [] = inr (refl, refl)
through-cases (x ∷ xs) = elim (cases_eq x 0x0A) [
  | inl same ↦ inl (record { line = []; free = refl; through = rw (same) refl; whole = rw (same) refl })
  | inr other ↦
      let e = ne_eqb x 0x0A other in
      elim (through-cases xs) [
        | inl k ↦ inl (record {
          line = x ∷ k.line;
          free = ap₂ (λ a b. a || b) e k.free;
          through = rw e (ap (λ l. x ∷ l) k.through);
          whole = rw e (ap (λ l. x ∷ l) k.whole);
        })
        | inr k ↦ inr (ap₂ (λ a b. a || b) e k.0, rw e (ap (λ l. x ∷ l) k.1))
      ]
]

snoc-same : (xs ys : List ℕ) (x y : ℕ) → xs ++ x ∷ [] ≡ ys ++ y ∷ [] → (xs ≡ ys) × (x ≡ y)
snoc-same [] [] x y e = (refl, cc)
snoc-same [] (b ∷ ys) x y e = absurd (omega (arith, ap length e, length-append ys (y ∷ [])))
snoc-same (a ∷ xs) [] x y e = absurd (omega (arith, ap length e, length-append xs (x ∷ [])))
snoc-same (a ∷ xs) (b ∷ ys) x y e =
    let rest = snoc-same xs ys x y cc in
    let first : a ≡ b = cc in
    (ap₂ (λ c l. c ∷ l) first rest.0, rest.1)

feed-last : (xs : List ℕ) → has_line_feed (xs ++ 0x0A ∷ []) ≡ true
feed-last [] = refl
feed-last (x ∷ xs) = elim (x == 0x0A) as (λ b. (b || has_line_feed (xs ++ 0x0A ∷ [])) ≡ true) [ true ↦ refl | false ↦ feed-last xs ]

no-bytes : (xs : List ℕ) → length xs ≡ 0 → xs ≡ []
no-bytes [] h = refl
no-bytes (x ∷ xs) h = absurd (omega (arith, h))

pub read-none : (text line : List ℕ) → length line ≡ 0 → line ≡ take_through 0x0A text → text ≡ []
read-none text line none e = elim (through-cases text) [
  | inl k ↦ absurd (omega (arith, none, ap length (e ∙ k.through), length-append k.line (0x0A ∷ [])))
  | inr k ↦ no-bytes text (ap length (sym (e ∙ k.1)) ∙ none)
]

pub read-whole : (text line : List ℕ) → line ++ 0x0A ∷ [] ≡ take_through 0x0A text → (has_line_feed line ≡ false) × (text ≡ line ++ 0x0A ∷ drop_through 0x0A text)
read-whole text line e = elim (through-cases text) [
  | inl k ↦
      let same = (snoc-same line k.line 0x0A 0x0A (e ∙ k.through)).0 in
      (ap has_line_feed same ∙ k.free, k.whole ∙ ap (λ l. l ++ 0x0A ∷ drop_through 0x0A text) (sym same))
  | inr k ↦ absurd (true≢false (sym (feed-last line) ∙ ap has_line_feed (e ∙ k.1) ∙ k.0))
]

pub read-torn : (text line : List ℕ) (b : ℕ) → line ++ b ∷ [] ≡ take_through 0x0A text → (b ≡ 0x0A → ⊥) → (has_line_feed text ≡ false) × (length text ≡ length line + 1)
read-torn text line b e other = elim (through-cases text) [
  | inl k ↦ absurd (other (snoc-same line k.line b 0x0A (e ∙ k.through)).1)
  | inr k ↦ (k.0, ap length (sym (e ∙ k.1)) ∙ length-append line (b ∷ []))
]

-- ---- lines

abbrev pub AreOneLine : List (List ℕ) → Type 0
AreOneLine = AllByRecursion (λ l. has_line_feed l ≡ false)

pub whole-lines : (lines : List (List ℕ)) → AreOneLine lines → journal_lines (lines_text lines) ≡ lines
whole-lines [] h = refl
whole-lines (line ∷ lines) h = ended-line [] line (lines_text lines) h.0 ∙ ap (λ ls. line ∷ ls) (whole-lines lines h.1)

pub none-torn : (lines : List (List ℕ)) → AreOneLine lines → line_torn [] (lines_text lines) ≡ []
none-torn [] h = refl
none-torn (line ∷ lines) h = torn-line [] line (lines_text lines) h.0 ∙ none-torn lines h.1

-- ---- cut off

take-within : (k : ℕ) (xs ys : List ℕ) → k ≤ length xs → take k (xs ++ ys) ≡ take k xs
take-within zero xs ys h = refl
take-within (suc k) [] ys h = absurd (omega arith)
take-within (suc k) (x ∷ xs) ys h = ap (λ l. x ∷ l) (take-within k xs ys (omega arith))

take-behind : (k : ℕ) (xs ys : List ℕ) → take (length xs + k) (xs ++ ys) ≡ xs ++ take k ys
take-behind k [] ys = let e : length {A = ℕ} [] + k ≡ k = omega arith in ap (λ n. take n ys) e
take-behind k (x ∷ xs) ys =
    let e : length (x ∷ xs) + k ≡ suc (length xs + k) = omega arith in
    rw e (ap (λ l. x ∷ l) (take-behind k xs ys))

take-free : (k : ℕ) (xs : List ℕ) → has_line_feed xs ≡ false → has_line_feed (take k xs) ≡ false
take-free zero xs h = refl
take-free (suc k) [] h = refl
take-free (suc k) (x ∷ xs) h =
    let parts = or_parts (x == 0x0A) (has_line_feed xs) h in
    ap₂ (λ a b. a || b) parts.0 (take-free k xs parts.1)

-- the whole lines of a beginning are the first ones: all that are whole in it
pub record IsCut (lines : List (List ℕ)) (count : ℕ) : Type 0 where
  pub kept : ℕ
  pub whole : journal_lines (take count (lines_text lines)) ≡ take kept lines
  pub all : (k : ℕ) → length (lines_text (take k lines)) ≤ count → k ≤ length lines → k ≤ kept

cut-within : (line : List ℕ) (lines : List (List ℕ)) (count : ℕ) → has_line_feed line ≡ false → count ≤ length line → IsCut (line ∷ lines) count
cut-within line lines count h few = record {
  kept = 0;
  whole = ap journal_lines (take-within count line (0x0A ∷ lines_text lines) few) ∙ no-line [] (take count line) (take-free count line h);
  all = λ k short within. first k short;
}
  where
    first : (k : ℕ) → length (lines_text (take k (line ∷ lines))) ≤ count → k ≤ 0
    first zero short = omega arith
    first (suc k) short = absurd (omega (arith, length-append line (0x0A ∷ lines_text (take k lines))))

cut-behind : (line : List ℕ) (lines : List (List ℕ)) (more : ℕ) → has_line_feed line ≡ false → IsCut lines more → IsCut (line ∷ lines) (length line + suc more)
cut-behind line lines more h rest = record {
  kept = suc rest.kept;
  whole = ap journal_lines (take-behind (suc more) line (0x0A ∷ lines_text lines)) ∙ ended-line [] line (take more (lines_text lines)) h ∙ ap (λ ls. line ∷ ls) rest.whole;
  all = λ k short within. next k short within;
}
  where
    next : (k : ℕ) → length (lines_text (take k (line ∷ lines))) ≤ length line + suc more → k ≤ length (line ∷ lines) → k ≤ suc rest.kept
    next zero short within = omega arith
    next (suc k) short within =
        let below = rest.all k (omega (arith, length-append line (0x0A ∷ lines_text (take k lines)))) (omega arith) in
        omega arith

pub cut-lines : (lines : List (List ℕ)) (count : ℕ) → AreOneLine lines → IsCut lines count
cut-lines [] count h = record { kept = 0; whole = nothing count; all = λ k short within. within }
  where
    nothing : (n : ℕ) → journal_lines (take n []) ≡ []
    nothing zero = refl
    nothing (suc n) = refl
cut-lines (line ∷ lines) count h = elim (cases_lt (length line) count) [
  | inr few ↦ cut-within line lines count h.0 few
  | inl many ↦
      let more = count - length line - 1 in
      let e : length line + suc more ≡ count = omega arith in
      subst (IsCut (line ∷ lines)) e (cut-behind line lines more h.0 (cut-lines lines more h.1))
]
