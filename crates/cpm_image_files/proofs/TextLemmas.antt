-- Texts, a byte on and at their end.
use Rattle.std.proofs.Common.{◌≡◌, ◌≢◌, ℕ, zero, suc, ◌+◌, ◌<◌, ◌≤◌, true, false, cond, not, ◌&&◌, eqb, List, [], ◌∷◌, ◌++◌, length, replicate, get_or, drop, sym, refl, ap, ◌∙◌, inl, inr, arith}
use Rattle.std.specs.List.{list_any}
use Rattle.std.proofs.lemmas.List.{at_drop_more, at_drop_all, append_assoc, append-nil}
use Rattle.std.proofs.lemmas.Bool.{eq-eqb, ne_eqb, cases_eq, false≢true}
use Rattle.cpm_image_files.specs.Texts.{text_behind, from_text, begins_with_line_feed, is_control, TextLaw}

-- ---- a line feed that is next

pub next_there : (bs : List ℕ) (n : ℕ) → n < length bs → begins_with_line_feed (drop n bs) ≡ eqb (get_or bs n 0) 10
unfolding begins_with_line_feed
next_there bs n h = at_drop_more begins_with_line_feed bs n 0 h

pub next_none : (bs : List ℕ) (n : ℕ) → length bs ≤ n → begins_with_line_feed (drop n bs) ≡ false
unfolding begins_with_line_feed
next_none bs n h = at_drop_all begins_with_line_feed bs n h

-- ---- what is left of a text, one byte on

behind_more : (bs : List ℕ) (i previous : ℕ) → i < length bs → text_behind previous (drop i bs) ≡ cond (eqb (get_or bs i 0) 10 && not (eqb previous 13)) (13 ∷ 10 ∷ text_behind (get_or bs i 0) (drop (i + 1) bs)) (get_or bs i 0 ∷ text_behind (get_or bs i 0) (drop (i + 1) bs))
unfolding text_behind
behind_more bs i previous h = at_drop_more (text_behind previous) bs i 0 h

pub behind_end : (bs : List ℕ) (i previous : ℕ) → length bs ≤ i → text_behind previous (drop i bs) ≡ []
unfolding text_behind
behind_end bs i previous h = at_drop_all (text_behind previous) bs i h

pub line_more : (bs : List ℕ) (i previous : ℕ) → i < length bs → get_or bs i 0 ≡ 10 → previous ≢ 13 → text_behind previous (drop i bs) ≡ 13 ∷ get_or bs i 0 ∷ text_behind (get_or bs i 0) (drop (i + 1) bs)
line_more bs i previous h feed other =
    behind_more bs i previous h ∙ rw (feed, ne_eqb previous 13 other) refl

pub byte_more : (bs : List ℕ) (i previous : ℕ) → i < length bs → (eqb (get_or bs i 0) 10 && not (eqb previous 13)) ≡ false → text_behind previous (drop i bs) ≡ get_or bs i 0 ∷ text_behind (get_or bs i 0) (drop (i + 1) bs)
byte_more bs i previous h plain = behind_more bs i previous h ∙ rw plain refl

from_more : (bs : List ℕ) (i : ℕ) → i < length bs → from_text (drop i bs) ≡ cond (eqb (get_or bs i 0) 26) [] (cond (eqb (get_or bs i 0) 13 && begins_with_line_feed (drop (i + 1) bs)) (from_text (drop (i + 1) bs)) (get_or bs i 0 ∷ from_text (drop (i + 1) bs)))
unfolding from_text
from_more bs i h = at_drop_more from_text bs i 0 h

pub from_end : (bs : List ℕ) (i : ℕ) → length bs ≤ i → from_text (drop i bs) ≡ []
unfolding from_text
from_end bs i h = at_drop_all from_text bs i h

pub from_stop : (bs : List ℕ) (i : ℕ) → i < length bs → get_or bs i 0 ≡ 26 → from_text (drop i bs) ≡ []
from_stop bs i h stop = from_more bs i h ∙ rw stop refl

pub from_line : (bs : List ℕ) (i : ℕ) → i < length bs → get_or bs i 0 ≢ 26 → (eqb (get_or bs i 0) 13 && begins_with_line_feed (drop (i + 1) bs)) ≡ true → from_text (drop i bs) ≡ from_text (drop (i + 1) bs)
from_line bs i h other line = from_more bs i h ∙ rw (ne_eqb (get_or bs i 0) 26 other, line) refl

pub from_byte : (bs : List ℕ) (i : ℕ) → i < length bs → get_or bs i 0 ≢ 26 → (eqb (get_or bs i 0) 13 && begins_with_line_feed (drop (i + 1) bs)) ≡ false → from_text (drop i bs) ≡ get_or bs i 0 ∷ from_text (drop (i + 1) bs)
from_byte bs i h other plain = from_more bs i h ∙ rw (ne_eqb (get_or bs i 0) 26 other, plain) refl

-- ---- there and back

only_fillers : (n : ℕ) → from_text (replicate n 26) ≡ []
unfolding from_text
only_fillers zero = refl
only_fillers (suc n) = refl

not_control : (b : ℕ) (bs : List ℕ) → list_any is_control (b ∷ bs) ≡ false → (b ≢ 13) × (b ≢ 26) × (list_any is_control bs ≡ false)
not_control b bs h =
    elim (cases_eq b 13) [
      | inl cr ↦ absurd (false≢true (sym h ∙ rw (eq-eqb b 13 cr) refl))
      | inr other ↦ elim (cases_eq b 26) [
        | inl stop ↦ absurd (false≢true (sym h ∙ rw (ne_eqb b 13 other, eq-eqb b 26 stop) refl))
        | inr plain ↦ (other, plain, sym (rw (ne_eqb b 13 other, ne_eqb b 26 plain) refl) ∙ h)
      ]
    ]

from_plain : (b : ℕ) (bs : List ℕ) → b ≢ 13 → b ≢ 26 → from_text (b ∷ bs) ≡ b ∷ from_text bs
unfolding from_text
from_plain b bs other plain = rw (ne_eqb b 26 plain, ne_eqb b 13 other) refl

from_pair : (bs : List ℕ) → from_text (13 ∷ 10 ∷ bs) ≡ 10 ∷ from_text bs
unfolding from_text begins_with_line_feed
from_pair bs = refl

behind_line : (previous : ℕ) (bs : List ℕ) → previous ≢ 13 → text_behind previous (10 ∷ bs) ≡ 13 ∷ 10 ∷ text_behind 10 bs
unfolding text_behind
behind_line previous bs other = rw (ne_eqb previous 13 other) refl

behind_plain : (previous b : ℕ) (bs : List ℕ) → b ≢ 10 → text_behind previous (b ∷ bs) ≡ b ∷ text_behind b bs
unfolding text_behind
behind_plain previous b bs other = rw (ne_eqb b 10 other) refl

behind_none : (previous : ℕ) → text_behind previous [] ≡ []
unfolding text_behind
behind_none previous = refl

comes_back : (previous n : ℕ) (bs : List ℕ) → previous ≢ 13 → list_any is_control bs ≡ false → from_text (text_behind previous bs ++ replicate n 26) ≡ bs
comes_back previous n [] other plain = rw (behind_none previous) (only_fillers n)
comes_back previous n (b ∷ bs) other plain =
    let parts = not_control b bs plain in
    elim (cases_eq b 10) [
      | inl feed ↦
          let step : from_text (text_behind previous (10 ∷ bs) ++ replicate n 26) ≡ 10 ∷ bs = rw (behind_line previous bs other) (from_pair (text_behind 10 bs ++ replicate n 26) ∙ ap (λ (rest : List ℕ). 10 ∷ rest) (comes_back 10 n bs (omega arith) parts.2)) in
          rw feed step
      | inr char ↦ rw (behind_plain previous b bs char) (from_plain b (text_behind b bs ++ replicate n 26) parts.0 parts.1 ∙ ap (λ (rest : List ℕ). b ∷ rest) (comes_back b n bs parts.0 parts.2))
    ]

pub texts_come_back : TextLaw
texts_come_back bytes fillers plain = comes_back 0 fillers bytes (omega arith) plain

-- ---- what a loop has written, and what is left

pub more_written : (text text' rest rest' whole : List ℕ) (b : ℕ) → text ++ rest ≡ whole → text' ≡ text ++ b ∷ [] → rest ≡ b ∷ rest' → text' ++ rest' ≡ whole
more_written text text' rest rest' whole b h is next =
    rw is (append_assoc text (b ∷ []) rest' ∙ (ap (λ (r : List ℕ). text ++ r) (sym next) ∙ h))

pub same_written : (text rest rest' whole : List ℕ) → text ++ rest ≡ whole → rest ≡ rest' → text ++ rest' ≡ whole
same_written text rest rest' whole h next = ap (λ (r : List ℕ). text ++ r) (sym next) ∙ h

pub all_written : (text rest whole : List ℕ) → text ++ rest ≡ whole → rest ≡ [] → text ≡ whole
all_written text rest whole h none = sym (append-nil text) ∙ (ap (λ (r : List ℕ). text ++ r) (sym none) ∙ h)
