-- What is printed of a value is one line.
use Rattle.std.proofs.Common.{◌≡◌, ℕ, zero, suc, ◌+◌, ◌<◌, Bool, true, false, cond, not, ◌&&◌, ◌||◌, ◌==◌, List, [], ◌∷◌, ◌++◌, drop, Option, Some, None, option_and_then, inl, inr, refl, ap, ap₂, ◌∙◌, subst, arith}
use Rattle.std.proofs.lemmas.Bool.{and_parts, or_parts, or_cases, cases_eq, cases_lt, eqb-true, ne_eqb, leb-true, not-true}
use Rattle.std.specs.Prelude.{⊤}
use Rattle.std.specs.Char.{is_ascii_digit}
use Rattle.std.specs.List.{prefix_len}
use Rattle.json.specs.Lex.{tokens}
use Rattle.json.specs.Print.{ArePrintableOrBad, IsNumber, IsPrintableOrBad, ends, escape, escape_byte, print, print_from, quoted, separator, token_text}
use Rattle.json.specs.Token.{Token, begin_object, end_object, begin_array, end_array, key, string, number, boolean, null, bad}
use Rattle.json.specs.Word.{after_digits, after_exponent, after_fraction, after_minus, after_number, after_sign, after_whole, head}
use Rattle.json.proofs.Numbered.{ArePrintableOrBad-tokens}
use Rattle.json.proofs.Printed.Strings.{escape_byte_plain}
use Rattle.cpm_journal.specs.Lines.{has_line_feed}

pub feed-append : (xs ys : List ℕ) → has_line_feed xs ≡ false → has_line_feed ys ≡ false → has_line_feed (xs ++ ys) ≡ false
feed-append [] ys p q = q
feed-append (x ∷ xs) ys p q =
    let parts = or_parts (x == 10) (has_line_feed xs) p in
    ap₂ (λ a b. a || b) parts.0 (feed-append xs ys parts.1 q)

-- ---- strings

abbrev escapes_free : ℕ → Bool
escapes_free zero = true
escapes_free (suc n) = not (has_line_feed (escape_byte n)) && escapes_free n

escape_free : (n : ℕ) → escapes_free n ≡ true → (x : ℕ) → x < n → has_line_feed (escape_byte x) ≡ false
escape_free zero e x h = absurd (omega arith)
escape_free (suc n) e x h =
    let p = and_parts _ _ e in
    elim (cases_eq x n) [ inl same ↦ rw same (not-true _ p.0) | inr other ↦ escape_free n p.1 x (omega arith) ]

low_free : escapes_free 128 ≡ true
unfolding escape_byte
low_free = refl

byte-free : (x : ℕ) → has_line_feed (escape_byte x) ≡ false
byte-free x = elim (cases_lt x 128) [
  | inl small ↦ escape_free 128 low_free x small
  | inr big ↦ rw (escape_byte_plain x (λ e. omega arith) (λ e. omega arith) (omega arith)) (ap (λ b. b || false) (ne_eqb x 10 (λ e. omega arith)))
]

escape-free : (s : List ℕ) → has_line_feed (escape s) ≡ false
escape-free [] = refl
escape-free (x ∷ xs) = feed-append (escape_byte x) (escape xs) (byte-free x) (escape-free xs)

pub quoted-free : (s : List ℕ) → has_line_feed (quoted s) ≡ false
quoted-free s = feed-append (escape s) (34 ∷ []) (escape-free s) refl

-- ---- numbers: if what a part leaves has no line feed, nor has the whole

abbrev Clean : List ℕ → Option (List ℕ) → Type 0
Clean t None = ⊤
Clean t (Some r) = has_line_feed r ≡ false → has_line_feed t ≡ false

further : (t u : List ℕ) (o : Option (List ℕ)) → (has_line_feed u ≡ false → has_line_feed t ≡ false) → Clean u o → Clean t o
further t u None e h = tt
further t u (Some r) e h = λ k. e (h k)

either : (t : List ℕ) (b : Bool) (x y : Option (List ℕ)) → (b ≡ true → Clean t x) → Clean t y → Clean t (cond b x y)
either t true x y p q = p refl
either t false x y p q = q

one : (c : ℕ) (t : List ℕ) → (c == 10) ≡ false → (head t == c) ≡ true → has_line_feed (drop 1 t) ≡ false → has_line_feed t ≡ false
one c [] n e h = refl
one c (x ∷ xs) n e h = ap₂ (λ a b. a || b) (ap (λ y. y == 10) (eqb-true x c e) ∙ n) h

optional : (t : List ℕ) (b : Bool) → (b ≡ true → has_line_feed (drop 1 t) ≡ false → has_line_feed t ≡ false) → has_line_feed (cond b (drop 1 t) t) ≡ false → has_line_feed t ≡ false
optional t true f h = f refl h
optional t false f h = h

one_of : (a b : ℕ) (t : List ℕ) → (a == 10) ≡ false → (b == 10) ≡ false → ((head t == a) || (head t == b)) ≡ true → has_line_feed (drop 1 t) ≡ false → has_line_feed t ≡ false
one_of a b t p q e h = elim (or_cases _ _ e) [ inl f ↦ one a t p f h | inr f ↦ one b t q f h ]

digit_at : (d : Bool) (x : ℕ) (xs : List ℕ) (n : ℕ) → (d ≡ true → (x == 10) ≡ false) → (has_line_feed (drop n xs) ≡ false → has_line_feed xs ≡ false)
    → has_line_feed (drop (cond d (1 + n) 0) (x ∷ xs)) ≡ false → has_line_feed (x ∷ xs) ≡ false
digit_at false x xs n k more h = h
digit_at true x xs n k more h =
    let e : 1 + n ≡ suc n = omega arith in
    ap₂ (λ a b. a || b) (k refl) (more (subst (λ j. has_line_feed (drop j (x ∷ xs)) ≡ false) e h))

digit-free : (x : ℕ) → is_ascii_digit x ≡ true → (x == 10) ≡ false
digit-free x h = ne_eqb x 10 (λ e. omega (arith, leb-true 48 x (and_parts _ _ h).0))

digit_run : (t : List ℕ) → has_line_feed (drop (prefix_len is_ascii_digit t) t) ≡ false → has_line_feed t ≡ false
digit_run [] h = refl
digit_run (x ∷ xs) h = digit_at (is_ascii_digit x) x xs (prefix_len is_ascii_digit xs) (digit-free x) (digit_run xs) h

digits : (t : List ℕ) → Clean t (after_digits t)
digits t = either t (prefix_len is_ascii_digit t == 0) None _ (λ e. tt) (digit_run t)

then : (t : List ℕ) (f : List ℕ → Option (List ℕ)) → ((u : List ℕ) → Clean u (f u)) → (o : Option (List ℕ)) → Clean t o → Clean t (option_and_then f o)
then t f g None h = tt
then t f g (Some r) h = further t r (f r) h (g r)

whole : (t : List ℕ) → Clean t (after_whole t)
whole t = either t (head t == 48) (Some (drop 1 t)) _ (λ e. one 48 t refl e) (digits t)

fraction : (t : List ℕ) → Clean t (after_fraction t)
fraction t = either t (head t == 46) _ (Some t) (λ e. further t (drop 1 t) _ (one 46 t refl e) (digits (drop 1 t))) (λ h. h)

signed : (t : List ℕ) → Clean t (after_digits (after_sign t))
signed t = further t (after_sign t) _ (optional t _ (one_of 45 43 t refl refl)) (digits (after_sign t))

exponent : (t : List ℕ) → Clean t (after_exponent t)
exponent t =
    either t ((head t == 101) || (head t == 69)) _ (Some t) (λ e. further t (drop 1 t) _ (one_of 101 69 t refl refl e) (signed (drop 1 t))) (λ h. h)

clean-number : (t : List ℕ) → Clean t (after_number t)
unfolding after_number
clean-number t =
    then t after_exponent exponent _ (then t after_fraction fraction _
    (further t (after_minus t) _ (optional t (head t == 45) (one 45 t refl)) (whole (after_minus t))))

number-free : (s : List ℕ) → IsNumber s → has_line_feed s ≡ false
number-free s h = subst (Clean s) h (clean-number s) refl

-- ---- tokens

token-free : (t : Token) → IsPrintableOrBad t → has_line_feed (token_text t) ≡ false
token-free begin_object h = refl
token-free end_object h = refl
token-free begin_array h = refl
token-free end_array h = refl
token-free (key s) h = feed-append (quoted s) (58 ∷ []) (quoted-free s) refl
token-free (string s) h = quoted-free s
token-free (number s) h = number-free s h
token-free (boolean true) h = refl
token-free (boolean false) h = refl
token-free null h = refl
token-free bad h = refl

comma-free : (b : Bool) → has_line_feed (cond b (44 ∷ []) []) ≡ false
comma-free true = refl
comma-free false = refl

print-free : (c : Bool) (ts : List Token) → ArePrintableOrBad ts → has_line_feed (print_from c ts) ≡ false
unfolding print_from
print-free c [] h = refl
print-free c (t ∷ ts) h =
    feed-append (separator c t) _ (comma-free _) (feed-append (token_text t) (print_from (ends t) ts) (token-free t h.0) (print-free (ends t) ts h.1))

-- a text that is printed of its tokens is one line
pub printed-free : (s : List ℕ) → s ≡ print (tokens s) → has_line_feed s ≡ false
printed-free s e = ap has_line_feed e ∙ print-free false (tokens s) (ArePrintableOrBad-tokens s)
