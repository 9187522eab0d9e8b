-- What is written by a layout is read by it.
use Rattle.std.proofs.Common.{◌≡◌, ◌∙◌, ◌<◌, ◌≤◌, ◌+◌, ◌^◌, ℕ, zero, suc, Bool, true}
use Rattle.std.proofs.Common.{List, [], ◌∷◌, ◌++◌, Some, None, Ok, length, inl, inr, ap, arith, refl, sym, append_assoc, get_or, take, drop, length-append}
use Rattle.std.specs.Prelude.{◌⊎◌, ◌&&◌, Option, nat_le, nat_lt, if◌then◌else◌}
use Rattle.std.specs.Int.{from_le_bytes, to_le_bytes, w16, w64}
use Rattle.std.specs.List.{All}
use Rattle.std.proofs.lemmas.Bool.Decides.{nat_tests}
use Rattle.std.proofs.lemmas.List.{drop_at, take_at}
use Rattle.std.proofs.lemmas.List.Sums.{list_all-from_AllPass}
use Rattle.std.proofs.lemmas.Nat.{from_le_bytes-to_le_bytes_2, from_le_bytes-to_le_bytes_8}
use Rattle.cpm_saved.specs.Laws.{ValuesAreRead}
use Rattle.cpm_saved.specs.Layout.{Among, AreBelow, Below, Both, Either, IsOf, Layout, Long, Maybe, Read, Rest, Run, Times, Within}
use Rattle.cpm_saved.specs.Layout.{are_below, as_read, by_mark, coded, coded_all, damaged, decoded}
use Rattle.cpm_saved.specs.Layout.{first_byte, first_bytes, first_mark, front_byte, first_two_bytes, if_it, laid_out, pair_read, read_times, rest_at, then_read}
use Rattle.cpm_saved.specs.declared.part.SavingPart.{SavingPart}

-- ---- what is written is read

-- the place behind both is that behind the one and then the other
place : (at : ℕ) (xs ys : List ℕ) → at + length xs + length ys ≡ at + length (xs ++ ys)
place at xs ys = let all = length-append xs ys in omega (arith, all)

if_at : {A : Type 0} → (test : A → Bool) (field : SavingPart) (rest : Rest) (read : Read A) (p : A × Rest)
    → read ≡ Ok p → test p.0 ≡ true → if_it test field rest read ≡ Ok p
if_at {A} test field rest read p is holds =
    ap (if_it test field rest) is ∙ ap (λ (b : Bool). if◌then◌else◌ {A = Read A} b (Ok p) (damaged field rest)) holds

first_at : (field : SavingPart) (xs rest : List ℕ) (at n : ℕ) → length xs ≡ n → first_bytes field n (rest_at at (xs ++ rest)) ≡ Ok (xs, rest_at (at + n) rest)
first_at field xs rest at n long =
    let all = length-append xs rest in
    let within : n ≤ length (xs ++ rest) = omega (arith, all, long) in
    let test : nat_le n (length (xs ++ rest)) ≡ true = grind (arith, nat_tests) in
    let taken : Read (List ℕ) = Ok (take n (xs ++ rest), rest_at (at + n) (drop n (xs ++ rest))) in
    ap (λ (b : Bool). if b then taken else damaged field (rest_at at (xs ++ rest))) test
    ∙ ap (λ (ys : List ℕ). Ok (ys, rest_at (at + n) (drop n (xs ++ rest)))) (take_at xs rest n long)
    ∙ ap (λ (ys : List ℕ). Ok (xs, rest_at (at + n) ys)) (drop_at xs rest n long)

byte_at : (field : SavingPart) (b : ℕ) (rest : List ℕ) (at : ℕ) → first_byte field (rest_at at (b ∷ rest)) ≡ Ok (b, rest_at (at + 1) rest)
byte_at field b rest at = ap (as_read front_byte) (first_at field (b ∷ []) rest at 1 refl)

mark_at : (field : SavingPart) (b : ℕ) (rest : List ℕ) (at : ℕ) → b < 2 → first_mark field (rest_at at (b ∷ rest)) ≡ Ok (b, rest_at (at + 1) rest)
mark_at field b rest at low =
    let test : nat_lt b 2 ≡ true = grind (arith, nat_tests) in
    if_at (λ (m : ℕ). nat_lt m 2) field (rest_at at (b ∷ rest)) _ (b, rest_at (at + 1) rest) (byte_at field b rest at) test

word_at : (field : SavingPart) (n : ℕ) (rest : List ℕ) (at : ℕ) → n < 2 ^ 16
    → first_two_bytes field (rest_at at (to_le_bytes w16 n ++ rest)) ≡ Ok (n, rest_at (at + 2) rest)
word_at field n rest at small =
    ap (as_read (from_le_bytes w16)) (first_at field (to_le_bytes w16 n) rest at 2 refl)
    ∙ ap (λ (m : ℕ). Ok (m, rest_at (at + 2) rest)) (from_le_bytes-to_le_bytes_2 n small)

long_at : (field : SavingPart) (n : ℕ) (rest : List ℕ) (at : ℕ) → n < 2 ^ 64
    → decoded (Long field) (rest_at at (to_le_bytes w64 n ++ rest)) ≡ Ok (n, rest_at (at + 8) rest)
long_at field n rest at small =
    ap (as_read (from_le_bytes w64)) (first_at field (to_le_bytes w64 n) rest at 8 refl)
    ∙ ap (λ (m : ℕ). Ok (m, rest_at (at + 8) rest)) (from_le_bytes-to_le_bytes_8 n small)

all_below : (limit : ℕ) (bytes : List ℕ) → AreBelow limit bytes → are_below limit bytes ≡ true
all_below limit bytes all =
    list_all-from_AllPass (λ (b : ℕ). nat_lt b limit) bytes (λ (k d : ℕ) within.
    let low : get_or bytes k d < limit = all k d within in grind (arith, nat_tests))

run_at : (field : SavingPart) (most limit : ℕ) (bytes rest : List ℕ) (at : ℕ) → length bytes ≤ most → length bytes < 2 ^ 16 → AreBelow limit bytes
    → decoded (Run field most limit) (rest_at at ((to_le_bytes w16 (length bytes) ++ bytes) ++ rest))
    ≡ Ok (bytes, rest_at (at + length (to_le_bytes w16 (length bytes) ++ bytes)) rest)
run_at field most limit bytes rest at few small low =
    let count = to_le_bytes w16 (length bytes) in
    let few_test : nat_le (length bytes) most ≡ true = grind (arith, nat_tests) in
    let whole = rest_at at (count ++ (bytes ++ rest)) in
    let behind = rest_at (at + 2) (bytes ++ rest) in
    let word = word_at field (length bytes) (bytes ++ rest) at small in
    let counted = if_at (λ (n : ℕ). nat_le n most) field whole _ (length bytes, behind) word few_test in
    let read = ap (then_read (λ (p : ℕ × Rest). first_bytes field p.0 p.1)) counted ∙ first_at field bytes rest (at + 2) (length bytes) refl in
    ap (λ (ys : List ℕ). decoded (Run field most limit) (rest_at at ys)) (append_assoc count bytes rest)
    ∙ if_at (are_below limit) field whole _ (bytes, rest_at (at + 2 + length bytes) rest) read (all_below limit bytes low)
    ∙ ap (λ (n : ℕ). Ok (bytes, rest_at n rest)) (place at count bytes)

times_at : {A : Type 0} → (read : Rest → Read A) (code : A → List ℕ) (of : A → Type 0)
    → ((v : A) (at : ℕ) (rest : List ℕ) → of v → read (rest_at at (code v ++ rest)) ≡ Ok (v, rest_at (at + length (code v)) rest))
    → (count : ℕ) (vs : List A) (at : ℕ) (rest : List ℕ) → length vs ≡ count → All of vs
    → read_times count read (rest_at at (coded_all code vs ++ rest)) ≡ Ok (vs, rest_at (at + length (coded_all code vs)) rest)
times_at {A} read code of one zero [] at rest long all = let same : at ≡ at + 0 = omega arith in ap (λ (n : ℕ). Ok ([], rest_at n rest)) same
times_at {A} read code of one zero (v ∷ vs) at rest long all = absurd (omega (arith, long))
times_at {A} read code of one (suc count) [] at rest long all = absurd (omega (arith, long))
times_at {A} read code of one (suc count) (v ∷ vs) at rest long all =
    let others : All of vs = λ (k : ℕ) (d : A) within. all (suc k) d (omega (arith, within)) in
    let few : length vs ≡ count = omega (arith, long) in
    let both = λ (p : A × Rest). as_read (λ (ws : List A). p.0 ∷ ws) (read_times count read p.1) in
    ap (λ (ys : List ℕ). then_read both (read (rest_at at ys))) (append_assoc (code v) (coded_all code vs) rest)
    ∙ ap (then_read both) (one v at (coded_all code vs ++ rest) (all 0 v (omega arith)))
    ∙ ap (as_read (λ (ws : List A). v ∷ ws)) (times_at read code of one count vs (at + length (code v)) rest few others)
    ∙ ap (λ (n : ℕ). Ok (v ∷ vs, rest_at n rest)) (place at (code v) (coded_all code vs))

marked_at : {A : Type 0} → (field : SavingPart) (zero_read one_read : Rest → Read A) (b : ℕ) (rest : List ℕ) (at : ℕ) → b < 2
    → then_read (by_mark zero_read one_read) (first_mark field (rest_at at (b ∷ rest))) ≡ by_mark zero_read one_read (b, rest_at (at + 1) rest)
marked_at {A} field zero_read one_read b rest at low = ap (then_read (by_mark zero_read one_read)) (mark_at field b rest at low)

abbrev none_read : (f : Layout) → Rest → Read (Option (laid_out f))
none_read f r = Ok (None, r)

abbrev some_read : (f : Layout) → Rest → Read (Option (laid_out f))
some_read f r = as_read (λ (v : laid_out f). Some v) (decoded f r)

abbrev left_read : (f g : Layout) → Rest → Read (laid_out f ⊎ laid_out g)
left_read f g r = as_read (λ (v : laid_out f). inl v) (decoded f r)

abbrev right_read : (f g : Layout) → Rest → Read (laid_out f ⊎ laid_out g)
right_read f g r = as_read (λ (v : laid_out g). inr v) (decoded g r)

pub values_read : ValuesAreRead
values_read (Below field limit) n at rest of =
    let test : nat_lt n limit ≡ true = grind (arith, nat_tests) in
    if_at (λ (b : ℕ). nat_lt b limit) field (rest_at at (n ∷ rest)) _ (n, rest_at (at + 1) rest) (byte_at field n rest at) test
values_read (Within field least most) n at rest of =
    let low : least ≤ n = of.0 in
    let high : n ≤ most = of.1 in
    let test : (nat_le least n && nat_le n most) ≡ true = grind (arith, nat_tests) in
    let word = word_at field n rest at of.2 in
    if_at (λ (m : ℕ). nat_le least m && nat_le m most) field (rest_at at (to_le_bytes w16 n ++ rest)) _ (n, rest_at (at + 2) rest) word test
values_read (Long field) n at rest of = long_at field n rest at of
values_read (Among field count test) bytes at rest of =
    if_at test field (rest_at at (bytes ++ rest)) _ (bytes, rest_at (at + count) rest) (first_at field bytes rest at count of.0) of.1
    ∙ ap (λ (n : ℕ). Ok (bytes, rest_at (at + n) rest)) (sym of.0)
values_read (Run field most limit) bytes at rest of = run_at field most limit bytes rest at of.0 of.1 of.2
values_read (Both f g) v at rest of =
    let a = coded f v.0 in
    let b = coded g v.1 in
    ap (λ (ys : List ℕ). then_read (pair_read {A = laid_out f} (decoded g)) (decoded f (rest_at at ys))) (append_assoc a b rest)
    ∙ ap (then_read (pair_read {A = laid_out f} (decoded g))) (values_read f v.0 at (b ++ rest) of.0)
    ∙ ap (as_read (λ (w : laid_out g). (v.0, w))) (values_read g v.1 (at + length a) rest of.1)
    ∙ ap (λ (n : ℕ). Ok (v, rest_at n rest)) (place at a b)
values_read (Maybe field f) None at rest of = marked_at field (none_read f) (some_read f) 0 rest at (omega arith)
values_read (Maybe field f) (Some v) at rest of =
    marked_at field (none_read f) (some_read f) 1 (coded f v ++ rest) at (omega arith)
    ∙ ap (as_read (λ (w : laid_out f). Some w)) (values_read f v (at + 1) rest of)
    ∙ ap (λ (n : ℕ). Ok (Some v, rest_at n rest)) (place at (1 ∷ []) (coded f v))
values_read (Either field f g) (inl v) at rest of =
    marked_at field (left_read f g) (right_read f g) 0 (coded f v ++ rest) at (omega arith)
    ∙ ap (as_read (λ (w : laid_out f). inl w)) (values_read f v (at + 1) rest of)
    ∙ ap (λ (n : ℕ). Ok (inl v, rest_at n rest)) (place at (0 ∷ []) (coded f v))
values_read (Either field f g) (inr v) at rest of =
    marked_at field (left_read f g) (right_read f g) 1 (coded g v ++ rest) at (omega arith)
    ∙ ap (as_read (λ (w : laid_out g). inr w)) (values_read g v (at + 1) rest of)
    ∙ ap (λ (n : ℕ). Ok (inr v, rest_at n rest)) (place at (1 ∷ []) (coded g v))
values_read (Times count f) vs at rest of = times_at (decoded f) (coded f) (IsOf f) (values_read f) count vs at rest of.0 of.1
