-- What is read by a layout is just what it writes.
use Rattle.std.proofs.Common.{◌≡◌, ◌∙◌, ◌<◌, ◌≤◌, ◌+◌, ◌*◌, ◌^◌, ℕ, zero, suc, Bool, true, false}
use Rattle.std.proofs.Common.{List, [], ◌∷◌, ◌++◌, Some, None, Ok, Err, length, inl, inr, ap, arith, refl, subst, sym, append_assoc, get_or, take, drop}
use Rattle.std.specs.Prelude.{◌⊎◌, ◌==◌, ◌&&◌, Option, nat_le, nat_lt, if◌then◌else◌}
use Rattle.std.specs.Int.{from_le_bytes, to_le_bytes, w16, w64}
use Rattle.std.specs.List.{All}
use Rattle.std.proofs.lemmas.Bool.Decides.{nat_tests}
use Rattle.std.proofs.lemmas.List.{drop_at, length-take-le, take-append-drop, take_at}
use Rattle.std.proofs.lemmas.List.Elements.{All-cons, All-drop, All-nil, All-take}
use Rattle.std.proofs.lemmas.List.Sums.{AllPass-from_list_all}
use Rattle.std.proofs.lemmas.Nat.{le_bytes_2, le_bytes_8}
use Rattle.cpm_saved.specs.Laws.{ReadValuesAreWritten}
use Rattle.cpm_saved.specs.Layout.{Among, AreBelow, Below, Both, Either, IsOf, Layout, Long, Maybe, Read, Rest, Run, Times, Within}
use Rattle.cpm_saved.specs.Layout.{are_below, as_read, by_mark, coded, coded_all, damaged, decoded}
use Rattle.cpm_saved.specs.Layout.{first_byte, first_bytes, first_mark, front_byte, first_two_bytes, if_it, laid_out, pair_read, read_times, rest_at, then_read}
use Rattle.cpm_saved.specs.declared.part.SavingPart.{SavingPart}

-- the bytes of a rest are just those of a value, and what is behind them
abbrev IsWritten : (f : Layout) → laid_out f → Rest → Rest → Type 0
IsWritten f v rest behind = (rest.bytes ≡ coded f v ++ behind.bytes) × IsOf f v

-- ---- what was read

as_ok : {A B : Type 0} → (make : A → B) (read : Read A) (b : B) (behind : Rest)
    → as_read make read ≡ Ok (b, behind) → (a : A) × (read ≡ Ok (a, behind)) × (make a ≡ b)
as_ok {A} {B} make (Err damage) b behind e = absurd (cc)
as_ok {A} {B} make (Ok p) b behind e =
    let one : B × Rest = (make p.0, p.1) in
    let two : B × Rest = (b, behind) in
    let q : one ≡ two = cc in
    let rest : p.1 ≡ behind = ap (λ (r : B × Rest). r.1) q in
    (p.0, ap (λ (r : Rest). Ok (p.0, r)) rest, ap (λ (r : B × Rest). r.0) q)

then_ok : {A B : Type 0} → (next : A × Rest → Read B) (read : Read A) (q : B × Rest)
    → then_read next read ≡ Ok q → (p : A × Rest) × (read ≡ Ok p) × (next p ≡ Ok q)
then_ok {A} {B} next (Err damage) q e = absurd (cc)
then_ok {A} {B} next (Ok p) q e = (p, refl, e)

if_true : {A : Type 0} → (read : Read A) (field : SavingPart) (rest : Rest) (p : A × Rest) (test : Bool)
    → if◌then◌else◌ {A = Read A} test read (damaged field rest) ≡ Ok p → (read ≡ Ok p) × (test ≡ true)
if_true {A} read field rest p true e = (e, refl)
if_true {A} read field rest p false e = absurd (cc)

if_ok : {A : Type 0} → (test : A → Bool) (field : SavingPart) (rest : Rest) (read : Read A) (p : A × Rest)
    → if_it test field rest read ≡ Ok p → (read ≡ Ok p) × (test p.0 ≡ true)
if_ok {A} test field rest (Err damage) p e = absurd (cc)
if_ok {A} test field rest (Ok q) p e =
    let w = if_true (Ok q) field rest p (test q.0) e in
    let same : q ≡ p = let is : Ok q ≡ Ok p = w.0 in cc in
    (w.0, ap (λ (r : A × Rest). test r.0) (sym same) ∙ w.1)

-- ---- bytes

front_bytes : (bytes xs rest : List ℕ) → bytes ≡ xs ++ rest → AreBelow 256 bytes → AreBelow 256 xs
front_bytes bytes xs rest is all =
    subst (AreBelow 256) (take_at xs rest (length xs) refl) (All-take (λ (b : ℕ). b < 256) (length xs) (xs ++ rest) (subst (AreBelow 256) is all))

back_bytes : (bytes xs rest : List ℕ) → bytes ≡ xs ++ rest → AreBelow 256 bytes → AreBelow 256 rest
back_bytes bytes xs rest is all =
    subst (AreBelow 256) (drop_at xs rest (length xs) refl) (All-drop (λ (b : ℕ). b < 256) (length xs) (xs ++ rest) (subst (AreBelow 256) is all))

below_256 : (bytes : List ℕ) → AreBelow 256 bytes → (i : ℕ) → get_or bytes i 0 < 256
below_256 [] all i = omega arith
below_256 (b ∷ bs) all zero = all 0 0 (omega arith)
below_256 (b ∷ bs) all (suc i) = below_256 bs (λ (k : ℕ) (d : ℕ) within. all (suc k) d (omega (arith, within))) i

from_test : (limit : ℕ) (bytes : List ℕ) → are_below limit bytes ≡ true → AreBelow limit bytes
from_test limit bytes e k d within =
    let test : nat_lt (get_or bytes k d) limit ≡ true = AllPass-from_list_all (λ (b : ℕ). nat_lt b limit) bytes e k d within in
    grind (arith, nat_tests)

-- ---- what is read is written

first_written : (field : SavingPart) (n : ℕ) (rest : Rest) (xs : List ℕ) (behind : Rest)
    → first_bytes field n rest ≡ Ok (xs, behind) → (rest.bytes ≡ xs ++ behind.bytes) × (length xs ≡ n)
first_written field n rest xs behind e =
    let one : List ℕ × Rest = (take n rest.bytes, rest_at (rest.at + n) (drop n rest.bytes)) in
    let two : List ℕ × Rest = (xs, behind) in
    let w = if_true {A = List ℕ} (Ok one) field rest two (nat_le n (length rest.bytes)) e in
    let is : Ok one ≡ Ok two = w.0 in
    let test : nat_le n (length rest.bytes) ≡ true = w.1 in
    let within : n ≤ length rest.bytes = grind (arith, nat_tests) in
    let p : one ≡ two = cc in
    let first : take n rest.bytes ≡ xs = ap (λ (q : List ℕ × Rest). q.0) p in
    let second : drop n rest.bytes ≡ behind.bytes = ap (λ (q : List ℕ × Rest). q.1.bytes) p in (
      sym (take-append-drop n rest.bytes) ∙ ap (λ (ys : List ℕ). ys ++ drop n rest.bytes) first ∙ ap (λ (ys : List ℕ). xs ++ ys) second,
      ap (λ (ys : List ℕ). length ys) (sym first) ∙ length-take-le n rest.bytes within,
    )

one_byte : (xs : List ℕ) → length xs ≡ 1 → xs ≡ front_byte xs ∷ []
one_byte [] long = absurd (omega (arith, long))
one_byte (b ∷ []) long = refl
one_byte (b ∷ c ∷ bs) long = absurd (omega (arith, long))

byte_written : (field : SavingPart) (rest : Rest) (b : ℕ) (behind : Rest) → first_byte field rest ≡ Ok (b, behind) → rest.bytes ≡ b ∷ behind.bytes
byte_written field rest b behind e =
    let x = as_ok front_byte (first_bytes field 1 rest) b behind e in
    let w = first_written field 1 rest x.0 behind x.1 in
    w.0 ∙ ap (λ (ys : List ℕ). ys ++ behind.bytes) (one_byte x.0 w.1) ∙ ap (λ (c : ℕ). c ∷ behind.bytes) x.2

below_written : (field : SavingPart) (limit : ℕ) (rest : Rest) (b : ℕ) (behind : Rest) → decoded (Below field limit) rest ≡ Ok (b, behind)
    → IsWritten (Below field limit) b rest behind
below_written field limit rest b behind e =
    let x = if_ok (λ (c : ℕ). nat_lt c limit) field rest (first_byte field rest) (b, behind) e in
    let test : nat_lt b limit ≡ true = x.1 in
    let low : b < limit = grind (arith, nat_tests) in
    (byte_written field rest b behind x.0, low)

word_written : (field : SavingPart) (rest : Rest) (n : ℕ) (behind : Rest) → AreBelow 256 rest.bytes
    → first_two_bytes field rest ≡ Ok (n, behind) → (rest.bytes ≡ to_le_bytes w16 n ++ behind.bytes) × (n < 2 ^ 16)
word_written field rest n behind all e =
    let x = as_ok (from_le_bytes w16) (first_bytes field 2 rest) n behind e in
    let bytes = x.0 in
    let w = first_written field 2 rest bytes behind x.1 in
    let value : n ≡ from_le_bytes w16 bytes = sym x.2 in
    let small = below_256 bytes (front_bytes rest.bytes bytes behind.bytes w.0 all) in
    let same : to_le_bytes w16 n ≡ bytes = le_bytes_2 bytes n w.1 small value in
    let sum : n ≡ get_or bytes 0 0 + get_or bytes 1 0 * 256 = value in
    let a = small 0 in
    let b = small 1 in
    (w.0 ∙ ap (λ (ys : List ℕ). ys ++ behind.bytes) (sym same), omega (arith, sum, a, b))

long_written : (field : SavingPart) (rest : Rest) (n : ℕ) (behind : Rest) → AreBelow 256 rest.bytes
    → decoded (Long field) rest ≡ Ok (n, behind) → IsWritten (Long field) n rest behind
long_written field rest n behind all e =
    let x = as_ok (from_le_bytes w64) (first_bytes field 8 rest) n behind e in
    let bytes = x.0 in
    let w = first_written field 8 rest bytes behind x.1 in
    let value : n ≡ from_le_bytes w64 bytes = sym x.2 in
    let small = below_256 bytes (front_bytes rest.bytes bytes behind.bytes w.0 all) in
    let same : to_le_bytes w64 n ≡ bytes = le_bytes_8 bytes n w.1 small value in
    let sum : n ≡ get_or bytes 0 0 + get_or bytes 1 0 * 0x100 + get_or bytes 2 0 * 0x10000 + get_or bytes 3 0 * 0x1000000 + get_or bytes 4 0 * 0x100000000
    + get_or bytes 5 0 * 0x10000000000 + get_or bytes 6 0 * 0x1000000000000 + get_or bytes 7 0 * 0x100000000000000 = value in
    let b0 = small 0 in
    let b1 = small 1 in
    let b2 = small 2 in
    let b3 = small 3 in
    let b4 = small 4 in
    let b5 = small 5 in
    let b6 = small 6 in
    let b7 = small 7 in
    (w.0 ∙ ap (λ (ys : List ℕ). ys ++ behind.bytes) (sym same), omega (arith, sum, b0, b1, b2, b3, b4, b5, b6, b7))

run_written : (field : SavingPart) (most limit : ℕ) (rest : Rest) (xs : List ℕ) (behind : Rest) → AreBelow 256 rest.bytes
    → decoded (Run field most limit) rest ≡ Ok (xs, behind) → IsWritten (Run field most limit) xs rest behind
run_written field most limit rest xs behind all e =
    let counted = if_it (λ (n : ℕ). nat_le n most) field rest (first_two_bytes field rest) in
    let next = λ (p : ℕ × Rest). first_bytes field p.0 p.1 in
    let x = if_ok (are_below limit) field rest (then_read next counted) (xs, behind) e in
    let y = then_ok next counted (xs, behind) x.0 in
    let p = y.0 in
    let z = if_ok (λ (n : ℕ). nat_le n most) field rest (first_two_bytes field rest) p y.1 in
    let count = word_written field rest p.0 p.1 all z.0 in
    let w = first_written field p.0 p.1 xs behind y.2 in
    let long : length xs ≡ p.0 = w.1 in
    let small : p.0 < 2 ^ 16 = count.1 in
    let test : nat_le p.0 most ≡ true = z.1 in
    let few : p.0 ≤ most = grind (arith, nat_tests) in (
      count.0 ∙ ap (λ (ys : List ℕ). to_le_bytes w16 p.0 ++ ys) w.0 ∙ ap (λ (n : ℕ). to_le_bytes w16 n ++ (xs ++ behind.bytes)) (sym long)
          ∙ sym (append_assoc (to_le_bytes w16 (length xs)) xs behind.bytes),
      (omega (arith, long, few), omega (arith, long, small), from_test limit xs x.1),
    )

-- by the mark
marked : {A : Type 0} → (field : SavingPart) (zero_read one_read : Rest → Read A) (rest : Rest) (q : A × Rest)
    → then_read (by_mark zero_read one_read) (first_mark field rest) ≡ Ok q
    → (after : Rest) × (((rest.bytes ≡ 0 ∷ after.bytes) × (zero_read after ≡ Ok q)) ⊎ ((rest.bytes ≡ 1 ∷ after.bytes) × (one_read after ≡ Ok q)))
marked {A} field zero_read one_read rest q e =
    let x = then_ok (by_mark zero_read one_read) (first_mark field rest) q e in
    let p = x.0 in
    let w = below_written field 2 rest p.0 p.1 x.1 in
    (p.1, by_zero p.0 p.1 w.0 w.1 (p.0 == 0) refl x.2)
  where
    by_zero : (b : ℕ) (after : Rest) → rest.bytes ≡ b ∷ after.bytes → b < 2 → (t : Bool) → (b == 0) ≡ t
        → if◌then◌else◌ {A = Read A} t (zero_read after) (one_read after) ≡ Ok q
        → ((rest.bytes ≡ 0 ∷ after.bytes) × (zero_read after ≡ Ok q)) ⊎ ((rest.bytes ≡ 1 ∷ after.bytes) × (one_read after ≡ Ok q))
    by_zero b after is low true test e = let mark : b ≡ 0 = grind (arith, nat_tests) in inl (is ∙ ap (λ (c : ℕ). c ∷ after.bytes) mark, e)
    by_zero b after is low false test e = let mark : b ≡ 1 = grind (arith, nat_tests) in inr (is ∙ ap (λ (c : ℕ). c ∷ after.bytes) mark, e)

times_written : {A : Type 0} → (read : Rest → Read A) (code : A → List ℕ) (of : A → Type 0)
    → ((v : A) (rest behind : Rest) → AreBelow 256 rest.bytes → read rest ≡ Ok (v, behind) → (rest.bytes ≡ code v ++ behind.bytes) × of v)
    → (count : ℕ) (vs : List A) (rest behind : Rest) → AreBelow 256 rest.bytes → read_times count read rest ≡ Ok (vs, behind)
    → (rest.bytes ≡ coded_all code vs ++ behind.bytes) × (length vs ≡ count) × All of vs
times_written {A} read code of one zero vs rest behind all e =
    let left : List A × Rest = ([], rest) in
    let right : List A × Rest = (vs, behind) in
    let p : left ≡ right = cc in
    let none : [] ≡ vs = ap (λ (q : List A × Rest). q.0) p in
    let same : rest.bytes ≡ behind.bytes = ap (λ (q : List A × Rest). q.1.bytes) p in
    subst (λ (ws : List A). (rest.bytes ≡ coded_all code ws ++ behind.bytes) × (length ws ≡ 0) × All of ws) none (same, refl, All-nil of)
times_written {A} read code of one (suc count) vs rest behind all e =
    let x = then_ok (λ (p : A × Rest). as_read (λ (ws : List A). p.0 ∷ ws) (read_times count read p.1)) (read rest) (vs, behind) e in
    let v = x.0.0 in
    let after = x.0.1 in
    let first = one v rest after all x.1 in
    let y = as_ok (λ (ws : List A). v ∷ ws) (read_times count read after) vs behind x.2 in
    let ws = y.0 in
    let others = times_written read code of one count ws after behind (back_bytes rest.bytes (code v) after.bytes first.0 all) y.1 in
    let long : length ws ≡ count = others.1 in
    subst (λ (us : List A). (rest.bytes ≡ coded_all code us ++ behind.bytes) × (length us ≡ suc count) × All of us) y.2 (
      first.0 ∙ ap (λ (ys : List ℕ). code v ++ ys) others.0 ∙ sym (append_assoc (code v) (coded_all code ws) behind.bytes),
      ap suc long,
      All-cons of v ws first.1 others.2,
    )

abbrev to_left : (f g : Layout) → laid_out f → laid_out f ⊎ laid_out g
to_left f g v = inl v

abbrev to_right : (f g : Layout) → laid_out g → laid_out f ⊎ laid_out g
to_right f g v = inr v

rest_written : (f : Layout) (v : laid_out f) (rest behind : Rest) → AreBelow 256 rest.bytes → decoded f rest ≡ Ok (v, behind) → IsWritten f v rest behind
rest_written (Below field limit) n rest behind all e = below_written field limit rest n behind e
rest_written (Within field least most) n rest behind all e =
    let x = if_ok (λ (m : ℕ). nat_le least m && nat_le m most) field rest (first_two_bytes field rest) (n, behind) e in
    let w = word_written field rest n behind all x.0 in
    let test : (nat_le least n && nat_le n most) ≡ true = x.1 in
    let low : least ≤ n = grind (arith, nat_tests) in
    let high : n ≤ most = grind (arith, nat_tests) in
    (w.0, (low, high, w.1))
rest_written (Long field) n rest behind all e = long_written field rest n behind all e
rest_written (Among field count test) xs rest behind all e =
    let x = if_ok test field rest (first_bytes field count rest) (xs, behind) e in
    let w = first_written field count rest xs behind x.0 in
    (w.0, (w.1, x.1, front_bytes rest.bytes xs behind.bytes w.0 all))
rest_written (Run field most limit) xs rest behind all e = run_written field most limit rest xs behind all e
rest_written (Both f g) v rest behind all e =
    let x = then_ok (pair_read {A = laid_out f} (decoded g)) (decoded f rest) (v, behind) e in
    let a = x.0.0 in
    let after = x.0.1 in
    let first = rest_written f a rest after all x.1 in
    let y = as_ok (λ (b : laid_out g). (a, b)) (decoded g after) v behind x.2 in
    let b = y.0 in
    let second = rest_written g b after behind (back_bytes rest.bytes (coded f a) after.bytes first.0 all) y.1 in
    subst (λ (w : laid_out f × laid_out g). IsWritten (Both f g) w rest behind) y.2 (
      first.0 ∙ ap (λ (ys : List ℕ). coded f a ++ ys) second.0 ∙ sym (append_assoc (coded f a) (coded g b) behind.bytes),
      (first.1, second.1),
    )
rest_written (Maybe field f) v rest behind all e =
    let x = marked field (λ (r : Rest). Ok (None, r)) (λ (r : Rest). as_read (λ (w : laid_out f). Some w) (decoded f r)) rest (v, behind) e in
    let after = x.0 in
    elim x.1 as (λ _. IsWritten (Maybe field f) v rest behind) [
      | inl w ↦
          let left : Option (laid_out f) × Rest = (None, after) in
          let right : Option (laid_out f) × Rest = (v, behind) in
          let is : Ok left ≡ Ok right = w.1 in
          let p : left ≡ right = cc in
          let none : None ≡ v = ap (λ (q : Option (laid_out f) × Rest). q.0) p in
          let same : after.bytes ≡ behind.bytes = ap (λ (q : Option (laid_out f) × Rest). q.1.bytes) p in
          subst (λ (o : Option (laid_out f)). IsWritten (Maybe field f) o rest behind) none (w.0 ∙ ap (λ (ys : List ℕ). 0 ∷ ys) same, tt)
      | inr w ↦
          let y = as_ok (λ (u : laid_out f). Some u) (decoded f after) v behind w.1 in
          let inner = rest_written f y.0 after behind (back_bytes rest.bytes (1 ∷ []) after.bytes w.0 all) y.1 in
          subst (λ (o : Option (laid_out f)). IsWritten (Maybe field f) o rest behind) y.2 (w.0 ∙ ap (λ (ys : List ℕ). 1 ∷ ys) inner.0, inner.1)
    ]
rest_written (Either field f g) v rest behind all e =
    let x = marked field (λ (r : Rest). as_read (to_left f g) (decoded f r)) (λ (r : Rest). as_read (to_right f g) (decoded g r)) rest (v, behind) e in
    let after = x.0 in
    elim x.1 as (λ _. IsWritten (Either field f g) v rest behind) [
      | inl w ↦
          let y = as_ok (to_left f g) (decoded f after) v behind w.1 in
          let inner = rest_written f y.0 after behind (back_bytes rest.bytes (0 ∷ []) after.bytes w.0 all) y.1 in
          subst (λ (o : laid_out f ⊎ laid_out g). IsWritten (Either field f g) o rest behind) y.2 (w.0 ∙ ap (λ (ys : List ℕ). 0 ∷ ys) inner.0, inner.1)
      | inr w ↦
          let y = as_ok (to_right f g) (decoded g after) v behind w.1 in
          let inner = rest_written g y.0 after behind (back_bytes rest.bytes (1 ∷ []) after.bytes w.0 all) y.1 in
          subst (λ (o : laid_out f ⊎ laid_out g). IsWritten (Either field f g) o rest behind) y.2 (w.0 ∙ ap (λ (ys : List ℕ). 1 ∷ ys) inner.0, inner.1)
    ]
rest_written (Times count f) vs rest behind all e =
    let w = times_written (decoded f) (coded f) (IsOf f) (rest_written f) count vs rest behind all e in
    (w.0, (w.1, w.2))

pub read_written : ReadValuesAreWritten
read_written f v at end bytes rest all e = rest_written f v (rest_at at bytes) (rest_at end rest) all e
