-- A value that is read is the value that was written, and what was written is read.
use Rattle.std.proofs.Common.{◌≡◌, ◌∙◌, ◌<◌, ◌≤◌, ◌+◌, ◌*◌, ◌^◌, ℕ, zero, suc, Bool, true, false, List, [], ◌∷◌, ◌++◌, length, get_or, take, drop}
use Rattle.std.proofs.Common.{Ok, Err, ap, append_assoc, arith, refl, subst, sym, length-append}
use Rattle.std.specs.Prelude.{Result, nat_eq, nat_le, nat_lt, if◌then◌else◌}
use Rattle.std.specs.Cmp.Lexicographic.{pointwise}
use Rattle.std.specs.Int.{from_le_bytes, w64}
use Rattle.std.proofs.lemmas.Bool.Decides.{nat_tests}
use Rattle.std.proofs.lemmas.List.{drop_at, length-take-le, take-append-drop, take_at}
use Rattle.std.proofs.lemmas.List.Elements.{All-drop, All-take}
use Rattle.std.proofs.lemmas.Slice.Eq.{bytes_eq-Decides}
use Rattle.std.proofs.lemmas.Nat.{from_le_bytes-to_le_bytes_8, le_bytes_8}
use Rattle.cpm_checkpoint.specs.CheckpointBytes.{AreByteValues, IsByteRun, long, run}
use Rattle.cpm_checkpoint.specs.CheckpointReading.{Parsed, Unread, byte_read, bytes_taken, head_byte, if_so, long_read, run_read, then_parsed, unread_at}
use Rattle.cpm_checkpoint.specs.CheckpointReading.{these_read}

-- ---- steps

infixl 10 ◌>>=◌
abbrev pub ◌>>=◌ : {A B : Type 0} → Result A ℕ → (A → Result B ℕ) → Result B ℕ
read >>= next = then_parsed read next

abbrev done : {A : Type 0} → A → Result A ℕ
done x = Ok x

pub ok_is : {A : Type 0} → (x y : A) → done x ≡ done y → x ≡ y
ok_is {A} x y e = cc

-- the value of a step that was not refused
pub then_ok : {A B : Type 0} → (read : Result A ℕ) (next : A → Result B ℕ) (y : B) → (read >>= next) ≡ Ok y → (x : A) × (read ≡ Ok x) × (next x ≡ Ok y)
then_ok {A} {B} (Ok x) next y e = (x, refl, e)
then_ok {A} {B} (Err at) next y e = absurd cc

-- a test that held
pub if_ok : {A : Type 0} → (test : Bool) (x y : A) (at : ℕ) → if◌then◌else◌ {A = Result A ℕ} test (Ok x) (Err at) ≡ Ok y → (test ≡ true) × (x ≡ y)
if_ok {A} true x y at e = (refl, ok_is x y e)
if_ok {A} false x y at e = absurd cc

-- ---- what was read of bytes is a text, and the bytes behind it
pub record Takes (bytes text : List ℕ) (behind : Unread) : Type 0 where
  pub parts : bytes ≡ text ++ behind.bytes
  pub behind_bytes : AreByteValues behind.bytes

pub takes_then : (bytes text more : List ℕ) (middle behind : Unread) → Takes bytes text middle → Takes middle.bytes more behind
    → Takes bytes (text ++ more) behind
takes_then bytes text more middle behind p q = record {
  parts = p.parts ∙ ap (λ (x : List ℕ). text ++ x) q.parts ∙ sym (append_assoc text more behind.bytes);
  behind_bytes = q.behind_bytes;
}

-- ---- so many bytes

pub bytes_again : (text rest : List ℕ) (at n : ℕ) → length text ≡ n → bytes_taken n (unread_at at (text ++ rest)) ≡ Ok (text, unread_at (at + n) rest)
bytes_again text rest at n size =
    let all = length-append text rest in
    let within : n ≤ length (text ++ rest) = omega (arith, all, size) in
    let test : nat_le n (length (text ++ rest)) ≡ true = grind (arith, nat_tests) in
    rw (test, take_at text rest n size, drop_at text rest n size) refl

pub bytes_take : (n : ℕ) (rest : Unread) (p : List ℕ × Unread) → AreByteValues rest.bytes → bytes_taken n rest ≡ Ok p
    → Takes rest.bytes p.0 p.1 × (length p.0 ≡ n) × AreByteValues p.0
bytes_take n rest p all e =
    let made : List ℕ × Unread = (take n rest.bytes, unread_at (rest.at + n) (drop n rest.bytes)) in
    let w = if_ok (nat_le n (length rest.bytes)) made p rest.at e in
    let test = w.0 in
    let within : n ≤ length rest.bytes = grind (arith, nat_tests) in
    subst (λ (q : List ℕ × Unread). Takes rest.bytes q.0 q.1 × (length q.0 ≡ n) × AreByteValues q.0) w.1 (
      record { parts = sym (take-append-drop n rest.bytes); behind_bytes = All-drop (λ (b : ℕ). b < 256) n rest.bytes all },
      length-take-le n rest.bytes within,
      All-take (λ (b : ℕ). b < 256) n rest.bytes all,
    )

-- ---- a byte

pub byte_again : (limit b : ℕ) (rest : List ℕ) (at : ℕ) → b < limit → byte_read limit (unread_at at (b ∷ rest)) ≡ Ok (b, unread_at (at + 1) rest)
unfolding byte_read
byte_again limit b rest at low =
    let test : nat_lt b limit ≡ true = grind (arith, nat_tests) in
    rw (bytes_again (b ∷ []) rest at 1 refl, test) refl

one_byte : (xs : List ℕ) → length xs ≡ 1 → xs ≡ head_byte xs ∷ []
one_byte [] size = absurd (omega (arith, size))
one_byte (b ∷ []) size = refl
one_byte (b ∷ c ∷ bs) size = absurd (omega (arith, size))

pub byte_takes : (limit : ℕ) (rest : Unread) (p : ℕ × Unread) → AreByteValues rest.bytes → byte_read limit rest ≡ Ok p
    → Takes rest.bytes (p.0 ∷ []) p.1 × (p.0 < limit)
unfolding byte_read
byte_takes limit rest p all e =
    let a = then_ok (bytes_taken 1 rest) (λ found. if_so (λ (b : ℕ). nat_lt b limit) rest (head_byte found.0, found.1)) p e in
    let t = bytes_take 1 rest a.0 all a.1 in
    let made : ℕ × Unread = (head_byte a.0.0, a.0.1) in
    let w = if_ok (nat_lt made.0 limit) made p rest.at a.2 in
    let test = w.0 in
    let low : made.0 < limit = grind (arith, nat_tests) in
    subst (λ (q : ℕ × Unread). Takes rest.bytes (q.0 ∷ []) q.1 × (q.0 < limit)) w.1 (
      subst (λ (xs : List ℕ). Takes rest.bytes xs a.0.1) (one_byte a.0.0 t.1) t.0,
      low,
    )

-- ---- a number

below_256 : (bytes : List ℕ) → AreByteValues bytes → (i : ℕ) → get_or bytes i 0 < 256
below_256 [] all i = omega arith
below_256 (b ∷ bs) all zero = all 0 0 (omega arith)
below_256 (b ∷ bs) all (suc i) = below_256 bs (λ (k : ℕ) (d : ℕ) within. all (suc k) d (omega (arith, within))) i

pub long_again : (n : ℕ) (rest : List ℕ) (at : ℕ) → n < 2 ^ 64 → long_read (unread_at at (long n ++ rest)) ≡ Ok (n, unread_at (at + 8) rest)
unfolding long_read
long_again n rest at small =
    ap (λ (read : Parsed (List ℕ)). read >>= λ found. Ok (from_le_bytes w64 found.0, found.1)) (bytes_again (long n) rest at 8 refl)
    ∙ ap (λ (m : ℕ). Ok (m, unread_at (at + 8) rest)) (from_le_bytes-to_le_bytes_8 n small)

small_sum : (bytes : List ℕ) (n : ℕ) → ((i : ℕ) → get_or bytes i 0 < 256) → n ≡ from_le_bytes w64 bytes → n < 2 ^ 64
small_sum bytes n small value =
    let sum : n ≡ get_or bytes 0 0 + get_or bytes 1 0 * 0x100 + get_or bytes 2 0 * 0x10000 + get_or bytes 3 0 * 0x1000000 + get_or bytes 4 0 * 0x100000000
    + get_or bytes 5 0 * 0x10000000000 + get_or bytes 6 0 * 0x1000000000000 + get_or bytes 7 0 * 0x100000000000000 = value in
    omega (arith, sum, small 0, small 1, small 2, small 3, small 4, small 5, small 6, small 7)

pub long_takes : (rest : Unread) (p : ℕ × Unread) → AreByteValues rest.bytes → long_read rest ≡ Ok p → Takes rest.bytes (long p.0) p.1 × (p.0 < 2 ^ 64)
unfolding long_read
long_takes rest p all e =
    let a = then_ok (bytes_taken 8 rest) (λ found. Ok (from_le_bytes w64 found.0, found.1)) p e in
    let t = bytes_take 8 rest a.0 all a.1 in
    let made : ℕ × Unread = (from_le_bytes w64 a.0.0, a.0.1) in
    let small = below_256 a.0.0 t.2 in
    subst (λ (q : ℕ × Unread). Takes rest.bytes (long q.0) q.1 × (q.0 < 2 ^ 64)) {x = made} (ok_is made p a.2) (
      subst (λ (xs : List ℕ). Takes rest.bytes xs a.0.1) (sym (le_bytes_8 a.0.0 made.0 t.1 small refl)) t.0,
      small_sum a.0.0 made.0 small refl,
    )

-- ---- a run

pub run_again : (bytes rest : List ℕ) (at : ℕ) → IsByteRun bytes
    → run_read (unread_at at (run bytes ++ rest)) ≡ Ok (bytes, unread_at (at + 8 + length bytes) rest)
unfolding run_read
run_again bytes rest at of =
    ap (λ (xs : List ℕ). long_read (unread_at at xs) >>= λ count. bytes_taken count.0 count.1) (append_assoc (long (length bytes)) bytes rest)
    ∙ ap (λ (read : Parsed ℕ). read >>= λ count. bytes_taken count.0 count.1) (long_again (length bytes) (bytes ++ rest) at of.0)
    ∙ bytes_again bytes rest (at + 8) (length bytes) refl

pub run_takes : (rest : Unread) (p : List ℕ × Unread) → AreByteValues rest.bytes → run_read rest ≡ Ok p → Takes rest.bytes (run p.0) p.1 × IsByteRun p.0
unfolding run_read
run_takes rest p all e =
    let a = then_ok (long_read rest) (λ count. bytes_taken count.0 count.1) p e in
    let first = long_takes rest a.0 all a.1 in
    let second = bytes_take a.0.0 a.0.1 p first.0.behind_bytes a.2 in
    let size : length p.0 ≡ a.0.0 = second.1 in
    let small = first.1 in (
      subst (λ (n : ℕ). Takes rest.bytes (long n ++ p.0) p.1) (sym size) (takes_then rest.bytes (long a.0.0) p.0 a.0.1 p.1 first.0 second.0),
      (omega (arith, size, small), second.2),
    )

-- ---- just these bytes

pub these_take : (wanted : List ℕ) (rest : Unread) (p : List ℕ × Unread) → AreByteValues rest.bytes → these_read wanted rest ≡ Ok p
    → Takes rest.bytes wanted p.1
unfolding these_read
these_take wanted rest p all e =
    let a = then_ok (bytes_taken (length wanted) rest) (if_so (λ (bytes : List ℕ). pointwise nat_eq bytes wanted) rest) p e in
    let t = bytes_take (length wanted) rest a.0 all a.1 in
    let w = if_ok (pointwise nat_eq a.0.0 wanted) a.0 p rest.at a.2 in
    let same : a.0.0 ≡ wanted = (bytes_eq-Decides a.0.0 wanted).0 w.0 in
    subst (λ (q : List ℕ × Unread). Takes rest.bytes wanted q.1) w.1 (subst (λ (xs : List ℕ). Takes rest.bytes xs a.0.1) same t.0)

pub these_again : (wanted rest : List ℕ) (at : ℕ) → these_read wanted (unread_at at (wanted ++ rest)) ≡ Ok (wanted, unread_at (at + length wanted) rest)
unfolding these_read
these_again wanted rest at = rw (bytes_again wanted rest at (length wanted) refl, (bytes_eq-Decides wanted wanted).1 refl) refl
