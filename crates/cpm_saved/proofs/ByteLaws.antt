-- What is written by a layout of bytes is bytes.
use Rattle.std.proofs.Common.{◌<◌, ◌≤◌, ℕ, zero, suc, List, [], ◌∷◌, ◌++◌, Some, None, length, get_or, inl, inr, arith}
use Rattle.std.specs.Int.{byte_at, bytes_low_first, to_le_bytes, w16}
use Rattle.std.specs.List.{All}
use Rattle.std.proofs.lemmas.List.Elements.{All-append, All-cons, All-nil}
use Rattle.cpm_saved.specs.Laws.{CodedAreBytes}
use Rattle.cpm_saved.specs.Layout.{Among, AreBelow, Below, Both, Either, IsOf, Long, Maybe, Run, Times, Within, coded, coded_all, laid_out}

cons : (b : ℕ) (bs : List ℕ) → b < 256 → AreBelow 256 bs → AreBelow 256 (b ∷ bs)
cons b bs low all = All-cons (λ (c : ℕ). c < 256) b bs low all

append : (xs ys : List ℕ) → AreBelow 256 xs → AreBelow 256 ys → AreBelow 256 (xs ++ ys)
append xs ys first second = All-append (λ (c : ℕ). c < 256) xs ys first second

-- the bytes of a number
byte : (i n : ℕ) → byte_at i n < 256
byte zero n = omega arith
byte (suc i) n = omega arith

number : (i count n : ℕ) → AreBelow 256 (bytes_low_first i count n)
number i zero n = All-nil (λ (c : ℕ). c < 256)
number i (suc count) n = cons (byte_at i n) (bytes_low_first (suc i) count n) (byte i n) (number (suc i) count n)

-- numbers below a limit of bytes
within : (limit : ℕ) (bytes : List ℕ) → limit ≤ 256 → AreBelow limit bytes → AreBelow 256 bytes
within limit bytes most all k d inside = let low : get_or bytes k d < limit = all k d inside in omega (arith, low)

times : {A : Type 0} → (code : A → List ℕ) (of : A → Type 0) → ((v : A) → of v → AreBelow 256 (code v))
    → (vs : List A) → All of vs → AreBelow 256 (coded_all code vs)
times {A} code of one [] all = All-nil (λ (c : ℕ). c < 256)
times {A} code of one (v ∷ vs) all =
    let others : All of vs = λ (k : ℕ) (d : A) inside. all (suc k) d (omega (arith, inside)) in
    append (code v) (coded_all code vs) (one v (all 0 v (omega arith))) (times code of one vs others)

pub are_bytes : CodedAreBytes
are_bytes (Below field limit) n of most = let low : n < limit = of in cons n [] (omega (arith, low, most)) (All-nil (λ (c : ℕ). c < 256))
are_bytes (Within field least most) n of bytes = number 0 2 n
are_bytes (Long field) n of bytes = number 0 8 n
are_bytes (Among field count test) xs of bytes = of.2
are_bytes (Run field most limit) xs of bytes = append (to_le_bytes w16 (length xs)) xs (number 0 2 (length xs)) (within limit xs bytes of.2)
are_bytes (Both f g) v of bytes = append (coded f v.0) (coded g v.1) (are_bytes f v.0 of.0 bytes.0) (are_bytes g v.1 of.1 bytes.1)
are_bytes (Maybe field f) None of bytes = cons 0 [] (omega arith) (All-nil (λ (c : ℕ). c < 256))
are_bytes (Maybe field f) (Some v) of bytes = cons 1 (coded f v) (omega arith) (are_bytes f v of bytes)
are_bytes (Either field f g) (inl v) of bytes = cons 0 (coded f v) (omega arith) (are_bytes f v of bytes.0)
are_bytes (Either field f g) (inr v) of bytes = cons 1 (coded g v) (omega arith) (are_bytes g v of bytes.1)
are_bytes (Times count f) vs of bytes = times (coded f) (IsOf f) (λ (v : laid_out f) one. are_bytes f v one bytes) vs of.1
