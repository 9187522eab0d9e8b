-- The records of a file of some bytes.
use Rattle.std.proofs.Common.{◌≡◌, ◌≢◌, ℕ, min, ◌+◌, ◌-◌, ◌*◌, ◌<◌, ◌≤◌, List, [], ◌++◌, Some, None, length, take, drop, replicate, append-nil, length-take, length-append, get_or, sym, refl, ap, ◌∙◌, inl, inr, arith}
use Rattle.std.proofs.Math.Seq.{take-append-add, take-length}
use Rattle.std.proofs.lemmas.List.{take-append-le, take-replicate, drop-replicate, length-drop, length-replicate, get_or-take, get_or-drop, get_or_past, get_or_append_left, get_or-append-add, get_or-replicate}
use Rattle.std.proofs.lemmas.Bool.{cases_lt, lt-ltb, le-ltb}
use Rattle.cpm_volume.specs.Encoding.{AreBytes}
use Rattle.cpm_image_files.specs.ImageFiles.{record_of_bytes, records_for}

-- what a record is filled up with
filling : List ℕ
filling = replicate 128 0x1A

no_filling : drop 128 filling ≡ []
unfolding filling
no_filling = drop-replicate 128 128 0x1A

rest_filling : (n : ℕ) → n ≤ 128 → drop n filling ≡ take (128 - n) filling
unfolding filling
rest_filling n h = drop-replicate n 128 0x1A ∙ sym (take-replicate (128 - n) 128 0x1A (omega arith))

-- the bytes from a place on, filled up
filled : (xs : List ℕ) (size : ℕ) → size ≡ min (length xs) 128 → take size xs ++ drop size filling ≡ take 128 (xs ++ filling)
filled xs size e =
    elim (cases_lt (length xs) 128) [
      | inl short ↦
          let all : size ≡ length xs = omega arith in
          let split : length xs + (128 - length xs) ≡ 128 = omega arith in
          let front : take size xs ≡ xs = ap (λ k. take k xs) all ∙ take-length xs in
          let back : drop size filling ≡ take (128 - length xs) filling = ap (λ k. drop k filling) all ∙ rest_filling (length xs) (omega arith) in
          rw (front, back) (sym (take-append-add xs filling (128 - length xs)) ∙ ap (λ k. take k (xs ++ filling)) split)
      | inr long ↦
          let all : size ≡ 128 = omega arith in
          rw (all, no_filling, take-append-le 128 xs filling long) (append-nil (take 128 xs))
    ]

pub record_made : (bytes : List ℕ) (m size : ℕ) (front : List ℕ) → 128 * m < length bytes → size ≡ min (length bytes - 128 * m) 128 → front ≡ take size (drop (128 * m) bytes) → Some (front ++ drop size (replicate 128 0x1A)) ≡ record_of_bytes bytes m
unfolding record_of_bytes filling
record_made bytes m size front within e is =
    let left = length-drop (128 * m) bytes in
    rw (lt-ltb _ _ within, is) (ap Some (filled (drop (128 * m) bytes) size (omega arith)))

pub record_there : (count m : ℕ) → m < records_for count → 128 * m < count
record_there count m h = omega arith

pub no_record_of : (bytes : List ℕ) (m : ℕ) → records_for (length bytes) ≤ m → record_of_bytes bytes m ≡ None
unfolding record_of_bytes
no_record_of bytes m h = rw (le-ltb (128 * m) (length bytes) (omega arith)) refl

some_not_none : (xs : List ℕ) → Some xs ≢ None
some_not_none xs e = cc

pub is_record : (bytes : List ℕ) (m : ℕ) → m < records_for (length bytes) → record_of_bytes bytes m ≢ None
unfolding record_of_bytes
is_record bytes m h e =
    some_not_none _ (rw (lt-ltb (128 * m) (length bytes) (omega arith)) at e)

-- ---- bytes
abbrev AllBytes : List ℕ → Type 0
AllBytes xs = (k : ℕ) → get_or xs k 0 < 256

take_fits : (n : ℕ) (xs : List ℕ) → AllBytes xs → AllBytes (take n xs)
take_fits n xs h k =
    elim (cases_lt k n) [
      | inl lt ↦ rw (get_or-take n xs k 0 lt) (h k)
      | inr ge ↦ rw (get_or_past (take n xs) k 0 (simp length-take (omega arith))) (omega arith)
    ]

drop_fits : (n : ℕ) (xs : List ℕ) → AllBytes xs → AllBytes (drop n xs)
drop_fits n xs h k = rw (get_or-drop n xs k 0) (h (n + k))

append_fits : (xs ys : List ℕ) → AllBytes xs → AllBytes ys → AllBytes (xs ++ ys)
append_fits xs ys h g k =
    elim (cases_lt k (length xs)) [
      | inl lt ↦ rw (get_or_append_left xs ys 0 k lt) (h k)
      | inr ge ↦
          let split : k ≡ length xs + (k - length xs) = omega arith in
          rw (ap (λ i. get_or (xs ++ ys) i 0) split ∙ get_or-append-add xs ys (k - length xs) 0) (g (k - length xs))
    ]

filler_fits : (n : ℕ) → AllBytes (replicate n 0x1A)
filler_fits n k =
    elim (cases_lt k n) [
      | inl lt ↦ rw (get_or-replicate {A = ℕ} n k 0x1A 0 lt) (omega arith)
      | inr ge ↦ (
          let many : List ℕ = replicate n 0x1A in
          let size : length many ≡ n = length-replicate {A = ℕ} n 0x1A in
          let past : get_or many k 0 ≡ 0 = get_or_past many k 0 (omega arith) in
          omega arith)
    ]

some_same : (xs ys : List ℕ) → Some xs ≡ Some ys → xs ≡ ys
some_same xs ys e = cc

pub record_fits : (bytes : List ℕ) (m : ℕ) (now : List ℕ) → 128 * m < length bytes → AllBytes bytes → Some now ≡ record_of_bytes bytes m → AreBytes 128 now
unfolding record_of_bytes
record_fits bytes m now within h e =
    let is : now ≡ take 128 (drop (128 * m) bytes ++ replicate 128 0x1A) = some_same _ _ (rw (lt-ltb _ _ within) at e) in
    rw is (record {
      count = simp (length-take, length-append, length-replicate) (omega arith);
      bytes_fit = take_fits 128 (drop (128 * m) bytes ++ replicate 128 0x1A) (append_fits (drop (128 * m) bytes) (replicate 128 0x1A) (drop_fits (128 * m) bytes h) (filler_fits 128));
    })
