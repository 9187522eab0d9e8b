-- The bytes of a file that was put, filled up to whole records.
use Rattle.std.proofs.Common.{◌≡◌, ℕ, ◌+◌, ◌-◌, ◌*◌, ◌/◌, ◌%◌, ◌<◌, ◌≤◌, List, ◌++◌, Option, Some, None, length, replicate, take, drop, get_or, sym, refl, ap, ◌∙◌, inl, inr, arith}
use Rattle.std.proofs.lemmas.List.{length-append, length-drop, length-replicate, replicate-append-replicate, append_assoc, drop-append-le, take-append-le, get_or-take, get_or-drop, same_lists}
use Rattle.std.proofs.lemmas.Bool.{cases_lt, lt-ltb, le-ltb}
use Rattle.cpm_geom.specs.Disk.{Disk}
use Rattle.cpm_image_files.specs.ImageFiles.{filler, record_of_bytes, records_for, DiskHasFile}
use Rattle.cpm_image_files.specs.Taken.{taken_record, HasRecords, AreBytesOf}
use Rattle.cpm_image_files.specs.Filled.{filled, FilledLaw}

-- ---- lists cut into records

record_place : (xs : List ℕ) (k d : ℕ) → get_or xs k d ≡ get_or (take 128 (drop (128 * (k / 128)) xs)) (k % 128) d
record_place xs k d =
    let within : k % 128 < 128 = omega arith in
    let place : 128 * (k / 128) + k % 128 ≡ k = omega arith in
    ap (λ i. get_or xs i d) (sym place) ∙ (sym (get_or-drop (128 * (k / 128)) xs (k % 128) d) ∙ sym (get_or-take 128 (drop (128 * (k / 128)) xs) (k % 128) d within))

same_cut : (xs ys : List ℕ) (count : ℕ) → length xs ≡ 128 * count → length ys ≡ 128 * count → ((m : ℕ) → m < count → take 128 (drop (128 * m) xs) ≡ take 128 (drop (128 * m) ys)) → xs ≡ ys
same_cut xs ys count a b same =
    same_lists xs ys (a ∙ sym b) (λ k d h.
    let within : k / 128 < count = omega arith in
    record_place xs k d ∙ (ap (λ zs. get_or zs (k % 128) d) (same (k / 128) within) ∙ sym (record_place ys k d)))

-- ---- the records of bytes

record_there : (bytes : List ℕ) (m : ℕ) → 128 * m < length bytes → record_of_bytes bytes m ≡ Some (take 128 (drop (128 * m) bytes ++ replicate 128 filler))
unfolding record_of_bytes
record_there bytes m h = rw (lt-ltb _ _ h) refl

record_none : (bytes : List ℕ) (m : ℕ) → length bytes ≤ 128 * m → record_of_bytes bytes m ≡ None
unfolding record_of_bytes
record_none bytes m h = rw (le-ltb _ _ h) refl

filled_length : (bytes : List ℕ) → length (filled bytes) ≡ 128 * records_for (length bytes)
filled_length bytes =
    length-append bytes (replicate (128 * records_for (length bytes) - length bytes) filler) ∙ (ap (λ n. length bytes + n) (length-replicate (128 * records_for (length bytes) - length bytes) filler) ∙ omega arith)

-- a part that is filled up to a record, or further
filled_further : (xs : List ℕ) (pad : ℕ) → pad ≤ 128 → 128 ≤ length xs + pad → take 128 (xs ++ replicate pad filler) ≡ take 128 (xs ++ replicate 128 filler)
filled_further xs pad small enough =
    let size : 128 ≤ length (xs ++ replicate pad filler) = rw (length-append xs (replicate pad filler), length-replicate pad filler) enough in
    let whole : pad + (128 - pad) ≡ 128 = omega arith in
    let more : replicate 128 filler ≡ replicate pad filler ++ replicate (128 - pad) filler = ap (λ n. replicate n filler) (sym whole) ∙ sym (replicate-append-replicate pad (128 - pad) filler) in
    sym (ap (λ ys. take 128 (xs ++ ys)) more ∙ (ap (take 128) (sym (append_assoc xs (replicate pad filler) (replicate (128 - pad) filler))) ∙ take-append-le 128 (xs ++ replicate pad filler) (replicate (128 - pad) filler) size))

filled_record : (bytes : List ℕ) (m : ℕ) → m < records_for (length bytes) → take 128 (drop (128 * m) (filled bytes)) ≡ taken_record (record_of_bytes bytes m)
filled_record bytes m h =
    let front : 128 * m < length bytes = omega arith in
    let pad : 128 * records_for (length bytes) - length bytes ≤ 128 = omega arith in
    let part : length (drop (128 * m) bytes) ≡ length bytes - 128 * m = length-drop (128 * m) bytes in
    let enough : 128 ≤ length (drop (128 * m) bytes) + (128 * records_for (length bytes) - length bytes) = rw part (omega arith) in
    let start : 128 * m ≤ length bytes = omega arith in
    ap (take 128) (drop-append-le (128 * m) bytes (replicate (128 * records_for (length bytes) - length bytes) filler) start) ∙ (filled_further (drop (128 * m) bytes) (128 * records_for (length bytes) - length bytes) pad enough ∙ ap taken_record (sym (record_there bytes m front)))

some_none : (x : List ℕ) → ◌≡◌ {A = Option (List ℕ)} (Some x) None → ⊥
some_none x e = cc

-- ---- a file has one number of records
one_count : (disk : Disk) (user : ℕ) (name : List ℕ) (a b : ℕ) → HasRecords disk user name a → HasRecords disk user name b → a ≤ b
one_count disk user name a b p q =
    elim (cases_lt b a) [
      | inr ge ↦ ge
      | inl lt ↦
          let last : b ≤ a - 1 = omega arith in
          absurd (p.last (omega arith) (q.none (a - 1) last))
    ]

module _ (disk : Disk) (user : ℕ) (name bytes : List ℕ) (has : DiskHasFile disk user name bytes) where
  filled_records : HasRecords disk user name (records_for (length bytes))
  filled_records = record {
    last = λ some e.
        let front : 128 * (records_for (length bytes) - 1) < length bytes = omega arith in
        some_none _ (sym (record_there bytes (records_for (length bytes) - 1) front) ∙ (sym (has.records (records_for (length bytes) - 1)) ∙ e));
    none = λ m h.
        let past : length bytes ≤ 128 * m = omega arith in
        has.records m ∙ record_none bytes m past;
  }

  are_filled : AreBytesOf disk user name (filled bytes)
  are_filled = record {
    count = records_for (length bytes);
    records = filled_records;
    size = filled_length bytes;
    each = λ m h. filled_record bytes m h ∙ ap taken_record (sym (has.records m));
  }

  only_filled : (taken : List ℕ) → AreBytesOf disk user name taken → taken ≡ filled bytes
  unfolding are_filled
  only_filled taken are =
      let low = one_count disk user name are.count (records_for (length bytes)) are.records filled_records in
      let high = one_count disk user name (records_for (length bytes)) are.count filled_records are.records in
      let count : are.count ≡ records_for (length bytes) = omega arith in
      same_cut taken (filled bytes) (records_for (length bytes)) (are.size ∙ ap (λ n. 128 * n) count) (filled_length bytes) (λ m h. are.each m (rw count h) ∙ sym (are_filled.each m h))

pub what_is_put : FilledLaw
what_is_put disk user name bytes has = (are_filled disk user name bytes has, only_filled disk user name bytes has)
