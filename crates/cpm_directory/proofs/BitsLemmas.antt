-- Tests by number in rows of bits.
use Rattle.std.proofs.Common.{◌≡◌, ◌≢◌, ℕ, zero, suc, ◌+◌, ◌-◌, ◌*◌, ◌/◌, ◌%◌, ◌<◌, ◌^◌, Bool, true, false, not, eqb, List, length, get_or, set, replicate, sym, refl, ap, ◌∙◌, arith, inl, inr, w64}
use Rattle.std.specs.Prelude.{bit_and, bit_or}
use Rattle.std.specs.Int.{bit_at, bit_not, trailing_ones}
use Rattle.std.proofs.lemmas.List.{ext_get_or, get_or-set_same, get_or-set_other, get_or-replicate, length-set, length-replicate}
use Rattle.std.proofs.lemmas.List.FromFn.{length-map-range_with_len, get_or-map-range_with_len}
use Rattle.std.proofs.lemmas.List.Sums.{position_or_len_is}
use Rattle.std.proofs.lemmas.Bool.{cases_eq, cases_lt, eq-eqb, ne_eqb}
use Rattle.std.proofs.lemmas.Nat.Bits.{bit_at-zero, bit_at_set_same, bit_at_set_other, bit_at_clear_same, bit_at_clear_other, bit_at-trailing_ones, bit_at_ones}
use Rattle.cpm_volume.specs.Reserved.{least_free}
use Rattle.cpm_directory.specs.Bits.{test_of, tests_of}

pub tests_length : (rows : List ℕ) → length (tests_of rows) ≡ 512
unfolding tests_of
tests_length rows = length-map-range_with_len (test_of rows) 0 512

pub test_at : (rows : List ℕ) (number : ℕ) (d : Bool) → number < 512 → get_or (tests_of rows) number d ≡ test_of rows number
unfolding tests_of
test_at rows number d h = get_or-map-range_with_len (test_of rows) 0 512 number number d h (omega arith)

-- a table with one test changed
pub one_changed : (old new : List ℕ) (number : ℕ) (holds : Bool) → number < 512 → test_of new number ≡ holds → ((k : ℕ) → k < 512 → k ≢ number → test_of new k ≡ test_of old k) → tests_of new ≡ set (tests_of old) number holds
one_changed old new number holds h here others =
    ext_get_or true (tests_of new) (set (tests_of old) number holds) (tests_length new ∙ sym (length-set (tests_of old) number holds ∙ tests_length old)) (λ k l.
    let within : k < 512 = omega (arith, tests_length new) in
    test_at new k true within ∙ elim (cases_eq k number) [
      | inl same ↦ rw same (here ∙ sym (get_or-set_same (tests_of old) number holds true (omega (arith, tests_length old))))
      | inr other ↦ others k within other ∙ sym (get_or-set_other (tests_of old) number k holds true other ∙ test_at old k true within)
    ])

-- a row with one bit changed leaves the tests of the others
changed : (old : List ℕ) (number row k : ℕ) → number / 64 < length old → k ≢ number → (k % 64 ≢ number % 64 → bit_at row (k % 64) ≡ bit_at (get_or old (number / 64) 0) (k % 64)) → test_of (set old (number / 64) row) k ≡ test_of old k
unfolding test_of
changed old number row k within apart bit =
    elim (cases_eq (k / 64) (number / 64)) [
      | inl same ↦ rw same (rw (get_or-set_same old (number / 64) row 0 within) (ap (λ b. eqb b 1) (bit (λ e. apart (omega arith)))))
      | inr other ↦ rw (get_or-set_other old (number / 64) (k / 64) row 0 other) refl
    ]

pub inserted : (rows : List ℕ) (number : ℕ) → length rows ≡ 8 → number < 512 → tests_of (set rows (number / 64) (bit_or (get_or rows (number / 64) 0) (1 * 2 ^ (number % 64) % 2 ^ 64))) ≡ set (tests_of rows) number true
unfolding test_of
inserted rows number size h =
    let old = get_or rows (number / 64) 0 in
    let row = bit_or old (1 * 2 ^ (number % 64) % 2 ^ 64) in
    one_changed rows (set rows (number / 64) row) number true h
    (rw (get_or-set_same rows (number / 64) row 0 (omega arith)) (eq-eqb _ _ (bit_at_set_same w64 old (number % 64) (omega arith))))
    (λ k l apart. changed rows number row k (omega arith) apart (λ other. bit_at_set_other w64 old (number % 64) (omega arith) (k % 64) other))

pub removed : (rows : List ℕ) (number : ℕ) → length rows ≡ 8 → number < 512 → tests_of (set rows (number / 64) (bit_and (get_or rows (number / 64) 0) (bit_not w64 (1 * 2 ^ (number % 64) % 2 ^ 64)))) ≡ set (tests_of rows) number false
unfolding test_of
removed rows number size h =
    let old = get_or rows (number / 64) 0 in
    let row = bit_and old (bit_not w64 (1 * 2 ^ (number % 64) % 2 ^ 64)) in
    one_changed rows (set rows (number / 64) row) number false h
    (rw (get_or-set_same rows (number / 64) row 0 (omega arith)) (ne_eqb _ _ (let gone = bit_at_clear_same w64 old (number % 64) (omega arith) in omega arith)))
    (λ k l apart. changed rows number row k (omega arith) apart (λ other. bit_at_clear_other w64 old (number % 64) (omega arith) (k % 64) (omega arith) other))

pub none_holds : (rows : List ℕ) → ((row : ℕ) → get_or rows row 0 ≡ 0) → tests_of rows ≡ replicate 512 false
unfolding test_of
none_holds rows zeros =
    ext_get_or true (tests_of rows) (replicate 512 false) (tests_length rows ∙ sym (length-replicate 512 false)) (λ k l.
    let within : k < 512 = omega (arith, tests_length rows) in
    test_at rows k true within ∙ (rw (zeros (k / 64)) (ne_eqb _ _ (let z = bit_at-zero (k % 64) in omega arith)) ∙ sym (get_or-replicate 512 k false true within)))

pub zero_rows : (n row : ℕ) → get_or {A = ℕ} (replicate n 0) row 0 ≡ 0
zero_rows zero row = refl
zero_rows (suc n) zero = refl
zero_rows (suc n) (suc row) = zero_rows n row

-- a full row's tests hold
pub full_row : (rows : List ℕ) (row : ℕ) → row < 8 → get_or rows row 0 ≡ 2 ^ 64 - 1 → (k : ℕ) → k / 64 ≡ row → get_or (tests_of rows) k true ≡ true
unfolding test_of
full_row rows row low full k at =
    test_at rows k true (omega arith) ∙ (rw (at, full) (eq-eqb _ _ (bit_at_ones 64 (k % 64) (omega arith))))

pub lowest_in_row : (rows : List ℕ) (row : ℕ) → row < 8 → get_or rows row 0 < 2 ^ 64 → get_or rows row 0 ≢ 2 ^ 64 - 1 → ((k : ℕ) → k < 64 * row → get_or (tests_of rows) k true ≡ true) → least_free (tests_of rows) ≡ 64 * row + trailing_ones w64 (get_or rows row 0)
unfolding test_of least_free
lowest_in_row rows row low fits gap before =
    let n = get_or rows row 0 in
    let lowest = bit_at-trailing_ones w64 n (omega arith) in
    let place = 64 * row + trailing_ones w64 n in
    let row_is : place / 64 ≡ row = omega (arith, lowest.0) in
    let bit_is : place % 64 ≡ trailing_ones w64 n = omega (arith, lowest.0) in
    position_or_len_is not (tests_of rows) place true (omega (arith, tests_length rows, lowest.0))
    (λ k l. elim (cases_lt k (64 * row)) [
      | inl early ↦ ap not (before k early)
      | inr late ↦
          let at : k / 64 ≡ row = omega (arith, lowest.0) in
          let bit : test_of rows k ≡ true = rw at (eq-eqb _ _ (lowest.2 (k % 64) (omega arith))) in
          ap not (test_at rows k true (omega (arith, lowest.0)) ∙ bit)
    ])
    (λ l.
    let bit : test_of rows place ≡ false = rw (row_is, bit_is) (ne_eqb _ _ (let z = lowest.1 in omega arith)) in
    ap not (test_at rows place true (omega (arith, lowest.0)) ∙ bit))

pub all_hold : (rows : List ℕ) → ((k : ℕ) → k < 512 → get_or (tests_of rows) k true ≡ true) → least_free (tests_of rows) ≡ 512
unfolding least_free
all_hold rows full =
    position_or_len_is not (tests_of rows) 512 true (omega (arith, tests_length rows)) (λ k l. ap not (full k l)) (λ l. absurd (omega (arith, tests_length rows)))
