-- Bytes that are read as an entry or a file control block, and written back.
use Rattle.std.proofs.Common.{◌≡◌, ◌≢◌, ℕ, ◌+◌, ◌-◌, ◌*◌, ◌/◌, ◌%◌, ◌<◌, ◌≤◌, List, [], ◌∷◌, length, get_or, drop, map, sym, refl, ap, ◌∙◌, inl, inr, arith}
use Rattle.std.specs.List.{range_with_len, slice_range}
use Rattle.std.proofs.lemmas.List.{get_or-take, length-drop}
use Rattle.std.proofs.Common.{length-take}
use Rattle.std.proofs.lemmas.Grind.{get_or_after_one, same_number_lists}
use Rattle.std.proofs.lemmas.List.FromFn.{fill_by_all, get_or-map-range_with_len}
use Rattle.std.proofs.lemmas.Bool.{cases_eq, cases_lt, eq-eqb, ne_eqb, lt-ltb, le-ltb}
use Rattle.cpm_geom.specs.declared.dpb.Dpb.{Dpb}
use Rattle.cpm_volume.specs.declared.extent.Extent.{Extent}
use Rattle.cpm_volume.specs.declared.extent.Entry.{Entry}
use Rattle.cpm_volume.specs.declared.fcb.Fcb.{Fcb}
use Rattle.cpm_volume.specs.Encoding.{block_number_in, extent_of, entry_of, fcb_of, map_byte, extent_byte, entry_byte, fcb_byte, entry_bytes, fcb_bytes, place_limit, IsStorable, AreBytes}

number_byte : (d : Dpb) (bytes : List ℕ) (place : ℕ) → d.last_block < 256 → block_number_in d bytes place ≡ get_or bytes (16 + place) 0
unfolding block_number_in
number_byte d bytes place small = rw (lt-ltb _ _ small) refl

number_word : (d : Dpb) (bytes : List ℕ) (place : ℕ) → 256 ≤ d.last_block → place < 8 → block_number_in d bytes place ≡ get_or bytes (16 + 2 * place) 0 + 256 * get_or bytes (17 + 2 * place) 0
unfolding block_number_in
number_word d bytes place large h = rw (le-ltb _ _ large, lt-ltb _ _ h) refl

number_past : (d : Dpb) (bytes : List ℕ) (place : ℕ) → 256 ≤ d.last_block → 8 ≤ place → block_number_in d bytes place ≡ 0
unfolding block_number_in
number_past d bytes place large h = rw (le-ltb _ _ large, le-ltb _ _ h) refl

byte_small : (d : Dpb) (blocks : List ℕ) (place : ℕ) → d.last_block < 256 → map_byte d blocks place ≡ get_or blocks place 0 % 256
unfolding map_byte
byte_small d blocks place small = rw (lt-ltb _ _ small) refl

byte_even : (d : Dpb) (blocks : List ℕ) (place half : ℕ) → 256 ≤ d.last_block → place ≡ 2 * half → map_byte d blocks place ≡ get_or blocks half 0 % 256
unfolding map_byte
byte_even d blocks place half large e =
    let even : place % 2 ≡ 0 = omega arith in
    let same : place / 2 ≡ half = omega arith in
    rw (le-ltb _ _ large, eq-eqb _ _ even, same) refl

byte_odd : (d : Dpb) (blocks : List ℕ) (place half : ℕ) → 256 ≤ d.last_block → place ≡ 1 + 2 * half → map_byte d blocks place ≡ get_or blocks half 0 / 256
unfolding map_byte
byte_odd d blocks place half large e =
    let odd : place % 2 ≢ 0 = λ z. omega arith in
    let same : place / 2 ≡ half = omega arith in
    rw (le-ltb _ _ large, ne_eqb _ _ odd, same) refl

-- a byte of a map that was read
map_back : (d : Dpb) (bytes blocks : List ℕ) (place : ℕ) → ((k : ℕ) → get_or bytes k 0 < 256) → ((k : ℕ) → k < 16 → get_or blocks k 0 ≡ block_number_in d bytes k) → place < 16 → map_byte d blocks place ≡ get_or bytes (16 + place) 0
map_back d bytes blocks place fit at h =
    elim (cases_lt d.last_block 256) [
      | inl small ↦
          let number = at place h ∙ number_byte d bytes place small in
          let byte = fit (16 + place) in
          byte_small d blocks place small ∙ omega arith
      | inr large ↦
          let number = at (place / 2) (omega arith) ∙ number_word d bytes (place / 2) large (omega arith) in
          let low = fit (16 + 2 * (place / 2)) in
          let high = fit (17 + 2 * (place / 2)) in
          elim (cases_eq (place % 2) 0) [
            | inl even ↦
                let here = ap (λ k. get_or bytes k 0) (let e : 16 + 2 * (place / 2) ≡ 16 + place = omega arith in e) in
                byte_even d blocks place (place / 2) large (omega arith) ∙ omega arith
            | inr odd ↦
                let here = ap (λ k. get_or bytes k 0) (let e : 17 + 2 * (place / 2) ≡ 16 + place = omega arith in e) in
                byte_odd d blocks place (place / 2) large (omega arith) ∙ omega arith
          ]
    ]

-- a byte of an extent that was read
extent_back : (d : Dpb) (bytes : List ℕ) (k : ℕ) → ((i : ℕ) → get_or bytes i 0 < 256) → 1 ≤ k → k < 32 → extent_byte d (extent_of d bytes) k ≡ get_or bytes k 0
unfolding extent_byte extent_of
extent_back d bytes k fit low high =
    elim (cases_lt k 12) [
      | inl name ↦ rw (lt-ltb _ _ name) (get_or-take 11 (drop 1 bytes) (k - 1) 0 (omega arith) ∙ (get_or_after_one bytes (k - 1) 0 ∙ ap (λ i. get_or bytes i 0) (let e : 1 + (k - 1) ≡ k = omega arith in e)))
      | inr later ↦ rw (le-ltb _ _ later) (elim (cases_eq k 12) [
        | inl e ↦ rw e refl
        | inr n12 ↦ rw (ne_eqb _ _ n12) (elim (cases_eq k 13) [
          | inl e ↦ rw e refl
          | inr n13 ↦ rw (ne_eqb _ _ n13) (elim (cases_eq k 14) [
            | inl e ↦ rw e refl
            | inr n14 ↦ rw (ne_eqb _ _ n14) (elim (cases_eq k 15) [
              | inl e ↦ rw e refl
              | inr n15 ↦ rw (ne_eqb _ _ n15) (map_back d bytes (map (block_number_in d bytes) (range_with_len 0 16)) (k - 16) fit (λ j l. get_or-map-range_with_len (block_number_in d bytes) 0 16 j j 0 l (omega arith)) (omega arith) ∙ ap (λ i. get_or bytes i 0) (let e : 16 + (k - 16) ≡ k = omega arith in e))
            ])
          ])
        ])
      ])
    ]

entry_back : (d : Dpb) (bytes : List ℕ) (k : ℕ) → ((i : ℕ) → get_or bytes i 0 < 256) → k < 32 → entry_byte d (entry_of d bytes) k ≡ get_or bytes k 0
unfolding entry_byte entry_of
entry_back d bytes k fit h =
    elim (cases_eq k 0) [
      | inl e ↦ rw e refl
      | inr n ↦ rw (ne_eqb _ _ n) (extent_back d bytes k fit (omega arith) h)
    ]

pub same_entry_bytes : (d : Dpb) (bytes : List ℕ) → AreBytes 32 bytes → entry_bytes d (entry_of d bytes) ≡ bytes
unfolding entry_bytes
same_entry_bytes d bytes h =
    sym (fill_by_all (entry_byte d (entry_of d bytes)) bytes 32 0 h.count (λ k l. sym (entry_back d bytes k h.bytes_fit l)))

fcb_back : (d : Dpb) (bytes : List ℕ) (k : ℕ) → ((i : ℕ) → get_or bytes i 0 < 256) → k < 36 → fcb_byte d (fcb_of d bytes) k ≡ get_or bytes k 0
unfolding fcb_byte fcb_of
fcb_back d bytes k fit h =
    elim (cases_eq k 0) [
      | inl e ↦ rw e refl
      | inr n ↦ rw (ne_eqb _ _ n) (elim (cases_lt k 32) [
        | inl lt ↦ rw (lt-ltb _ _ lt) (extent_back d bytes k fit (omega arith) lt)
        | inr ge ↦ rw (le-ltb _ _ ge) (elim (cases_eq k 32) [
          | inl e ↦ rw e refl
          | inr n32 ↦ rw (ne_eqb _ _ n32) (elim (cases_eq k 33) [
            | inl e ↦ rw e refl
            | inr n33 ↦ elim (cases_eq k 34) [
              | inl e ↦ rw e refl
              | inr n34 ↦ let e : k ≡ 35 = omega arith in rw e refl
            ]
          ])
        ])
      ])
    ]

pub same_fcb_bytes : (d : Dpb) (bytes : List ℕ) → AreBytes 36 bytes → fcb_bytes d (fcb_of d bytes) ≡ bytes
unfolding fcb_bytes
same_fcb_bytes d bytes h =
    sym (fill_by_all (fcb_byte d (fcb_of d bytes)) bytes 36 0 h.count (λ k l. sym (fcb_back d bytes k h.bytes_fit l)))

-- where the map of an extent begins
byte_of_map : (d : Dpb) (x : Extent) (place : ℕ) → extent_byte d x (16 + place) ≡ map_byte d x.blocks place
unfolding extent_byte
byte_of_map d x place =
    let n12 : 16 + place ≢ 12 = λ e. omega arith in
    let n13 : 16 + place ≢ 13 = λ e. omega arith in
    let n14 : 16 + place ≢ 14 = λ e. omega arith in
    let n15 : 16 + place ≢ 15 = λ e. omega arith in
    let same : 16 + place - 16 ≡ place = omega arith in
    rw (le-ltb (16 + place) 12 (omega arith), ne_eqb _ _ n12, ne_eqb _ _ n13, ne_eqb _ _ n14, ne_eqb _ _ n15, same) refl

-- a number of a map that was written
number_back : (d : Dpb) (x : Extent) (bytes : List ℕ) (place : ℕ) → IsStorable d x → ((k : ℕ) → 1 ≤ k → k < 32 → get_or bytes k 0 ≡ extent_byte d x k) → place < 16 → block_number_in d bytes place ≡ get_or x.blocks place 0
unfolding place_limit
number_back d x bytes place storable at h =
    let room = storable.numbers place h in
    elim (cases_lt d.last_block 256) [
      | inl small ↦
          let below : get_or x.blocks place 0 < 256 = rw (lt-ltb _ _ small) at room in
          let byte = at (16 + place) (omega arith) (omega arith) ∙ (byte_of_map d x place ∙ byte_small d x.blocks place small) in
          number_byte d bytes place small ∙ omega arith
      | inr large ↦ elim (cases_lt place 8) [
        | inl word ↦
            let below : get_or x.blocks place 0 < 65536 = rw (le-ltb _ _ large, lt-ltb _ _ word) at room in
            let low = at (16 + 2 * place) (omega arith) (omega arith) ∙ (byte_of_map d x (2 * place) ∙ byte_even d x.blocks (2 * place) place large refl) in
            let next : 17 + 2 * place ≡ 16 + (1 + 2 * place) = omega arith in
            let high = at (17 + 2 * place) (omega arith) (omega arith) ∙ (ap (extent_byte d x) next ∙ (byte_of_map d x (1 + 2 * place) ∙ byte_odd d x.blocks (1 + 2 * place) place large refl)) in
            number_word d bytes place large word ∙ omega arith
        | inr past ↦
            let none : get_or x.blocks place 0 < 1 = rw (le-ltb _ _ large, le-ltb _ _ past) at room in
            number_past d bytes place large past ∙ omega arith
      ]
    ]

-- a character of a name that was written
name_back : (d : Dpb) (x : Extent) (bytes : List ℕ) (k : ℕ) → ((i : ℕ) → 1 ≤ i → i < 32 → get_or bytes i 0 ≡ extent_byte d x i) → k < 11 → get_or (slice_range bytes 1 12) k 0 ≡ get_or x.name k 0
unfolding extent_byte
name_back d x bytes k at h =
    let same : 1 + k - 1 ≡ k = omega arith in
    get_or-take 11 (drop 1 bytes) k 0 h ∙ (get_or_after_one bytes k 0 ∙ (at (1 + k) (omega arith) (omega arith) ∙ rw (lt-ltb (1 + k) 12 (omega arith), same) refl))

-- an extent that was written and is read
pub same_extent : (d : Dpb) (x : Extent) (bytes : List ℕ) → IsStorable d x → 32 ≤ length bytes → ((k : ℕ) → 1 ≤ k → k < 32 → get_or bytes k 0 ≡ extent_byte d x k) → extent_of d bytes ≡ x
unfolding extent_of extent_byte
same_extent d x bytes storable size at =
    let size_11 : length (slice_range bytes 1 12) ≡ 11 = simp (length-take, length-drop) (omega arith) in
    let count : length (slice_range bytes 1 12) ≡ length x.name = size_11 ∙ sym storable.name in
    let name : slice_range bytes 1 12 ≡ x.name = same_number_lists _ _ count (λ k h. name_back d x bytes k at (omega arith)) in
    let ex : get_or bytes 12 0 ≡ x.ex = at 12 (omega arith) (omega arith) in
    let s1 : get_or bytes 13 0 ≡ x.s1 = at 13 (omega arith) (omega arith) in
    let s2 : get_or bytes 14 0 ≡ x.s2 = at 14 (omega arith) (omega arith) in
    let records : get_or bytes 15 0 ≡ x.record_count = at 15 (omega arith) (omega arith) in
    let blocks : map (block_number_in d bytes) (range_with_len 0 16) ≡ x.blocks = sym (fill_by_all (block_number_in d bytes) x.blocks 16 0 storable.map (λ k h. sym (number_back d x bytes k storable at h))) in
    rw (name, ex, s1, s2, records, blocks) refl

pub same_entry : (d : Dpb) (e : Entry) → IsStorable d e.extent → entry_of d (entry_bytes d e) ≡ e
unfolding entry_of entry_bytes entry_byte
same_entry d e storable =
    let x = same_extent d e.extent (map (entry_byte d e) (range_with_len 0 32)) storable (omega arith) (λ k low high. get_or-map-range_with_len (entry_byte d e) 0 32 k k 0 high (omega arith) ∙ rw (ne_eqb k 0 (λ z. omega arith)) refl) in
    rw x refl

three : (xs : List ℕ) → length xs ≡ 3 → get_or xs 0 0 ∷ get_or xs 1 0 ∷ get_or xs 2 0 ∷ [] ≡ xs
three [] h = absurd (omega arith)
three (a ∷ []) h = absurd (omega arith)
three (a ∷ b ∷ []) h = absurd (omega arith)
three (a ∷ b ∷ c ∷ []) h = refl
three (a ∷ b ∷ c ∷ e ∷ rest) h = absurd (omega arith)

pub same_fcb : (d : Dpb) (f : Fcb) → IsStorable d f.extent → length f.random_record ≡ 3 → fcb_of d (fcb_bytes d f) ≡ f
unfolding fcb_of fcb_bytes fcb_byte
same_fcb d f storable size =
    let x = same_extent d f.extent (map (fcb_byte d f) (range_with_len 0 36)) storable (omega arith) (λ k low high. get_or-map-range_with_len (fcb_byte d f) 0 36 k k 0 (omega arith) (omega arith) ∙ rw (ne_eqb k 0 (λ z. omega arith), lt-ltb k 32 high) refl) in
    let random : get_or f.random_record 0 0 ∷ get_or f.random_record 1 0 ∷ get_or f.random_record 2 0 ∷ [] ≡ f.random_record = three f.random_record size in
    rw (x, random) refl
