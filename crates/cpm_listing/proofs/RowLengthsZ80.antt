-- An instruction of the Z80 has one to four bytes.
use Rattle.std.proofs.Common.{◌≡◌, ℕ, ◌+◌, ◌≤◌, Bool, true, false, ◌&&◌, ◌==◌, leb, List, [], ◌∷◌, Option, Some, None, subst, sym}
use Rattle.std.specs.Option.{option_map}
use Rattle.std.proofs.Math.Facts.{leb_yes, and_yes}
use Rattle.std.proofs.Math.Dec.{T}
use Rattle.cpm_decode.specs.declared.operation.Decoded.{Decoded}
use Rattle.cpm_decode.specs.declared.operation_z80.IndexRegister.{IndexRegister}
use Rattle.cpm_decode.specs.declared.operation_z80.IndexRegister.TheVariants.{Ix, Iy}
use Rattle.cpm_decode.specs.declared.operation_z80.DecodedZ80.{DecodedZ80}
use Rattle.cpm_decode.specs.Pattern.{fits_pattern, field}
use Rattle.cpm_decode.specs.Rows8080.{Row8080, rows8080, first_row, decoded_by, decoded8080}
use Rattle.cpm_decode.specs.PageZ80.{RowZ80, first_row_z80, decoded_with}
use Rattle.cpm_decode.specs.RowsZ80Bits.{bit_rows, indexed_bit_rows, decoded_bits, decoded_indexed_bits}
use Rattle.cpm_decode.specs.RowsZ80Extended.{extended_rows, decoded_extended}
use Rattle.cpm_decode.specs.RowsZ80Index.{is_replaced, displaced_rows, with_index, decoded_displaced, decoded_index}
use Rattle.cpm_decode.specs.RowsZ80.{own_rows, decoded_own, row_of_8080, decoded_shared, decoded_plain, decoded_prefixed, decodedz80}

-- an instruction has one to four bytes
abbrev is_short : ℕ → Bool
is_short n = leb 1 n && leb n 4

-- no row, or a row of one to four bytes
abbrev IsShort : Option DecodedZ80 → Type 0
IsShort (Some d) = T (is_short d.length)
IsShort None = Unit {0}

-- no row of the 8080, or one whose length passes a test
abbrev Has : (ℕ → Bool) → Option Decoded → Type 0
Has test (Some d) = T (test d.length)
Has test None = Unit {0}

abbrev all_have : (ℕ → Bool) → List Row8080 → Bool
all_have test [] = true
all_have test (r ∷ rows) = test r.length && all_have test rows

first_has : (test : ℕ → Bool) (rows : List Row8080) (opcode low high : ℕ) → T (all_have test rows) → Has test (first_row rows opcode low high)
first_has test [] opcode low high h = tt
first_has test (r ∷ rows) opcode low high h =
    let both = and_yes (test r.length) (all_have test rows) h in
    elim (fits_pattern r.pattern opcode) as (λ b. Has test (elim b [ true ↦ Some (decoded_by r opcode low high) | false ↦ first_row rows opcode low high ])) [ true ↦ both.0 | false ↦ first_has test rows opcode low high both.1 ]

short_shared : (opcode low high : ℕ) → IsShort (decoded_shared opcode low high)
unfolding decoded8080
short_shared opcode low high =
    elim (first_row rows8080 opcode low high) as (λ o. Has is_short o → IsShort (option_map row_of_8080 o)) [ Some d ↦ λ h. h | None ↦ λ h. tt ] (first_has is_short rows8080 opcode low high tt)

-- a row of the 8080 behind a prefix
abbrev is_short_behind : ℕ → Bool
is_short_behind n = is_short (1 + n)

short_with_index : (i : IndexRegister) (opcode low high : ℕ) → IsShort (option_map (with_index i) (decoded8080 opcode low high))
unfolding decoded8080
short_with_index i opcode low high =
    elim (first_row rows8080 opcode low high) as (λ o. Has is_short_behind o → IsShort (option_map (with_index i) o)) [ Some d ↦ λ h. h | None ↦ λ h. tt ] (first_has is_short_behind rows8080 opcode low high tt)

-- the rows of a page
abbrev AreShort : List RowZ80 → Type 0
AreShort [] = Unit {0}
AreShort (r ∷ rows) = ((f : ℕ → ℕ) (low high : ℕ) → IsShort (option_map (decoded_with r.length) (r.operation f low high))) × AreShort rows

first_is_short_z80 : (rows : List RowZ80) (opcode low high : ℕ) → AreShort rows → IsShort (first_row_z80 rows opcode low high)
first_is_short_z80 [] opcode low high h = tt
first_is_short_z80 (r ∷ rows) opcode low high h =
    elim (fits_pattern r.pattern opcode) as (λ b. IsShort (elim b [ true ↦ option_map (decoded_with r.length) (r.operation (field r.pattern opcode) low high) | false ↦ first_row_z80 rows opcode low high ])) [
      | true ↦ h.0 (field r.pattern opcode) low high
      | false ↦ first_is_short_z80 rows opcode low high h.1
    ]

abbrev One : (f : ℕ → ℕ) (low high : ℕ) → Unit {0}
One f low high = tt

short_bits : (opcode : ℕ) → IsShort (decoded_bits opcode)
unfolding decoded_bits
short_bits opcode = first_is_short_z80 bit_rows opcode 0 0 (One, (One, (One, (One, (One, tt)))))

short_indexed_bits : (i : IndexRegister) (displacement opcode : ℕ) → IsShort (decoded_indexed_bits i displacement opcode)
unfolding decoded_indexed_bits
short_indexed_bits i displacement opcode = first_is_short_z80 (indexed_bit_rows i displacement) opcode 0 0 (One, (One, (One, (One, (One, tt)))))

short_extended : (opcode low high : ℕ) → IsShort (decoded_extended opcode low high)
unfolding decoded_extended
short_extended opcode low high =
    first_is_short_z80 extended_rows opcode low high
    (One, (One, (One, (One, (One, (One, (One, (One, (One, (One, (One, (One, (One, (One, (One, (One, (One, (One, (One, (One, (One, (One, (One, (One, tt))))))))))))))))))))))))

short_displaced : (i : IndexRegister) (opcode low high : ℕ) → IsShort (decoded_displaced i opcode low high)
unfolding decoded_displaced
short_displaced i opcode low high = first_is_short_z80 (displaced_rows i) opcode low high (One, (One, (One, (One, (One, (One, (One, tt)))))))

short_own : (opcode low : ℕ) → IsShort (decoded_own opcode low)
unfolding decoded_own
short_own opcode low = first_is_short_z80 own_rows opcode low 0 (One, (One, (One, (One, (One, tt)))))

-- the rows of all pages
short_index : (i : IndexRegister) (opcode low high : ℕ) → IsShort (decoded_index i opcode low high)
unfolding decoded_index
short_index i opcode low high =
    elim (is_replaced opcode) as (λ b. IsShort (elim b [ true ↦ option_map (with_index i) (decoded8080 opcode low high) | false ↦ decoded_displaced i opcode low high ])) [
      | true ↦ short_with_index i opcode low high
      | false ↦ short_displaced i opcode low high
    ]

short_prefixed : (i : IndexRegister) (second third fourth : ℕ) → IsShort (decoded_prefixed i second third fourth)
unfolding decoded_prefixed
short_prefixed i second third fourth =
    elim (second == 0xCB) as (λ b. IsShort (elim b [ true ↦ decoded_indexed_bits i third fourth | false ↦ decoded_index i second third fourth ])) [
      | true ↦ short_indexed_bits i third fourth
      | false ↦ short_index i second third fourth
    ]

short_plain : (opcode low high : ℕ) → IsShort (decoded_plain opcode low high)
unfolding decoded_plain
short_plain opcode low high =
    elim (decoded_own opcode low) as (λ o. IsShort o → IsShort (elim o [ Some decoded ↦ Some decoded | None ↦ decoded_shared opcode low high ])) [
      | Some d ↦ λ h. h
      | None ↦ λ h. short_shared opcode low high
    ] (short_own opcode low)

short_row : (first second third fourth : ℕ) → IsShort (decodedz80 first second third fourth)
unfolding decodedz80
short_row first second third fourth =
    elim (first == 0xCB) as (λ b. IsShort (elim b [
      | true ↦ decoded_bits second
      | false ↦ elim (first == 0xED) [
        | true ↦ decoded_extended second third fourth
        | false ↦ elim (first == 0xDD) [
          | true ↦ decoded_prefixed Ix second third fourth
          | false ↦ elim (first == 0xFD) [ true ↦ decoded_prefixed Iy second third fourth | false ↦ decoded_plain first second third ]
        ]
      ]
    ])) [
      | true ↦ short_bits second
      | false ↦ elim (first == 0xED) as (λ b. IsShort (elim b [
        | true ↦ decoded_extended second third fourth
        | false ↦ elim (first == 0xDD) [
          | true ↦ decoded_prefixed Ix second third fourth
          | false ↦ elim (first == 0xFD) [ true ↦ decoded_prefixed Iy second third fourth | false ↦ decoded_plain first second third ]
        ]
      ])) [
        | true ↦ short_extended second third fourth
        | false ↦ elim (first == 0xDD) as (λ b. IsShort (elim b [
          | true ↦ decoded_prefixed Ix second third fourth
          | false ↦ elim (first == 0xFD) [ true ↦ decoded_prefixed Iy second third fourth | false ↦ decoded_plain first second third ]
        ])) [
          | true ↦ short_prefixed Ix second third fourth
          | false ↦ elim (first == 0xFD) as (λ b. IsShort (elim b [ true ↦ decoded_prefixed Iy second third fourth | false ↦ decoded_plain first second third ])) [
            | true ↦ short_prefixed Iy second third fourth
            | false ↦ short_plain first second third
          ]
        ]
      ]
    ]

-- as it is cited
pub row_is_short_z80 : (first second third fourth : ℕ) (d : DecodedZ80) → Some d ≡ decodedz80 first second third fourth → (1 ≤ d.length) × (d.length ≤ 4)
row_is_short_z80 first second third fourth d e =
    let both = and_yes (leb 1 d.length) (leb d.length 4) (subst IsShort (sym e) (short_row first second third fourth)) in
    (leb_yes both.0, leb_yes both.1)
