-- Each instruction of the 8080 has a byte.
use Rattle.std.proofs.Common.{◌≡◌, ◌&&◌, subst, ℕ, ◌≤◌, Bool, true, false, leb, List, [], ◌∷◌, Option, Some}
use Rattle.std.proofs.Math.Facts.{leb_yes, and_yes}
use Rattle.std.proofs.Math.Dec.{T}
use Rattle.cpm_decode.specs.declared.operation.Decoded.{Decoded}
use Rattle.cpm_decode.specs.Pattern.{fits_pattern}
use Rattle.cpm_decode.specs.Rows8080.{Row8080, rows8080, first_row, decoded_by, decoded8080}
use Rattle.cpm_listing.specs.Instruction.{length_of}

abbrev have_bytes : List Row8080 → Bool
have_bytes [] = true
have_bytes (r ∷ rows) = leb 1 r.length && have_bytes rows

first_has : (rows : List Row8080) (opcode low high : ℕ) → T (have_bytes rows) → 1 ≤ length_of (first_row rows opcode low high)
first_has [] opcode low high h = leb_yes tt
first_has (r ∷ rows) opcode low high h =
    let both = and_yes (leb 1 r.length) (have_bytes rows) h in
    elim (fits_pattern r.pattern opcode) as (λ b. 1 ≤ length_of (elim b [ true ↦ Some (decoded_by r opcode low high) | false ↦ first_row rows opcode low high ])) [ true ↦ leb_yes both.0 | false ↦ first_has rows opcode low high both.1 ]

row_has_bytes : (opcode low high : ℕ) → 1 ≤ length_of (decoded8080 opcode low high)
unfolding decoded8080
row_has_bytes opcode low high = first_has rows8080 opcode low high tt

some_length : (o : Option Decoded) (d : Decoded) → o ≡ Some d → 1 ≤ length_of o → 1 ≤ d.length
some_length o d is h = subst (λ (p : Option Decoded). 1 ≤ length_of p) is h

pub row_length : (opcode low high : ℕ) (d : Decoded) → decoded8080 opcode low high ≡ Some d → 1 ≤ d.length
row_length opcode low high d is = some_length (decoded8080 opcode low high) d is (row_has_bytes opcode low high)
