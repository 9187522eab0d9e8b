-- No instruction of the 8080 is longer than three bytes.
use Rattle.std.proofs.Common.{◌≡◌, ℕ, ◌≤◌, Bool, true, false, ◌&&◌, leb, List, [], ◌∷◌, Option, Some, None, subst, sym}
use Rattle.std.proofs.Math.Facts.{leb_yes, and_yes}
use Rattle.std.proofs.Math.Dec.{T}
use Rattle.cpm_decode.specs.declared.operation.Decoded.{Decoded}
use Rattle.cpm_decode.specs.Pattern.{fits_pattern}
use Rattle.cpm_decode.specs.Rows8080.{Row8080, rows8080, first_row, decoded_by, decoded8080}

abbrev are_short : List Row8080 → Bool
are_short [] = true
are_short (r ∷ rows) = leb r.length 3 && are_short rows

abbrev IsShort : Option Decoded → Type 0
IsShort (Some d) = d.length ≤ 3
IsShort None = Unit {0}

first_is_short : (rows : List Row8080) (opcode low high : ℕ) → T (are_short rows) → IsShort (first_row rows opcode low high)
first_is_short [] opcode low high h = tt
first_is_short (r ∷ rows) opcode low high h =
    let both = and_yes (leb r.length 3) (are_short rows) h in
    elim (fits_pattern r.pattern opcode) as (λ b. IsShort (elim b [ true ↦ Some (decoded_by r opcode low high) | false ↦ first_row rows opcode low high ])) [ true ↦ leb_yes both.0 | false ↦ first_is_short rows opcode low high both.1 ]

pub row_is_short : (opcode low high : ℕ) (d : Decoded) → Some d ≡ decoded8080 opcode low high → d.length ≤ 3
unfolding decoded8080
row_is_short opcode low high d e = subst IsShort (sym e) (first_is_short rows8080 opcode low high tt)
