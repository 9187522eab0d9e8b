-- An instruction of either processor on a line. All of it is own.
use Rattle.std.specs.Prelude.{ℕ, List, [], ◌∷◌, Option, Some, None, slice_index}
use Rattle.cpm_decode.specs.Rows8080.{decoded8080}
use Rattle.cpm_decode.specs.declared.operation.Decoded.{Decoded}
use Rattle.cpm_flags.specs.declared.regs.Cpu.{Cpu}
use Rattle.cpm_flags.specs.declared.regs.Cpu.TheVariants.{I8080, Z80}
use Rattle.cpm_listing.specs.Listing.{list_line}
use Rattle.cpm_listing.specs.ListingZ80.{length_z80, list_line_z80}

abbrev pub first_three : List ℕ → List ℕ
first_three bytes = slice_index bytes 0 ∷ slice_index bytes 1 ∷ slice_index bytes 2 ∷ []

-- how many bytes a row of the 8080 takes; a byte that has none is listed alone
abbrev pub length_of : Option Decoded → ℕ
length_of (Some d) = d.length
length_of None = 1

-- how many bytes the instruction of the 8080 has that begins three bytes
unfoldable pub length_8080 : List ℕ → ℕ
length_8080 bytes = length_of (decoded8080 (slice_index bytes 0) (slice_index bytes 1) (slice_index bytes 2))

-- how many bytes the instruction of a processor has that begins four bytes
abbrev pub instruction_length : Cpu → List ℕ → ℕ
instruction_length I8080 bytes = length_8080 (first_three bytes)
instruction_length Z80 bytes = length_z80 bytes

-- the instruction of a processor that begins four bytes at an address
abbrev pub instruction_line : Cpu → ℕ → List ℕ → List ℕ
instruction_line I8080 address bytes = list_line address (first_three bytes)
instruction_line Z80 address bytes = list_line_z80 address bytes
