-- An instruction of the Z80 on a line. The places are own.
use Rattle.std.specs.Prelude.{ℕ, ◌+◌, ◌%◌, List, codes, take, Option, Some, None, slice_index}
use Rattle.cpm_decode.specs.declared.operation_z80.DecodedZ80.{DecodedZ80}
use Rattle.cpm_decode.specs.RowsZ80.{decodedz80}
use Rattle.cpm_listing.specs.Listing.{byte_number, statement, listing_line}
use Rattle.cpm_listing.specs.MnemonicsZ80.{mnemonic_z80}
use Rattle.cpm_listing.specs.OperandsZ80.{operands_z80}

-- the row of the instruction that begins four bytes
abbrev pub row_at : List ℕ → Option DecodedZ80
row_at bytes = decodedz80 (slice_index bytes 0) (slice_index bytes 1) (slice_index bytes 2) (slice_index bytes 3)

-- how many bytes a row takes; a byte that begins none is listed alone
abbrev pub length_of_row : Option DecodedZ80 → ℕ
length_of_row (Some d) = d.length
length_of_row None = 1

-- how many bytes the instruction has that begins four bytes
unfoldable pub length_z80 : List ℕ → ℕ
length_z80 bytes = length_of_row (row_at bytes)

-- the bytes that have this row, from a list that begins with them, in eleven places; where none fits, DB of the first byte
abbrev pub listed_row_z80 : ℕ → List ℕ → Option DecodedZ80 → List ℕ
listed_row_z80 address bytes (Some d) =
    listing_line 11 address (take d.length bytes) (statement (mnemonic_z80 d.op) (operands_z80 ((address + d.length) % 0x10000) d.op))
listed_row_z80 address bytes None = listing_line 11 address (take 1 bytes) (statement (codes "DB") (byte_number (slice_index bytes 0)))

-- the instruction that begins four bytes at an address
unfoldable pub list_line_z80 : ℕ → List ℕ → List ℕ
list_line_z80 address bytes = listed_row_z80 address bytes (row_at bytes)
