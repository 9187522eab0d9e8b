-- An instruction of the 8080 on a line. The places are own.
use Rattle.std.specs.Prelude.{ℕ, ◌/◌, ◌%◌, List, [], ◌∷◌, ◌++◌, codes, take, Option, Some, None, slice_index}
use Rattle.cpm_decode.specs.declared.operation.Op.{Op}
use Rattle.cpm_decode.specs.declared.operation.Op.TheVariants as op
use Rattle.cpm_decode.specs.declared.operation.Decoded.{Decoded}
use Rattle.cpm_decode.specs.Rows8080.{decoded8080}
use Rattle.cpm_listing.specs.Digits.{two_digits, four_digits, spaced, padded}
use Rattle.cpm_listing.specs.Mnemonics.{place_name, pair_name, stack_pair_name, mnemonic_of}

-- a byte as a source has it: 0hhH
-- Intel 8080 Assembly Language Programming Manual, "Operand Field"
unfoldable pub byte_number : ℕ → List ℕ
byte_number n = codes "0" ++ two_digits n ++ codes "H"

-- a word as a source has it: 0hhhhH
unfoldable pub word_number : ℕ → List ℕ
word_number n = codes "0" ++ four_digits n ++ codes "H"

-- the number of the restart that calls an address, which is eight times the number
-- Intel 8080 Assembly Language Programming Manual, "RST Instruction"
abbrev pub restart_of : ℕ → ℕ
restart_of address = address / 8 % 8

-- the operands of an operation, a comma between two; none where it has none
unfoldable pub operands_of : Op → List ℕ
operands_of (op.Move target source) = place_name target ++ codes "," ++ place_name source
operands_of (op.MoveImmediate target byte) = place_name target ++ codes "," ++ byte_number byte
operands_of (op.Increment target) = place_name target
operands_of (op.Decrement target) = place_name target
operands_of (op.LoadPair target word) = pair_name target ++ codes "," ++ word_number word
operands_of (op.IncrementPair target) = pair_name target
operands_of (op.DecrementPair target) = pair_name target
operands_of (op.AddPair source) = pair_name source
operands_of (op.StoreAAtPair target) = pair_name target
operands_of (op.LoadAAtPair source) = pair_name source
operands_of (op.StoreHl address) = word_number address
operands_of (op.LoadHl address) = word_number address
operands_of (op.StoreA address) = word_number address
operands_of (op.LoadA address) = word_number address
operands_of (op.Arithmetic operation source) = place_name source
operands_of (op.ArithmeticImmediate operation byte) = byte_number byte
operands_of (op.Jump address) = word_number address
operands_of (op.JumpIf c address) = word_number address
operands_of (op.Call address) = word_number address
operands_of (op.CallIf c address) = word_number address
operands_of (op.Restart address) = byte_number (restart_of address)
operands_of (op.Push source) = stack_pair_name source
operands_of (op.Pop target) = stack_pair_name target
operands_of (op.Input port) = byte_number port
operands_of (op.Output port) = byte_number port
operands_of _ = []

-- a name alone, or in four places with its operands after a space
unfoldable pub statement : List ℕ → List ℕ → List ℕ
statement name [] = name
statement name (c ∷ cs) = padded 4 name ++ codes " " ++ c ∷ cs

-- an address, its bytes in so many places, and a statement
unfoldable pub listing_line : ℕ → ℕ → List ℕ → List ℕ → List ℕ
listing_line places address bytes text = four_digits address ++ codes "  " ++ padded places (spaced bytes) ++ codes "  " ++ text

-- the bytes that have this row, from a list that begins with them; where none fits, DB of the first byte
abbrev pub listed_row : ℕ → List ℕ → Option Decoded → List ℕ
listed_row address bytes (Some d) = listing_line 8 address (take d.length bytes) (statement (mnemonic_of d.op) (operands_of d.op))
listed_row address bytes None = listing_line 8 address (take 1 bytes) (statement (codes "DB") (byte_number (slice_index bytes 0)))

-- the instruction that begins three bytes at an address
unfoldable pub list_line : ℕ → List ℕ → List ℕ
list_line address bytes = listed_row address bytes (decoded8080 (slice_index bytes 0) (slice_index bytes 1) (slice_index bytes 2))
