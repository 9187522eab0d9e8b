-- The operands of the Z80's instructions, a comma between two.
-- Zilog Z80 CPU User Manual, "Z80 Instruction Description"
use Rattle.std.specs.Prelude.{ℕ, ◌+◌, ◌-◌, ◌*◌, ◌%◌, nat_lt, if◌then◌else◌, List, [], ◌∷◌, ◌++◌, codes}
use Rattle.cpm_decode.specs.declared.operation.Op.{Op}
use Rattle.cpm_decode.specs.declared.operation.Op.TheVariants as op
use Rattle.cpm_decode.specs.declared.operation.Arithmetic.{Arithmetic}
use Rattle.cpm_decode.specs.declared.operation.Arithmetic.TheVariants as arithmetic
use Rattle.cpm_decode.specs.declared.operation_z80.BitOp.{BitOp}
use Rattle.cpm_decode.specs.declared.operation_z80.BitOp.TheVariants as bits
use Rattle.cpm_decode.specs.declared.operation_z80.ExtendedOp.{ExtendedOp}
use Rattle.cpm_decode.specs.declared.operation_z80.ExtendedOp.TheVariants as extended
use Rattle.cpm_decode.specs.declared.operation_z80.IndexRegister.{IndexRegister}
use Rattle.cpm_decode.specs.declared.operation_z80.IndexedOp.{IndexedOp}
use Rattle.cpm_decode.specs.declared.operation_z80.IndexedOp.TheVariants as indexed
use Rattle.cpm_decode.specs.declared.operation_z80.OpZ80.{OpZ80}
use Rattle.cpm_decode.specs.declared.operation_z80.OpZ80.TheVariants as op_z80
use Rattle.cpm_listing.specs.Digits.{two_digits}
use Rattle.cpm_listing.specs.Listing.{byte_number, word_number, restart_of}
use Rattle.cpm_listing.specs.Mnemonics.{condition_name}
use Rattle.cpm_listing.specs.MnemonicsZ80.{place_name_z80, index_name, pair_name_z80, stack_pair_name_z80}

-- what stands at an address, or at a port
-- Zilog Z80 CPU User Manual, "LD A, (BC)", "LD A, (nn)" and "IN A, (n)"
unfoldable pub in_parentheses : List ℕ → List ℕ
in_parentheses text = codes "(" ++ text ++ codes ")"

-- a displacement, from -80H to +7FH
-- Zilog Z80 CPU User Manual, "LD r, (IX+d)": a two's complement integer; its digits are own
unfoldable pub displacement_number : ℕ → List ℕ
displacement_number d = (if nat_lt d 0x80 then codes "+" ++ two_digits d else codes "-" ++ two_digits (0x100 - d)) ++ codes "H"

-- the byte at an index register and a displacement
-- Zilog Z80 CPU User Manual, "LD r, (IX+d)" and "LD r, (IY+d)"
unfoldable pub at_index : IndexRegister → ℕ → List ℕ
at_index i d = in_parentheses (index_name i ++ displacement_number d)

-- where a relative jump goes: the address after its instruction and the displacement, a two's complement integer
-- Zilog Z80 CPU User Manual, "JR e"
unfoldable pub relative_target : ℕ → ℕ → ℕ
relative_target behind d = (if nat_lt d 0x80 then behind + d else behind + 0xFF00 + d) % 0x10000

-- the number of a bit, or of an interrupt mode, in one digit
-- Zilog Z80 CPU User Manual, "BIT b, r" and "IM 0"
unfoldable pub small_number : ℕ → List ℕ
small_number n = (0x30 + n % 8) ∷ []

-- A before the operand of ADD, ADC and SBC, which have pairs too
-- Zilog Z80 CPU User Manual, "ADD A, r", "ADC A, s", "SUB s", "SBC A, s", "AND s", "OR s", "XOR s" and "CP s"
unfoldable pub accumulator_before : Arithmetic → List ℕ
accumulator_before arithmetic.Add = codes "A,"
accumulator_before arithmetic.AddCarry = codes "A,"
accumulator_before arithmetic.SubtractBorrow = codes "A,"
accumulator_before _ = []

-- the number of a bit before the byte that it belongs to
-- Zilog Z80 CPU User Manual, "BIT b, r", "SET b, r" and "RES b, m"
unfoldable pub bit_before : BitOp → List ℕ
bit_before (bits.Shift s) = []
bit_before (bits.Test number) = small_number number ++ codes ","
bit_before (bits.Reset number) = small_number number ++ codes ","
bit_before (bits.Set number) = small_number number ++ codes ","

-- The operands of an operation that the 8080 has too, with this pair for HL. The address of a restart is a byte. No
-- instruction with IX or IY for HL has the byte at HL as an operand: what has a displacement stands in indexed_operands.
-- Zilog Z80 CPU User Manual, "8-Bit Load Group" to "Input and Output Group"
unfoldable pub shared_operands : List ℕ → Op → List ℕ
shared_operands hl (op.Move target source) = place_name_z80 target ++ codes "," ++ place_name_z80 source
shared_operands hl (op.MoveImmediate target byte) = place_name_z80 target ++ codes "," ++ byte_number byte
shared_operands hl (op.Increment target) = place_name_z80 target
shared_operands hl (op.Decrement target) = place_name_z80 target
shared_operands hl (op.LoadPair target word) = pair_name_z80 hl target ++ codes "," ++ word_number word
shared_operands hl (op.IncrementPair target) = pair_name_z80 hl target
shared_operands hl (op.DecrementPair target) = pair_name_z80 hl target
shared_operands hl (op.AddPair source) = hl ++ codes "," ++ pair_name_z80 hl source
shared_operands hl (op.StoreAAtPair target) = in_parentheses (pair_name_z80 hl target) ++ codes ",A"
shared_operands hl (op.LoadAAtPair source) = codes "A," ++ in_parentheses (pair_name_z80 hl source)
shared_operands hl (op.StoreHl address) = in_parentheses (word_number address) ++ codes "," ++ hl
shared_operands hl (op.LoadHl address) = hl ++ codes "," ++ in_parentheses (word_number address)
shared_operands hl (op.StoreA address) = in_parentheses (word_number address) ++ codes ",A"
shared_operands hl (op.LoadA address) = codes "A," ++ in_parentheses (word_number address)
shared_operands hl (op.Arithmetic operation source) = accumulator_before operation ++ place_name_z80 source
shared_operands hl (op.ArithmeticImmediate operation byte) = accumulator_before operation ++ byte_number byte
shared_operands hl (op.Jump address) = word_number address
shared_operands hl (op.JumpIf c address) = condition_name c ++ codes "," ++ word_number address
shared_operands hl (op.Call address) = word_number address
shared_operands hl (op.CallIf c address) = condition_name c ++ codes "," ++ word_number address
shared_operands hl (op.ReturnIf c) = condition_name c
shared_operands hl (op.Restart address) = byte_number (8 * restart_of address)
shared_operands hl (op.Push source) = stack_pair_name_z80 hl source
shared_operands hl (op.Pop target) = stack_pair_name_z80 hl target
shared_operands hl op.ExchangeStack = codes "(SP)," ++ hl
shared_operands hl op.JumpHl = in_parentheses hl
shared_operands hl op.StackFromHl = codes "SP," ++ hl
shared_operands hl op.Exchange = codes "DE," ++ hl
shared_operands hl (op.Input port) = codes "A," ++ in_parentheses (byte_number port)
shared_operands hl (op.Output port) = in_parentheses (byte_number port) ++ codes ",A"
shared_operands hl _ = []

-- the operands of an operation after EDh
-- Zilog Z80 CPU User Manual, "IN r, (C)", "OUT (C), r", "ADC HL, ss", "SBC HL, ss", "LD (nn), dd", "LD dd, (nn)", "IM 0",
-- "LD I, A", "LD R, A", "LD A, I" and "LD A, R"
unfoldable pub extended_operands : ExtendedOp → List ℕ
extended_operands (extended.Input target) = place_name_z80 target ++ codes ",(C)"
extended_operands (extended.Output source) = codes "(C)," ++ place_name_z80 source
extended_operands (extended.SubtractBorrowPair source) = codes "HL," ++ pair_name_z80 (codes "HL") source
extended_operands (extended.AddCarryPair source) = codes "HL," ++ pair_name_z80 (codes "HL") source
extended_operands (extended.StorePair source address) = in_parentheses (word_number address) ++ codes "," ++ pair_name_z80 (codes "HL") source
extended_operands (extended.LoadPair target address) = pair_name_z80 (codes "HL") target ++ codes "," ++ in_parentheses (word_number address)
extended_operands (extended.InterruptMode mode) = small_number mode
extended_operands extended.SetInterruptPage = codes "I,A"
extended_operands extended.SetRefresh = codes "R,A"
extended_operands extended.LoadInterruptPage = codes "A,I"
extended_operands extended.LoadRefresh = codes "A,R"
extended_operands _ = []

-- the operands of an operation with this byte at an index register and a displacement
-- Zilog Z80 CPU User Manual, "INC (IX+d)", "DEC m", "LD (IX+d), n", "LD r, (IX+d)", "LD (IX+d), r", "ADD A, (IX+d)",
-- "RLC (IX+d)" and "BIT b, (IX+d)"
unfoldable pub indexed_operands : List ℕ → IndexedOp → List ℕ
indexed_operands at indexed.Increment = at
indexed_operands at indexed.Decrement = at
indexed_operands at (indexed.StoreImmediate byte) = at ++ codes "," ++ byte_number byte
indexed_operands at (indexed.Load target) = place_name_z80 target ++ codes "," ++ at
indexed_operands at (indexed.Store source) = at ++ codes "," ++ place_name_z80 source
indexed_operands at (indexed.Arithmetic operation) = accumulator_before operation ++ at
indexed_operands at (indexed.Bits operation) = bit_before operation ++ at

-- the operands of an operation whose instruction ends before this address
-- Zilog Z80 CPU User Manual, "Z80 Instruction Description"
unfoldable pub operands_z80 : ℕ → OpZ80 → List ℕ
operands_z80 behind (op_z80.Shared operation) = shared_operands (codes "HL") operation
operands_z80 behind op_z80.ExchangeAf = codes "AF,AF'"
operands_z80 behind op_z80.ExchangeAll = []
operands_z80 behind (op_z80.JumpRelative d) = word_number (relative_target behind d)
operands_z80 behind (op_z80.JumpRelativeIf c d) = condition_name c ++ codes "," ++ word_number (relative_target behind d)
operands_z80 behind (op_z80.DecrementJump d) = word_number (relative_target behind d)
operands_z80 behind (op_z80.Bits operation target) = bit_before operation ++ place_name_z80 target
operands_z80 behind (op_z80.Extended operation) = extended_operands operation
operands_z80 behind (op_z80.WithIndex i operation) = shared_operands (index_name i) operation
operands_z80 behind (op_z80.Indexed i d operation) = indexed_operands (at_index i d) operation
