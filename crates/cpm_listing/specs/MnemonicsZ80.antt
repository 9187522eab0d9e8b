-- How the operations of the Z80 and their operands are called.
-- Zilog Z80 CPU User Manual, "Z80 Instruction Description"
use Rattle.std.specs.Prelude.{ℕ, List, codes}
use Rattle.cpm_decode.specs.declared.operation.Op.{Op}
use Rattle.cpm_decode.specs.declared.operation.Op.TheVariants as op
use Rattle.cpm_decode.specs.declared.operation.Operand.{Operand}
use Rattle.cpm_decode.specs.declared.operation.Operand.TheVariants as place
use Rattle.cpm_decode.specs.declared.operation.Pair.{Pair}
use Rattle.cpm_decode.specs.declared.operation.Pair.TheVariants as pair
use Rattle.cpm_decode.specs.declared.operation.StackPair.{StackPair}
use Rattle.cpm_decode.specs.declared.operation.StackPair.TheVariants as stack_pair
use Rattle.cpm_decode.specs.declared.operation.Arithmetic.{Arithmetic}
use Rattle.cpm_decode.specs.declared.operation.Arithmetic.TheVariants as arithmetic
use Rattle.cpm_decode.specs.declared.operation.Rotation.{Rotation}
use Rattle.cpm_decode.specs.declared.operation.Rotation.TheVariants as rotation
use Rattle.cpm_decode.specs.declared.operation_z80.Shift.{Shift}
use Rattle.cpm_decode.specs.declared.operation_z80.Shift.TheVariants as shift
use Rattle.cpm_decode.specs.declared.operation_z80.BitOp.{BitOp}
use Rattle.cpm_decode.specs.declared.operation_z80.BitOp.TheVariants as bits
use Rattle.cpm_decode.specs.declared.operation_z80.Direction.{Direction}
use Rattle.cpm_decode.specs.declared.operation_z80.Direction.TheVariants as direction
use Rattle.cpm_decode.specs.declared.operation_z80.Repeat.{Repeat}
use Rattle.cpm_decode.specs.declared.operation_z80.Repeat.TheVariants as repeat
use Rattle.cpm_decode.specs.declared.operation_z80.ExtendedOp.{ExtendedOp}
use Rattle.cpm_decode.specs.declared.operation_z80.ExtendedOp.TheVariants as extended
use Rattle.cpm_decode.specs.declared.operation_z80.IndexRegister.{IndexRegister}
use Rattle.cpm_decode.specs.declared.operation_z80.IndexRegister.TheVariants as index
use Rattle.cpm_decode.specs.declared.operation_z80.IndexedOp.{IndexedOp}
use Rattle.cpm_decode.specs.declared.operation_z80.IndexedOp.TheVariants as indexed
use Rattle.cpm_decode.specs.declared.operation_z80.OpZ80.{OpZ80}
use Rattle.cpm_decode.specs.declared.operation_z80.OpZ80.TheVariants as op_z80

-- a register, or the byte at HL
-- Zilog Z80 CPU User Manual, "LD r, r'" and "LD r, (HL)"
unfoldable pub place_name_z80 : Operand → List ℕ
place_name_z80 place.B = codes "B"
place_name_z80 place.C = codes "C"
place_name_z80 place.D = codes "D"
place_name_z80 place.E = codes "E"
place_name_z80 place.H = codes "H"
place_name_z80 place.L = codes "L"
place_name_z80 place.AtHl = codes "(HL)"
place_name_z80 place.A = codes "A"

-- an index register
-- Zilog Z80 CPU User Manual, "LD IX, nn" and "LD IY, nn"
unfoldable pub index_name : IndexRegister → List ℕ
index_name index.Ix = codes "IX"
index_name index.Iy = codes "IY"

-- a pair, with this one for HL
-- Zilog Z80 CPU User Manual, "LD dd, nn", "ADD IX, pp" and "ADD IY, rr"
unfoldable pub pair_name_z80 : List ℕ → Pair → List ℕ
pair_name_z80 hl pair.Bc = codes "BC"
pair_name_z80 hl pair.De = codes "DE"
pair_name_z80 hl pair.Hl = hl
pair_name_z80 hl pair.Sp = codes "SP"

-- a pair of PUSH and POP, with this one for HL
-- Zilog Z80 CPU User Manual, "PUSH qq", "PUSH IX" and "PUSH IY"
unfoldable pub stack_pair_name_z80 : List ℕ → StackPair → List ℕ
stack_pair_name_z80 hl stack_pair.Bc = codes "BC"
stack_pair_name_z80 hl stack_pair.De = codes "DE"
stack_pair_name_z80 hl stack_pair.Hl = hl
stack_pair_name_z80 hl stack_pair.Psw = codes "AF"

-- an operation of A and a byte
-- Zilog Z80 CPU User Manual, "8-Bit Arithmetic Group"
unfoldable pub arithmetic_name_z80 : Arithmetic → List ℕ
arithmetic_name_z80 arithmetic.Add = codes "ADD"
arithmetic_name_z80 arithmetic.AddCarry = codes "ADC"
arithmetic_name_z80 arithmetic.Subtract = codes "SUB"
arithmetic_name_z80 arithmetic.SubtractBorrow = codes "SBC"
arithmetic_name_z80 arithmetic.And = codes "AND"
arithmetic_name_z80 arithmetic.Xor = codes "XOR"
arithmetic_name_z80 arithmetic.Or = codes "OR"
arithmetic_name_z80 arithmetic.Compare = codes "CP"

-- a rotation of A
-- Zilog Z80 CPU User Manual, "Rotate and Shift Group"
unfoldable pub rotation_name_z80 : Rotation → List ℕ
rotation_name_z80 rotation.Left = codes "RLCA"
rotation_name_z80 rotation.Right = codes "RRCA"
rotation_name_z80 rotation.LeftThroughCarry = codes "RLA"
rotation_name_z80 rotation.RightThroughCarry = codes "RRA"

-- a shift or rotation of a byte
-- Zilog Z80 CPU User Manual, "Rotate and Shift Group"
unfoldable pub shift_name : Shift → List ℕ
shift_name shift.RotateLeft = codes "RLC"
shift_name shift.RotateRight = codes "RRC"
shift_name shift.RotateLeftThroughCarry = codes "RL"
shift_name shift.RotateRightThroughCarry = codes "RR"
shift_name shift.Left = codes "SLA"
shift_name shift.ArithmeticRight = codes "SRA"
shift_name shift.LogicalRight = codes "SRL"

-- a shift, or what is done with a bit
-- Zilog Z80 CPU User Manual, "Bit Set, Reset, and Test Group"
unfoldable pub bit_name : BitOp → List ℕ
bit_name (bits.Shift s) = shift_name s
bit_name (bits.Test number) = codes "BIT"
bit_name (bits.Reset number) = codes "RES"
bit_name (bits.Set number) = codes "SET"

-- block instructions
-- Zilog Z80 CPU User Manual, "Exchange, Block Transfer, Block Search Group"
unfoldable pub copy_name : Direction → Repeat → List ℕ
copy_name direction.Up repeat.Once = codes "LDI"
copy_name direction.Up repeat.Repeating = codes "LDIR"
copy_name direction.Down repeat.Once = codes "LDD"
copy_name direction.Down repeat.Repeating = codes "LDDR"

unfoldable pub search_name : Direction → Repeat → List ℕ
search_name direction.Up repeat.Once = codes "CPI"
search_name direction.Up repeat.Repeating = codes "CPIR"
search_name direction.Down repeat.Once = codes "CPD"
search_name direction.Down repeat.Repeating = codes "CPDR"

-- Zilog Z80 CPU User Manual, "Input and Output Group"
unfoldable pub input_name : Direction → Repeat → List ℕ
input_name direction.Up repeat.Once = codes "INI"
input_name direction.Up repeat.Repeating = codes "INIR"
input_name direction.Down repeat.Once = codes "IND"
input_name direction.Down repeat.Repeating = codes "INDR"

unfoldable pub output_name : Direction → Repeat → List ℕ
output_name direction.Up repeat.Once = codes "OUTI"
output_name direction.Up repeat.Repeating = codes "OTIR"
output_name direction.Down repeat.Once = codes "OUTD"
output_name direction.Down repeat.Repeating = codes "OTDR"

-- an operation that the 8080 has too
-- Zilog Z80 CPU User Manual, all groups but "Bit Set, Reset, and Test Group"
unfoldable pub shared_name : Op → List ℕ
shared_name op.Nop = codes "NOP"
shared_name op.Halt = codes "HALT"
shared_name (op.Move target source) = codes "LD"
shared_name (op.MoveImmediate target byte) = codes "LD"
shared_name (op.Increment target) = codes "INC"
shared_name (op.Decrement target) = codes "DEC"
shared_name (op.LoadPair target word) = codes "LD"
shared_name (op.IncrementPair target) = codes "INC"
shared_name (op.DecrementPair target) = codes "DEC"
shared_name (op.AddPair source) = codes "ADD"
shared_name (op.StoreAAtPair target) = codes "LD"
shared_name (op.LoadAAtPair source) = codes "LD"
shared_name (op.StoreHl address) = codes "LD"
shared_name (op.LoadHl address) = codes "LD"
shared_name (op.StoreA address) = codes "LD"
shared_name (op.LoadA address) = codes "LD"
shared_name (op.Rotate r) = rotation_name_z80 r
shared_name op.DecimalAdjust = codes "DAA"
shared_name op.ComplementA = codes "CPL"
shared_name op.SetCarry = codes "SCF"
shared_name op.ComplementCarry = codes "CCF"
shared_name (op.Arithmetic operation source) = arithmetic_name_z80 operation
shared_name (op.ArithmeticImmediate operation byte) = arithmetic_name_z80 operation
shared_name (op.Jump address) = codes "JP"
shared_name (op.JumpIf c address) = codes "JP"
shared_name (op.Call address) = codes "CALL"
shared_name (op.CallIf c address) = codes "CALL"
shared_name op.Return = codes "RET"
shared_name (op.ReturnIf c) = codes "RET"
shared_name (op.Restart address) = codes "RST"
shared_name (op.Push source) = codes "PUSH"
shared_name (op.Pop target) = codes "POP"
shared_name op.ExchangeStack = codes "EX"
shared_name op.JumpHl = codes "JP"
shared_name op.StackFromHl = codes "LD"
shared_name op.Exchange = codes "EX"
shared_name (op.Input port) = codes "IN"
shared_name (op.Output port) = codes "OUT"
shared_name op.DisableInterrupts = codes "DI"
shared_name op.EnableInterrupts = codes "EI"

-- an operation after EDh
-- Zilog Z80 CPU User Manual, "8-Bit Load Group", "16-Bit Load Group", "16-Bit Arithmetic Group",
-- "General-Purpose Arithmetic and CPU Control Groups", "Call and Return Group" and the groups of blocks
unfoldable pub extended_name : ExtendedOp → List ℕ
extended_name (extended.Input target) = codes "IN"
extended_name (extended.Output source) = codes "OUT"
extended_name (extended.SubtractBorrowPair source) = codes "SBC"
extended_name (extended.AddCarryPair source) = codes "ADC"
extended_name (extended.StorePair source address) = codes "LD"
extended_name (extended.LoadPair target address) = codes "LD"
extended_name extended.Negate = codes "NEG"
extended_name extended.ReturnFromNonMaskable = codes "RETN"
extended_name extended.ReturnFromInterrupt = codes "RETI"
extended_name (extended.InterruptMode mode) = codes "IM"
extended_name extended.SetInterruptPage = codes "LD"
extended_name extended.SetRefresh = codes "LD"
extended_name extended.LoadInterruptPage = codes "LD"
extended_name extended.LoadRefresh = codes "LD"
extended_name extended.RotateDigitsRight = codes "RRD"
extended_name extended.RotateDigitsLeft = codes "RLD"
extended_name (extended.CopyBlock d r) = copy_name d r
extended_name (extended.SearchBlock d r) = search_name d r
extended_name (extended.InputBlock d r) = input_name d r
extended_name (extended.OutputBlock d r) = output_name d r

-- an operation with the byte at an index register and a displacement
-- Zilog Z80 CPU User Manual, "LD r, (IX+d)", "LD (IX+d), r", "LD (IX+d), n", "INC (IX+d)", "DEC m", "ADD A, (IX+d)" and
-- the others of "8-Bit Arithmetic Group"
unfoldable pub indexed_name : IndexedOp → List ℕ
indexed_name indexed.Increment = codes "INC"
indexed_name indexed.Decrement = codes "DEC"
indexed_name (indexed.StoreImmediate byte) = codes "LD"
indexed_name (indexed.Load target) = codes "LD"
indexed_name (indexed.Store source) = codes "LD"
indexed_name (indexed.Arithmetic operation) = arithmetic_name_z80 operation
indexed_name (indexed.Bits operation) = bit_name operation

-- the mnemonic of an operation
-- Zilog Z80 CPU User Manual, "Z80 Instruction Description"
unfoldable pub mnemonic_z80 : OpZ80 → List ℕ
mnemonic_z80 (op_z80.Shared operation) = shared_name operation
mnemonic_z80 op_z80.ExchangeAf = codes "EX"
mnemonic_z80 op_z80.ExchangeAll = codes "EXX"
mnemonic_z80 (op_z80.JumpRelative displacement) = codes "JR"
mnemonic_z80 (op_z80.JumpRelativeIf c displacement) = codes "JR"
mnemonic_z80 (op_z80.DecrementJump displacement) = codes "DJNZ"
mnemonic_z80 (op_z80.Bits operation target) = bit_name operation
mnemonic_z80 (op_z80.Extended operation) = extended_name operation
mnemonic_z80 (op_z80.WithIndex i operation) = shared_name operation
mnemonic_z80 (op_z80.Indexed i displacement operation) = indexed_name operation
