-- How the operations of the 8080 and their operands are called.
-- Intel 8080 Assembly Language Programming Manual, "The 8080 Instruction Set"
use Rattle.std.specs.Prelude.{ℕ, List, ◌++◌, codes}
use Rattle.cpm_decode.specs.declared.operation.Op.{Op}
use Rattle.cpm_decode.specs.declared.operation.Op.TheVariants as op
use Rattle.cpm_decode.specs.declared.operation.Operand.{Operand}
use Rattle.cpm_decode.specs.declared.operation.Operand.TheVariants as place
use Rattle.cpm_decode.specs.declared.operation.Pair.{Pair}
use Rattle.cpm_decode.specs.declared.operation.Pair.TheVariants as pair
use Rattle.cpm_decode.specs.declared.operation.StackPair.{StackPair}
use Rattle.cpm_decode.specs.declared.operation.StackPair.TheVariants as stack_pair
use Rattle.cpm_decode.specs.declared.operation.Condition.{Condition}
use Rattle.cpm_decode.specs.declared.operation.Condition.TheVariants as condition
use Rattle.cpm_decode.specs.declared.operation.Arithmetic.{Arithmetic}
use Rattle.cpm_decode.specs.declared.operation.Arithmetic.TheVariants as arithmetic
use Rattle.cpm_decode.specs.declared.operation.Rotation.{Rotation}
use Rattle.cpm_decode.specs.declared.operation.Rotation.TheVariants as rotation

-- a register, or M for the byte at HL
-- Intel 8080 Assembly Language Programming Manual, "Data Transfer Instructions"
unfoldable pub place_name : Operand → List ℕ
place_name place.B = codes "B"
place_name place.C = codes "C"
place_name place.D = codes "D"
place_name place.E = codes "E"
place_name place.H = codes "H"
place_name place.L = codes "L"
place_name place.AtHl = codes "M"
place_name place.A = codes "A"

-- a pair by its first register
-- Intel 8080 Assembly Language Programming Manual, "Register Pair Instructions"
unfoldable pub pair_name : Pair → List ℕ
pair_name pair.Bc = codes "B"
pair_name pair.De = codes "D"
pair_name pair.Hl = codes "H"
pair_name pair.Sp = codes "SP"

-- a pair of PUSH and POP
-- Intel 8080 Assembly Language Programming Manual, "PUSH Push Data Onto Stack"
unfoldable pub stack_pair_name : StackPair → List ℕ
stack_pair_name stack_pair.Bc = codes "B"
stack_pair_name stack_pair.De = codes "D"
stack_pair_name stack_pair.Hl = codes "H"
stack_pair_name stack_pair.Psw = codes "PSW"

-- a condition, which stands after the J, C or R of its instruction
-- Intel 8080 Assembly Language Programming Manual, "Jump Instructions"
abbrev pub condition_name : Condition → List ℕ
condition_name condition.NotZero = codes "NZ"
condition_name condition.Zero = codes "Z"
condition_name condition.NoCarry = codes "NC"
condition_name condition.Carry = codes "C"
condition_name condition.ParityOdd = codes "PO"
condition_name condition.ParityEven = codes "PE"
condition_name condition.Plus = codes "P"
condition_name condition.Minus = codes "M"

-- an operation of A and a register or M
-- Intel 8080 Assembly Language Programming Manual, "Register or Memory to Accumulator Instructions"
unfoldable pub arithmetic_name : Arithmetic → List ℕ
arithmetic_name arithmetic.Add = codes "ADD"
arithmetic_name arithmetic.AddCarry = codes "ADC"
arithmetic_name arithmetic.Subtract = codes "SUB"
arithmetic_name arithmetic.SubtractBorrow = codes "SBB"
arithmetic_name arithmetic.And = codes "ANA"
arithmetic_name arithmetic.Xor = codes "XRA"
arithmetic_name arithmetic.Or = codes "ORA"
arithmetic_name arithmetic.Compare = codes "CMP"

-- an operation of A and the byte after the opcode
-- Intel 8080 Assembly Language Programming Manual, "Immediate Instructions"
unfoldable pub immediate_name : Arithmetic → List ℕ
immediate_name arithmetic.Add = codes "ADI"
immediate_name arithmetic.AddCarry = codes "ACI"
immediate_name arithmetic.Subtract = codes "SUI"
immediate_name arithmetic.SubtractBorrow = codes "SBI"
immediate_name arithmetic.And = codes "ANI"
immediate_name arithmetic.Xor = codes "XRI"
immediate_name arithmetic.Or = codes "ORI"
immediate_name arithmetic.Compare = codes "CPI"

-- a rotation of A
-- Intel 8080 Assembly Language Programming Manual, "Rotate Accumulator Instructions"
unfoldable pub rotation_name : Rotation → List ℕ
rotation_name rotation.Left = codes "RLC"
rotation_name rotation.Right = codes "RRC"
rotation_name rotation.LeftThroughCarry = codes "RAL"
rotation_name rotation.RightThroughCarry = codes "RAR"

-- conditional jumps, calls and returns
-- Intel 8080 Assembly Language Programming Manual, "Jump Instructions", "Call Subroutine Instructions" and
-- "Return from Subroutine Instructions"
unfoldable pub jump_name : Condition → List ℕ
jump_name c = codes "J" ++ condition_name c

unfoldable pub call_name : Condition → List ℕ
call_name c = codes "C" ++ condition_name c

unfoldable pub return_name : Condition → List ℕ
return_name c = codes "R" ++ condition_name c

-- the mnemonic of an operation
-- Intel 8080 Assembly Language Programming Manual, "The 8080 Instruction Set"
unfoldable pub mnemonic_of : Op → List ℕ
mnemonic_of op.Nop = codes "NOP"
mnemonic_of op.Halt = codes "HLT"
mnemonic_of (op.Move target source) = codes "MOV"
mnemonic_of (op.MoveImmediate target byte) = codes "MVI"
mnemonic_of (op.Increment target) = codes "INR"
mnemonic_of (op.Decrement target) = codes "DCR"
mnemonic_of (op.LoadPair target word) = codes "LXI"
mnemonic_of (op.IncrementPair target) = codes "INX"
mnemonic_of (op.DecrementPair target) = codes "DCX"
mnemonic_of (op.AddPair source) = codes "DAD"
mnemonic_of (op.StoreAAtPair target) = codes "STAX"
mnemonic_of (op.LoadAAtPair source) = codes "LDAX"
mnemonic_of (op.StoreHl address) = codes "SHLD"
mnemonic_of (op.LoadHl address) = codes "LHLD"
mnemonic_of (op.StoreA address) = codes "STA"
mnemonic_of (op.LoadA address) = codes "LDA"
mnemonic_of (op.Rotate r) = rotation_name r
mnemonic_of op.DecimalAdjust = codes "DAA"
mnemonic_of op.ComplementA = codes "CMA"
mnemonic_of op.SetCarry = codes "STC"
mnemonic_of op.ComplementCarry = codes "CMC"
mnemonic_of (op.Arithmetic operation source) = arithmetic_name operation
mnemonic_of (op.ArithmeticImmediate operation byte) = immediate_name operation
mnemonic_of (op.Jump address) = codes "JMP"
mnemonic_of (op.JumpIf c address) = jump_name c
mnemonic_of (op.Call address) = codes "CALL"
mnemonic_of (op.CallIf c address) = call_name c
mnemonic_of op.Return = codes "RET"
mnemonic_of (op.ReturnIf c) = return_name c
mnemonic_of (op.Restart address) = codes "RST"
mnemonic_of (op.Push source) = codes "PUSH"
mnemonic_of (op.Pop target) = codes "POP"
mnemonic_of op.ExchangeStack = codes "XTHL"
mnemonic_of op.JumpHl = codes "PCHL"
mnemonic_of op.StackFromHl = codes "SPHL"
mnemonic_of op.Exchange = codes "XCHG"
mnemonic_of (op.Input port) = codes "IN"
mnemonic_of (op.Output port) = codes "OUT"
mnemonic_of op.DisableInterrupts = codes "DI"
mnemonic_of op.EnableInterrupts = codes "EI"
