-- The bytes of an instruction. That they are those whose row in the 8080's table is the instruction is the law
-- encodings_decode.
-- Intel 8080 Assembly Language Programming Manual, "Instruction Summary"
use Rattle.std.specs.Prelude.{◌≡◌, ℕ, ◌+◌, ◌*◌, ◌/◌, ◌%◌, ◌<◌, List, [], ◌∷◌, length, slice_index, Some}
use Rattle.cpm_decode.specs.Rows8080.{decoded8080}
use Rattle.cpm_decode.specs.declared.operation.Op.{Op}
use Rattle.cpm_decode.specs.declared.operation.Op.TheVariants as op
use Rattle.cpm_decode.specs.declared.operation.Operand.{Operand}
use Rattle.cpm_decode.specs.declared.operation.Operand.TheVariants as p
use Rattle.cpm_decode.specs.declared.operation.Pair.{Pair}
use Rattle.cpm_decode.specs.declared.operation.Pair.TheVariants as r
use Rattle.cpm_decode.specs.declared.operation.StackPair.{StackPair}
use Rattle.cpm_decode.specs.declared.operation.StackPair.TheVariants as t
use Rattle.cpm_decode.specs.declared.operation.Condition.{Condition}
use Rattle.cpm_decode.specs.declared.operation.Condition.TheVariants as c
use Rattle.cpm_decode.specs.declared.operation.Arithmetic.{Arithmetic}
use Rattle.cpm_decode.specs.declared.operation.Arithmetic.TheVariants as a
use Rattle.cpm_decode.specs.declared.operation.Rotation.{Rotation}
use Rattle.cpm_decode.specs.declared.operation.Rotation.TheVariants as o
use Rattle.cpm_asm_expression.specs.declared.words.ByteForm.{ByteForm}
use Rattle.cpm_asm_expression.specs.declared.words.ByteForm.TheVariants as b
use Rattle.cpm_asm_expression.specs.declared.words.WordForm.{WordForm}
use Rattle.cpm_asm_expression.specs.declared.words.WordForm.TheVariants as w

-- ---- the numbers of registers, pairs, conditions and operations

abbrev pub place_code : Operand → ℕ
place_code p.B = 0
place_code p.C = 1
place_code p.D = 2
place_code p.E = 3
place_code p.H = 4
place_code p.L = 5
place_code p.AtHl = 6
place_code p.A = 7

abbrev pub pair_code : Pair → ℕ
pair_code r.Bc = 0
pair_code r.De = 1
pair_code r.Hl = 2
pair_code r.Sp = 3

abbrev pub stack_pair_code : StackPair → ℕ
stack_pair_code t.Bc = 0
stack_pair_code t.De = 1
stack_pair_code t.Hl = 2
stack_pair_code t.Psw = 3

abbrev pub condition_code : Condition → ℕ
condition_code c.NotZero = 0
condition_code c.Zero = 1
condition_code c.NoCarry = 2
condition_code c.Carry = 3
condition_code c.ParityOdd = 4
condition_code c.ParityEven = 5
condition_code c.Plus = 6
condition_code c.Minus = 7

abbrev pub arithmetic_code : Arithmetic → ℕ
arithmetic_code a.Add = 0
arithmetic_code a.AddCarry = 1
arithmetic_code a.Subtract = 2
arithmetic_code a.SubtractBorrow = 3
arithmetic_code a.And = 4
arithmetic_code a.Xor = 5
arithmetic_code a.Or = 6
arithmetic_code a.Compare = 7

abbrev pub rotation_code : Rotation → ℕ
rotation_code o.Left = 0
rotation_code o.Right = 1
rotation_code o.LeftThroughCarry = 2
rotation_code o.RightThroughCarry = 3

-- ---- encodings

abbrev one : ℕ → List ℕ
one opcode = opcode ∷ []

abbrev two : ℕ → ℕ → List ℕ
two opcode byte = opcode ∷ byte ∷ []

-- a word has its low byte first
abbrev three : ℕ → ℕ → List ℕ
three opcode word = opcode ∷ word % 256 ∷ word / 256 ∷ []

unfoldable pub encoded : Op → List ℕ
encoded op.Nop = one 0x00
encoded op.Halt = one 0x76
encoded (op.Move target source) = one (0x40 + 8 * place_code target + place_code source)
encoded (op.MoveImmediate place byte) = two (0x06 + 8 * place_code place) byte
encoded (op.Increment place) = one (0x04 + 8 * place_code place)
encoded (op.Decrement place) = one (0x05 + 8 * place_code place)
encoded (op.LoadPair pair word) = three (0x01 + 16 * pair_code pair) word
encoded (op.IncrementPair pair) = one (0x03 + 16 * pair_code pair)
encoded (op.DecrementPair pair) = one (0x0B + 16 * pair_code pair)
encoded (op.AddPair pair) = one (0x09 + 16 * pair_code pair)
encoded (op.StoreAAtPair pair) = one (0x02 + 16 * pair_code pair)
encoded (op.LoadAAtPair pair) = one (0x0A + 16 * pair_code pair)
encoded (op.StoreHl word) = three 0x22 word
encoded (op.LoadHl word) = three 0x2A word
encoded (op.StoreA word) = three 0x32 word
encoded (op.LoadA word) = three 0x3A word
encoded (op.Rotate rotation) = one (0x07 + 8 * rotation_code rotation)
encoded op.DecimalAdjust = one 0x27
encoded op.ComplementA = one 0x2F
encoded op.SetCarry = one 0x37
encoded op.ComplementCarry = one 0x3F
encoded (op.Arithmetic operation place) = one (0x80 + 8 * arithmetic_code operation + place_code place)
encoded (op.ArithmeticImmediate operation byte) = two (0xC6 + 8 * arithmetic_code operation) byte
encoded (op.Jump word) = three 0xC3 word
encoded (op.JumpIf condition word) = three (0xC2 + 8 * condition_code condition) word
encoded (op.Call word) = three 0xCD word
encoded (op.CallIf condition word) = three (0xC4 + 8 * condition_code condition) word
encoded op.Return = one 0xC9
encoded (op.ReturnIf condition) = one (0xC0 + 8 * condition_code condition)
encoded (op.Restart address) = one (0xC7 + 8 * (address / 8 % 8))
encoded (op.Push pair) = one (0xC5 + 16 * stack_pair_code pair)
encoded (op.Pop pair) = one (0xC1 + 16 * stack_pair_code pair)
encoded op.ExchangeStack = one 0xE3
encoded op.JumpHl = one 0xE9
encoded op.StackFromHl = one 0xF9
encoded op.Exchange = one 0xEB
encoded (op.Input byte) = two 0xDB byte
encoded (op.Output byte) = two 0xD3 byte
encoded op.DisableInterrupts = one 0xF3
encoded op.EnableInterrupts = one 0xFB

-- an instruction with its last byte
abbrev pub op_with_byte : ByteForm → ℕ → Op
op_with_byte (b.MoveImmediate place) byte = op.MoveImmediate place byte
op_with_byte (b.Arithmetic operation) byte = op.ArithmeticImmediate operation byte
op_with_byte b.Input byte = op.Input byte
op_with_byte b.Output byte = op.Output byte

-- an instruction with its last two bytes
abbrev pub op_with_word : WordForm → ℕ → Op
op_with_word (w.LoadPair pair) word = op.LoadPair pair word
op_with_word w.StoreHl word = op.StoreHl word
op_with_word w.LoadHl word = op.LoadHl word
op_with_word w.StoreA word = op.StoreA word
op_with_word w.LoadA word = op.LoadA word
op_with_word w.Jump word = op.Jump word
op_with_word (w.JumpIf condition) word = op.JumpIf condition word
op_with_word w.Call word = op.Call word
op_with_word (w.CallIf condition) word = op.CallIf condition word

-- ---- the law of encodings

-- STAX and LDAX have the pairs BC and DE
abbrev pub IsDirect : Pair → Type 0
IsDirect r.Bc = Unit {0}
IsDirect r.De = Unit {0}
IsDirect _ = ⊥

abbrev pub IsMove : Operand → Operand → Type 0
IsMove p.AtHl p.AtHl = ⊥
IsMove _ _ = Unit {0}

-- what the assembler can name: no MOV from M to M, restarts at 8 times 0 to 7
abbrev pub HasEncoding : Op → Type 0
HasEncoding (op.Move target source) = IsMove target source
HasEncoding (op.StoreAAtPair pair) = IsDirect pair
HasEncoding (op.LoadAAtPair pair) = IsDirect pair
HasEncoding (op.Restart address) = (n : ℕ) × (n < 8) × (address ≡ 8 * n)
HasEncoding _ = Unit {0}

-- the row of the bytes is the instruction, with their number as its length
abbrev pub Decodes : Op → Type 0
Decodes instruction = decoded8080 (slice_index (encoded instruction) 0) (slice_index (encoded instruction) 1) (slice_index (encoded instruction) 2)
    ≡ Some (record { op = instruction; length = length (encoded instruction) })
