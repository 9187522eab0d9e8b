-- The words that have a meaning of their own.
-- CP/M 2.2 Operating System Manual, "CP/M Assembler", "Assembler Directives", "Operation Codes" and "Arithmetic
-- and Logical Operators"; Intel 8080 Assembly Language Programming Manual, "Instruction Summary"
use Rattle.std.specs.Prelude.{ℕ, List, [], ◌∷◌, map, Option, None, Some, codes, if◌then◌else◌}
use Rattle.std.specs.Borrow.{Bor}
use Rattle.std.specs.Str.{bytes_eq}
use Rattle.cpm_asm_expression.specs.declared.tokens.Operator.TheVariants as p
use Rattle.cpm_asm_expression.specs.declared.words.Register.TheVariants as s
use Rattle.cpm_asm_expression.specs.declared.words.ByteForm.TheVariants as b
use Rattle.cpm_asm_expression.specs.declared.words.WordForm.TheVariants as w
use Rattle.cpm_asm_expression.specs.declared.words.Operation.{Operation}
use Rattle.cpm_asm_expression.specs.declared.words.Operation.TheVariants as o
use Rattle.cpm_asm_expression.specs.declared.words.Keyword.{Keyword}
use Rattle.cpm_asm_expression.specs.declared.words.Keyword.TheVariants as k
use Rattle.cpm_decode.specs.declared.operation.Op.TheVariants as op
use Rattle.cpm_decode.specs.declared.operation.Arithmetic.TheVariants as a
use Rattle.cpm_decode.specs.declared.operation.Condition.TheVariants as c
use Rattle.cpm_decode.specs.declared.operation.Rotation.TheVariants as r

-- the directives and the mnemonics
abbrev pub operations : List (List ℕ × Operation)
operations =
    (codes "ORG", o.Origin) ∷
    (codes "END", o.End) ∷
    (codes "EQU", o.Equate) ∷
    (codes "IF", o.If) ∷
    (codes "ENDIF", o.EndIf) ∷
    (codes "DB", o.Bytes) ∷
    (codes "DW", o.Words) ∷
    (codes "DS", o.Space) ∷
    (codes "MOV", o.Move) ∷
    (codes "MVI", o.MoveImmediate) ∷
    (codes "INR", o.Increment) ∷
    (codes "DCR", o.Decrement) ∷
    (codes "ADD", o.Arithmetic a.Add) ∷
    (codes "ADC", o.Arithmetic a.AddCarry) ∷
    (codes "SUB", o.Arithmetic a.Subtract) ∷
    (codes "SBB", o.Arithmetic a.SubtractBorrow) ∷
    (codes "ANA", o.Arithmetic a.And) ∷
    (codes "XRA", o.Arithmetic a.Xor) ∷
    (codes "ORA", o.Arithmetic a.Or) ∷
    (codes "CMP", o.Arithmetic a.Compare) ∷
    (codes "ADI", o.Byte (b.Arithmetic a.Add)) ∷
    (codes "ACI", o.Byte (b.Arithmetic a.AddCarry)) ∷
    (codes "SUI", o.Byte (b.Arithmetic a.Subtract)) ∷
    (codes "SBI", o.Byte (b.Arithmetic a.SubtractBorrow)) ∷
    (codes "ANI", o.Byte (b.Arithmetic a.And)) ∷
    (codes "XRI", o.Byte (b.Arithmetic a.Xor)) ∷
    (codes "ORI", o.Byte (b.Arithmetic a.Or)) ∷
    (codes "CPI", o.Byte (b.Arithmetic a.Compare)) ∷
    (codes "LXI", o.LoadPair) ∷
    (codes "INX", o.IncrementPair) ∷
    (codes "DCX", o.DecrementPair) ∷
    (codes "DAD", o.AddPair) ∷
    (codes "STAX", o.StoreAAtPair) ∷
    (codes "LDAX", o.LoadAAtPair) ∷
    (codes "PUSH", o.Push) ∷
    (codes "POP", o.Pop) ∷
    (codes "RST", o.Restart) ∷
    (codes "SHLD", o.Word w.StoreHl) ∷
    (codes "LHLD", o.Word w.LoadHl) ∷
    (codes "STA", o.Word w.StoreA) ∷
    (codes "LDA", o.Word w.LoadA) ∷
    (codes "JMP", o.Word w.Jump) ∷
    (codes "CALL", o.Word w.Call) ∷
    (codes "JNZ", o.Word (w.JumpIf c.NotZero)) ∷
    (codes "JZ", o.Word (w.JumpIf c.Zero)) ∷
    (codes "JNC", o.Word (w.JumpIf c.NoCarry)) ∷
    (codes "JC", o.Word (w.JumpIf c.Carry)) ∷
    (codes "JPO", o.Word (w.JumpIf c.ParityOdd)) ∷
    (codes "JPE", o.Word (w.JumpIf c.ParityEven)) ∷
    (codes "JP", o.Word (w.JumpIf c.Plus)) ∷
    (codes "JM", o.Word (w.JumpIf c.Minus)) ∷
    (codes "CNZ", o.Word (w.CallIf c.NotZero)) ∷
    (codes "CZ", o.Word (w.CallIf c.Zero)) ∷
    (codes "CNC", o.Word (w.CallIf c.NoCarry)) ∷
    (codes "CC", o.Word (w.CallIf c.Carry)) ∷
    (codes "CPO", o.Word (w.CallIf c.ParityOdd)) ∷
    (codes "CPE", o.Word (w.CallIf c.ParityEven)) ∷
    (codes "CP", o.Word (w.CallIf c.Plus)) ∷
    (codes "CM", o.Word (w.CallIf c.Minus)) ∷
    (codes "RNZ", o.Plain (op.ReturnIf c.NotZero)) ∷
    (codes "RZ", o.Plain (op.ReturnIf c.Zero)) ∷
    (codes "RNC", o.Plain (op.ReturnIf c.NoCarry)) ∷
    (codes "RC", o.Plain (op.ReturnIf c.Carry)) ∷
    (codes "RPO", o.Plain (op.ReturnIf c.ParityOdd)) ∷
    (codes "RPE", o.Plain (op.ReturnIf c.ParityEven)) ∷
    (codes "RP", o.Plain (op.ReturnIf c.Plus)) ∷
    (codes "RM", o.Plain (op.ReturnIf c.Minus)) ∷
    (codes "IN", o.Byte b.Input) ∷
    (codes "OUT", o.Byte b.Output) ∷
    (codes "RLC", o.Plain (op.Rotate r.Left)) ∷
    (codes "RRC", o.Plain (op.Rotate r.Right)) ∷
    (codes "RAL", o.Plain (op.Rotate r.LeftThroughCarry)) ∷
    (codes "RAR", o.Plain (op.Rotate r.RightThroughCarry)) ∷
    (codes "RET", o.Plain op.Return) ∷
    (codes "NOP", o.Plain op.Nop) ∷
    (codes "HLT", o.Plain op.Halt) ∷
    (codes "DAA", o.Plain op.DecimalAdjust) ∷
    (codes "CMA", o.Plain op.ComplementA) ∷
    (codes "STC", o.Plain op.SetCarry) ∷
    (codes "CMC", o.Plain op.ComplementCarry) ∷
    (codes "XTHL", o.Plain op.ExchangeStack) ∷
    (codes "PCHL", o.Plain op.JumpHl) ∷
    (codes "SPHL", o.Plain op.StackFromHl) ∷
    (codes "XCHG", o.Plain op.Exchange) ∷
    (codes "DI", o.Plain op.DisableInterrupts) ∷
    (codes "EI", o.Plain op.EnableInterrupts) ∷
    []

-- the operators that are words, and the registers
abbrev pub reserved : List (List ℕ × Keyword)
reserved =
    (codes "AND", k.Operator p.And) ∷
    (codes "OR", k.Operator p.Or) ∷
    (codes "XOR", k.Operator p.Xor) ∷
    (codes "NOT", k.Not) ∷
    (codes "MOD", k.Operator p.Modulo) ∷
    (codes "SHL", k.Operator p.ShiftLeft) ∷
    (codes "SHR", k.Operator p.ShiftRight) ∷
    (codes "B", k.Register s.B) ∷
    (codes "C", k.Register s.C) ∷
    (codes "D", k.Register s.D) ∷
    (codes "E", k.Register s.E) ∷
    (codes "H", k.Register s.H) ∷
    (codes "L", k.Register s.L) ∷
    (codes "M", k.Register s.M) ∷
    (codes "A", k.Register s.A) ∷
    (codes "SP", k.Register s.StackPointer) ∷
    (codes "PSW", k.Register s.StatusWord) ∷
    []

-- the meaning that the first row of a word gives it
abbrev pub look : {X : Type 0} → List ℕ → List (List ℕ × X) → Option X
look word [] = None
look word (row ∷ rows) = if bytes_eq row.0 word then Some row.1 else look word rows

-- rows of text that is borrowed
abbrev pub plain_rows : {X : Type 0} → List (Bor (List ℕ) × X) → List (List ℕ × X)
plain_rows {X} rows = map (λ (row : Bor (List ℕ) × X). (row.0.now, row.1)) rows

abbrev pub or_reserved : List ℕ → Option Operation → Option Keyword
or_reserved word None = look word reserved
or_reserved word (Some operation) = Some (k.Operation operation)

-- the meaning of a word in capital letters; none for a name
unfoldable pub keyword_of : List ℕ → Option Keyword
keyword_of word = or_reserved word (look word operations)
