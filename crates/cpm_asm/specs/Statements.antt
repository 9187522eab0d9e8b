-- What a statement does.
-- CP/M 2.2 Operating System Manual, "CP/M Assembler", "Assembler Directives" and "Operation Codes"; Intel 8080
-- Assembly Language Programming Manual, "The 8080 Instruction Set"
use Rattle.std.specs.Prelude.{ℕ, Bool, if◌then◌else◌, List, Option, None, Some, option_map}
use Rattle.cpm_asm_expression.specs.declared.names.Name.{Name}
use Rattle.cpm_asm_expression.specs.declared.words.ByteForm.{ByteForm}
use Rattle.cpm_asm_expression.specs.declared.words.ByteForm.TheVariants as b
use Rattle.cpm_asm_expression.specs.declared.words.WordForm.{WordForm}
use Rattle.cpm_asm_expression.specs.declared.words.WordForm.TheVariants as w
use Rattle.cpm_asm_expression.specs.declared.words.Operation.{Operation}
use Rattle.cpm_asm_expression.specs.declared.words.Operation.TheVariants as o
use Rattle.cpm_decode.specs.declared.operation.Op.{Op}
use Rattle.cpm_decode.specs.declared.operation.Op.TheVariants as op
use Rattle.cpm_decode.specs.declared.operation.Operand.{Operand}
use Rattle.cpm_decode.specs.declared.operation.Operand.TheVariants as p
use Rattle.cpm_asm.specs.Heads.{StatementHead, statement_front, is_blank_text}
use Rattle.cpm_asm.specs.Operands.{direct_pair_in, one_operand, pair_in, byte_operand_in, stack_pair_in, two_operands}
use Rattle.cpm_asm.specs.declared.statement.Work.{Work}
use Rattle.cpm_asm.specs.declared.statement.Work.TheVariants as works
use Rattle.cpm_asm.specs.declared.statement.Statement.{Statement}

-- What a statement does; its texts are expressions, or lists of operands. Wrong is no statement. Nest and Unnest
-- are IF and ENDIF where they are only counted.
pub data Deed : Type 0 where
  Wrong : Deed
  Nothing : Deed
  End : Deed
  Origin : List ℕ → Deed
  Equate : List ℕ → Deed
  If : List ℕ → Deed
  EndIf : Deed
  Nest : Deed
  Unnest : Deed
  Space : List ℕ → Deed
  Bytes : List ℕ → Deed
  Words : List ℕ → Deed
  Plain : Op → Deed
  Byte : ByteForm → List ℕ → Deed
  Word : WordForm → List ℕ → Deed
  Restart : List ℕ → Deed

abbrev pub seen_work : Work → Deed
seen_work works.Wrong = Wrong
seen_work works.Nothing = Nothing
seen_work works.End = End
seen_work (works.Origin e) = Origin e.now
seen_work (works.Equate e) = Equate e.now
seen_work (works.If e) = If e.now
seen_work works.EndIf = EndIf
seen_work works.Nest = Nest
seen_work works.Unnest = Unnest
seen_work (works.Space e) = Space e.now
seen_work (works.Bytes list) = Bytes list.now
seen_work (works.Words list) = Words list.now
seen_work (works.Plain op) = Plain op
seen_work (works.Byte form e) = Byte form e.now
seen_work (works.Word form e) = Word form e.now
seen_work (works.Restart e) = Restart e.now

-- operations with one expression
abbrev pub with_expression : Operation → List ℕ → Deed
with_expression o.Origin e = Origin e
with_expression o.Equate e = Equate e
with_expression o.If e = If e
with_expression o.Space e = Space e
with_expression (o.Byte form) e = Byte form e
with_expression (o.Word form) e = Word form e
with_expression o.Restart e = Restart e
with_expression _ e = Wrong

-- operations with one register: B C D E H L M A, or a pair by B D H SP, B D, or B D H PSW
abbrev pub with_register : Operation → List ℕ → Option Op
with_register o.Increment operand = option_map op.Increment (byte_operand_in operand)
with_register o.Decrement operand = option_map op.Decrement (byte_operand_in operand)
with_register (o.Arithmetic a) operand = option_map (op.Arithmetic a) (byte_operand_in operand)
with_register o.IncrementPair operand = option_map op.IncrementPair (pair_in operand)
with_register o.DecrementPair operand = option_map op.DecrementPair (pair_in operand)
with_register o.AddPair operand = option_map op.AddPair (pair_in operand)
with_register o.StoreAAtPair operand = option_map op.StoreAAtPair (direct_pair_in operand)
with_register o.LoadAAtPair operand = option_map op.LoadAAtPair (direct_pair_in operand)
with_register o.Push operand = option_map op.Push (stack_pair_in operand)
with_register o.Pop operand = option_map op.Pop (stack_pair_in operand)
with_register _ operand = None

-- from M to M there is no MOV
abbrev pub move_deed : Option Operand → Option Operand → Deed
move_deed (Some p.AtHl) (Some p.AtHl) = Wrong
move_deed (Some target) (Some source) = Plain (op.Move target source)
move_deed _ _ = Wrong

abbrev pub or_wrong : Option Deed → Deed
or_wrong None = Wrong
or_wrong (Some deed) = deed

-- operations with two operands
abbrev pub with_two : Operation → List ℕ → List ℕ → Deed
with_two o.Move first second = move_deed (byte_operand_in first) (byte_operand_in second)
with_two o.MoveImmediate first second = or_wrong (option_map (λ place. Byte (b.MoveImmediate place) second) (byte_operand_in first))
with_two o.LoadPair first second = or_wrong (option_map (λ pair. Word (w.LoadPair pair) second) (pair_in first))
with_two _ first second = Wrong

abbrev pub if_blank : List ℕ → Deed → Deed
if_blank operands deed = if is_blank_text operands then deed else Wrong

abbrev pub from_one : Operation → List ℕ → Deed
from_one operation operands = or_wrong (option_map (with_expression operation) (one_operand operands))

abbrev pub from_two : Operation → List ℕ → Deed
from_two operation operands = or_wrong (option_map (λ both. with_two operation both.0 both.1) (two_operands operands))

-- what an operation does with its operands; those of END aren't read
abbrev pub deed_of : Operation → List ℕ → Deed
deed_of o.End operands = End
deed_of o.Bytes operands = Bytes operands
deed_of o.Words operands = Words operands
deed_of o.EndIf operands = if_blank operands EndIf
deed_of (o.Plain instruction) operands = if_blank operands (Plain instruction)
deed_of o.Origin operands = from_one o.Origin operands
deed_of o.Equate operands = from_one o.Equate operands
deed_of o.If operands = from_one o.If operands
deed_of o.Space operands = from_one o.Space operands
deed_of (o.Byte form) operands = from_one (o.Byte form) operands
deed_of (o.Word form) operands = from_one (o.Word form) operands
deed_of o.Restart operands = from_one o.Restart operands
deed_of o.Move operands = from_two o.Move operands
deed_of o.MoveImmediate operands = from_two o.MoveImmediate operands
deed_of o.LoadPair operands = from_two o.LoadPair operands
deed_of operation operands = or_wrong (option_map Plain (with_register operation operands))

-- a label, and what the statement does
pub record StatementParts : Type 0 where
  pub label : Option Name
  pub deed : Deed

abbrev pub seen_statement : Statement → StatementParts
seen_statement s = record { label = s.label; deed = seen_work s.work }

abbrev pub operated : Option Operation → List ℕ → Deed
operated None operands = Nothing
operated (Some operation) operands = deed_of operation operands

-- under an IF that doesn't hold, IF and ENDIF are counted and nothing else is read
abbrev pub skipped_deed : Option Operation → Deed
skipped_deed (Some o.If) = Nest
skipped_deed (Some o.EndIf) = Unnest
skipped_deed _ = Nothing

abbrev pub read_head : Option StatementHead → StatementParts
read_head None = record { label = None; deed = Wrong }
read_head (Some head) = record { label = head.label; deed = operated head.operation head.operands }

abbrev pub skipped_head : Option StatementHead → StatementParts
skipped_head None = record { label = None; deed = Nothing }
skipped_head (Some head) = record { label = None; deed = skipped_deed head.operation }

-- the statement that a text is, where statements are read or skipped
unfoldable pub statement_at : Bool → List ℕ → StatementParts
statement_at is_skipped text = if is_skipped then skipped_head (statement_front text) else read_head (statement_front text)
