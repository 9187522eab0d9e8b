-- The bytes of a statement, and what the second pass finds.
-- Intel 8080 Assembly Language Programming Manual, "The 8080 Instruction Set"; CP/M 2.2 Operating System Manual,
-- "CP/M Assembler", "The DS Directive"
use Rattle.std.specs.Prelude.{ℕ, ◌*◌, ◌-◌, ◌%◌, [], Option, None, Some, true, false, nat_lt, if◌then◌else◌, ◌||◌, replicate}
use Rattle.cpm_asm_expression.specs.Names.{NameTable}
use Rattle.cpm_asm_expression.specs.declared.values.CheckedValue.{CheckedValue}
use Rattle.cpm_decode.specs.declared.operation.Op.TheVariants as op
use Rattle.cpm_asm.specs.Statements.{Deed, Wrong, Nothing, End, Origin, Equate, If, EndIf, Nest, Unnest, Space, Bytes, Words, Plain, Byte, Word, Restart}
use Rattle.cpm_asm.specs.Encoding.{encoded, op_with_byte, op_with_word}
use Rattle.cpm_asm.specs.Data.{EmittedBytes, byte_doubt, certain, list_bytes, low_byte, expression_value, word_doubt}
use Rattle.cpm_asm.specs.declared.emit.Doubt.{Doubt}
use Rattle.cpm_asm.specs.declared.error.AsmErrorKind.{AsmErrorKind}
use Rattle.cpm_asm.specs.declared.error.AsmErrorKind.TheVariants as kinds

-- a restart has a number from 0 to 7
abbrev pub restart_doubt : CheckedValue → Doubt
restart_doubt v = record { is_unknown = v.is_unknown; is_outside = v.is_outside || nat_lt 7 v.number }

-- the bytes of a statement at an address, where next is the address after it
unfoldable pub emitted : NameTable → ℕ → ℕ → Deed → EmittedBytes
emitted names a next Wrong = certain []
emitted names a next Nothing = certain []
emitted names a next End = certain []
emitted names a next (Origin e) = certain []
emitted names a next (Equate e) = certain []
emitted names a next (If e) = certain []
emitted names a next EndIf = certain []
emitted names a next Nest = certain []
emitted names a next Unnest = certain []
emitted names a next (Space e) = certain (replicate (next - a) 0)
emitted names a next (Bytes list) = list_bytes false names a list
emitted names a next (Words list) = list_bytes true names a list
emitted names a next (Plain instruction) = certain (encoded instruction)
emitted names a next (Byte form e) =
    record { bytes = encoded (op_with_byte form (low_byte (expression_value names a e).number)); doubt = byte_doubt (expression_value names a e) }
emitted names a next (Word form e) =
    record { bytes = encoded (op_with_word form (expression_value names a e).number); doubt = word_doubt (expression_value names a e) }
emitted names a next (Restart e) =
    record { bytes = encoded (op.Restart (8 * ((expression_value names a e).number % 8))); doubt = restart_doubt (expression_value names a e) }

-- what the second pass finds
abbrev pub second_fault : Doubt → Option AsmErrorKind
second_fault d = if d.is_unknown then Some kinds.Undefined else if d.is_outside then Some kinds.OutOfRange else None
