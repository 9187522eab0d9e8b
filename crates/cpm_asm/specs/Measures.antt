-- What a statement at an address takes, and what the first pass finds in it.
-- CP/M 2.2 Operating System Manual, "CP/M Assembler", "Assembler Directives". The order of faults is own.
use Rattle.std.specs.Prelude.{ℕ, List, length, ◌+◌, ◌-◌, ◌%◌, Bool, true, false, not, ◌==◌, nat_lt, if◌then◌else◌, ◌||◌, is_some, unwrap_or}
use Rattle.cpm_asm_expression.specs.Names.{NameTable}
use Rattle.cpm_asm_expression.specs.declared.values.CheckedValue.{CheckedValue}
use Rattle.cpm_asm.specs.Statements.{Deed, Wrong, Nothing, End, Origin, Equate, If, EndIf, Nest, Unnest, Space, Bytes, Words, Plain, Byte, Word, Restart}
use Rattle.cpm_asm.specs.Encoding.{encoded}
use Rattle.cpm_asm.specs.Data.{is_expression, list_size, expression_value}
use Rattle.cpm_asm.specs.declared.measure.Measure.{Measure}

-- so many bytes, which have to end at the last address at most
abbrev pub sized : ℕ → ℕ → Measure
sized a size = record {
  label = a % 65536;
  next = if nat_lt (65536 - a) size then 65536 else a + size;
  is_unknown = false;
  is_outside = nat_lt (65536 - a) size;
  is_below = false;
  holds = false;
}

abbrev pub origin : ℕ → CheckedValue → Measure
origin a target = record {
  label = a % 65536;
  next = target.number;
  is_unknown = target.is_unknown;
  is_outside = target.is_outside;
  is_below = nat_lt target.number a;
  holds = false;
}

abbrev pub equated : ℕ → CheckedValue → Measure
equated a own = record { label = own.number; next = a; is_unknown = own.is_unknown; is_outside = own.is_outside; is_below = false; holds = false }

abbrev pub tested : ℕ → CheckedValue → Measure
tested a condition = record {
  label = a % 65536;
  next = a;
  is_unknown = condition.is_unknown;
  is_outside = condition.is_outside;
  is_below = false;
  holds = not (condition.number == 0);
}

-- a space whose size isn't known takes nothing
abbrev pub known_size : CheckedValue → ℕ
known_size size = if size.is_unknown then 0 else size.number

abbrev pub space_measure : ℕ → CheckedValue → Measure
space_measure a size = record {
  label = a % 65536;
  next = (sized a (known_size size)).next;
  is_unknown = size.is_unknown;
  is_outside = size.is_outside || (sized a (known_size size)).is_outside;
  is_below = false;
  holds = false;
}

abbrev pub list_measure : Bool → ℕ → List ℕ → Measure
list_measure is_words a list = sized a (unwrap_or (list_size is_words list) 0)

unfoldable pub measured : NameTable → ℕ → Deed → Measure
measured names a Wrong = sized a 0
measured names a Nothing = sized a 0
measured names a End = sized a 0
measured names a EndIf = sized a 0
measured names a Nest = sized a 0
measured names a Unnest = sized a 0
measured names a (Origin target) = origin a (expression_value names a target)
measured names a (Equate own) = equated a (expression_value names a own)
measured names a (If condition) = tested a (expression_value names a condition)
measured names a (Space size) = space_measure a (expression_value names a size)
measured names a (Bytes list) = list_measure false a list
measured names a (Words list) = list_measure true a list
measured names a (Plain instruction) = sized a (length (encoded instruction))
measured names a (Byte form e) = sized a 2
measured names a (Word form e) = sized a 3
measured names a (Restart e) = sized a 1

-- a statement that is none, or has an operand that is no expression
unfoldable pub is_wrong : Deed → Bool
is_wrong Wrong = true
is_wrong Nothing = false
is_wrong End = false
is_wrong EndIf = false
is_wrong Nest = false
is_wrong Unnest = false
is_wrong (Origin e) = not (is_expression e)
is_wrong (Equate e) = not (is_expression e)
is_wrong (If e) = not (is_expression e)
is_wrong (Space e) = not (is_expression e)
is_wrong (Bytes list) = not (is_some (list_size false list))
is_wrong (Words list) = not (is_some (list_size true list))
is_wrong (Plain instruction) = false
is_wrong (Byte form e) = not (is_expression e)
is_wrong (Word form e) = not (is_expression e)
is_wrong (Restart e) = not (is_expression e)
