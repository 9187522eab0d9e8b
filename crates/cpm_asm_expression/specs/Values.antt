-- Values of expressions, modulo 65,536.
-- CP/M 2.2 Operating System Manual, "CP/M Assembler", "Arithmetic and Logical Operators". That a shift of 16
-- or more gives 0, and that a division by 0 is outside, is own.
use Rattle.std.specs.Prelude.{ℕ, ◌+◌, ◌-◌, ◌*◌, ◌/◌, ◌%◌, ◌^◌, Option, None, Some, Bool, true, false}
use Rattle.std.specs.Prelude.{not, nat_lt, ◌==◌, if◌then◌else◌, ◌||◌, ◌&&◌, bit_and, bit_or, bit_xor}
use Rattle.cpm_asm_expression.specs.Names.{NameTable}
use Rattle.cpm_asm_expression.specs.declared.tokens.Atom.{Atom}
use Rattle.cpm_asm_expression.specs.declared.tokens.Atom.TheVariants as atoms
use Rattle.cpm_asm_expression.specs.declared.tokens.Operator.{Operator}
use Rattle.cpm_asm_expression.specs.declared.tokens.Operator.TheVariants as operators
use Rattle.cpm_asm_expression.specs.declared.tokens.Prefix.{Prefix}
use Rattle.cpm_asm_expression.specs.declared.tokens.Prefix.TheVariants as prefixes
use Rattle.cpm_asm_expression.specs.declared.values.CheckedValue.{CheckedValue}

-- a number that nothing is wrong with
abbrev pub exactly : ℕ → CheckedValue
exactly n = record { number = n; is_unknown = false; is_outside = false }

abbrev pub named_value : Option ℕ → CheckedValue
named_value None = record { number = 0; is_unknown = true; is_outside = false }
named_value (Some n) = exactly n

-- `$` is the address of the statement, and has no value past the last address
abbrev pub atom_value : NameTable → ℕ → Atom → CheckedValue
atom_value names here (atoms.Number n) = exactly n
atom_value names here (atoms.Named name) = named_value (names name)
atom_value names here atoms.Here = if nat_lt here 65536 then exactly here else record { number = 0; is_unknown = false; is_outside = true }

abbrev pub calculated : Operator → ℕ → ℕ → ℕ
calculated operators.Or a b = bit_or a b
calculated operators.Xor a b = bit_xor a b
calculated operators.And a b = bit_and a b
calculated operators.Add a b = (a + b) % 65536
calculated operators.Subtract a b = (a + 65536 - b) % 65536
calculated operators.Multiply a b = (a * b) % 65536
calculated operators.Divide a b = if b == 0 then 0 else a / b
calculated operators.Modulo a b = if b == 0 then 0 else a % b
calculated operators.ShiftLeft a b = if nat_lt b 16 then (a * 2 ^ b) % 65536 else 0
calculated operators.ShiftRight a b = if nat_lt b 16 then a / 2 ^ b else 0

abbrev pub divides : Operator → Bool
divides operators.Divide = true
divides operators.Modulo = true
divides _ = false

-- a part that is unknown leaves the whole unknown, and one that is outside leaves it outside
abbrev pub combined : Operator → CheckedValue → CheckedValue → CheckedValue
combined o x y = record {
  number = calculated o x.number y.number;
  is_unknown = x.is_unknown || y.is_unknown;
  is_outside = x.is_outside || y.is_outside || (divides o && (y.number == 0) && not y.is_unknown);
}

abbrev pub flipped : Prefix → ℕ → ℕ
flipped prefixes.Not a = 65535 - a
flipped prefixes.Plus a = a
flipped prefixes.Minus a = (65536 - a) % 65536

abbrev pub changed : Prefix → CheckedValue → CheckedValue
changed p x = record { number = flipped p x.number; is_unknown = x.is_unknown; is_outside = x.is_outside }
