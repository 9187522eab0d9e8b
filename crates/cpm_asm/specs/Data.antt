-- Values of operands, and the operands of DB and DW.
-- CP/M 2.2 Operating System Manual, "CP/M Assembler", "The DB Directive" and "The DW Directive"
use Rattle.std.specs.Prelude.{ℕ, ◌+◌, ◌/◌, ◌%◌, Bool, false, not, ◌||◌, nat_lt, nat_le, if◌then◌else◌, List, []}
use Rattle.std.specs.Prelude.{◌∷◌, ◌++◌, length, Option, None, Some, is_some, unwrap_or, option_map, option_and_then}
use Rattle.cpm_asm_expression.specs.Letters.{after_blanks}
use Rattle.cpm_asm_expression.specs.Names.{NameTable, no_names}
use Rattle.cpm_asm_expression.specs.Quotes.{is_quote, quoted_text}
use Rattle.cpm_asm_expression.specs.Reading.{value_at}
use Rattle.cpm_asm_expression.specs.Values.{exactly}
use Rattle.cpm_asm_expression.specs.declared.values.CheckedValue.{CheckedValue}
use Rattle.cpm_asm.specs.Heads.{is_blank_text}
use Rattle.cpm_asm.specs.Lines.{parts}
use Rattle.cpm_asm.specs.Operands.{comma}
use Rattle.cpm_asm.specs.declared.emit.Doubt.{Doubt}

-- the value of an expression in a statement at an address; 0 for a text that is none
unfoldable pub expression_value : NameTable → ℕ → List ℕ → CheckedValue
expression_value names here text = unwrap_or (value_at names here text) (exactly 0)

-- whether a text is an expression depends on no names
unfoldable pub is_expression : List ℕ → Bool
is_expression text = is_some (value_at no_names 0 text)

-- ---- texts

abbrev pub whole_text : Option (List ℕ × List ℕ) → Option (List ℕ)
whole_text read = option_and_then (λ p. if is_blank_text p.1 then Some p.0 else None) read

abbrev pub text_front : List ℕ → Option (List ℕ)
text_front [] = None
text_front (b ∷ rest) = if is_quote b then whole_text (quoted_text rest) else None

-- the characters of an operand that is a quoted text and nothing else
abbrev pub text_in : List ℕ → Option (List ℕ)
text_in operand = text_front (after_blanks operand)

-- ---- sizes

abbrev pub expression_size : List ℕ → ℕ → Option ℕ
expression_size operand size = if is_expression operand then Some size else None

abbrev pub byte_size : List ℕ → Option (List ℕ) → Option ℕ
byte_size operand None = expression_size operand 1
byte_size operand (Some characters) = Some (length characters)

-- how many bytes an operand of DB takes, or one of DW; None where it is none
abbrev pub operand_size : Bool → List ℕ → Option ℕ
operand_size is_words operand = if is_words then expression_size operand 2 else byte_size operand (text_in operand)

abbrev pub plus : Option ℕ → Option ℕ → Option ℕ
plus None more = None
plus (Some n) more = option_map (λ k. n + k) more

abbrev pub sizes : Bool → List (List ℕ) → Option ℕ
sizes is_words [] = Some 0
sizes is_words (operand ∷ operands) = plus (operand_size is_words operand) (sizes is_words operands)

-- how many bytes a list of operands takes
unfoldable pub list_size : Bool → List ℕ → Option ℕ
list_size is_words list = sizes is_words (parts comma false list)

-- ---- bytes, and what is wrong with them

pub record EmittedBytes : Type 0 where
  pub bytes : List ℕ
  pub doubt : Doubt

abbrev pub no_doubt : Doubt
no_doubt = record { is_unknown = false; is_outside = false }

abbrev pub either : Doubt → Doubt → Doubt
either d e = record { is_unknown = d.is_unknown || e.is_unknown; is_outside = d.is_outside || e.is_outside }

abbrev pub certain : List ℕ → EmittedBytes
certain bytes = record { bytes = bytes; doubt = no_doubt }

-- 0 to 255, or FF80h to FFFFh
abbrev pub is_byte : ℕ → Bool
is_byte n = nat_lt n 256 || nat_le 0xFF80 n

abbrev pub byte_doubt : CheckedValue → Doubt
byte_doubt v = record { is_unknown = v.is_unknown; is_outside = v.is_outside || not (is_byte v.number) }

abbrev pub word_doubt : CheckedValue → Doubt
word_doubt v = record { is_unknown = v.is_unknown; is_outside = v.is_outside }

abbrev pub low_byte : ℕ → ℕ
low_byte n = n % 256

abbrev pub emitted_byte : CheckedValue → EmittedBytes
emitted_byte v = record { bytes = low_byte v.number ∷ []; doubt = byte_doubt v }

-- the low byte first
abbrev pub word_of_value : CheckedValue → EmittedBytes
word_of_value v = record { bytes = low_byte v.number ∷ v.number / 256 ∷ []; doubt = word_doubt v }

abbrev pub byte_item : NameTable → ℕ → List ℕ → Option (List ℕ) → EmittedBytes
byte_item names here operand None = emitted_byte (expression_value names here operand)
byte_item names here operand (Some characters) = certain characters

-- the bytes of an operand of DB, or of one of DW
abbrev pub operand_bytes : Bool → NameTable → ℕ → List ℕ → EmittedBytes
operand_bytes is_words names here operand =
    if is_words then word_of_value (expression_value names here operand) else byte_item names here operand (text_in operand)

abbrev pub all_bytes : Bool → NameTable → ℕ → List (List ℕ) → List ℕ
all_bytes is_words names here [] = []
all_bytes is_words names here (x ∷ xs) = (operand_bytes is_words names here x).bytes ++ all_bytes is_words names here xs

-- what is wrong with any of them, or was before
abbrev pub all_doubts : Bool → NameTable → ℕ → Doubt → List (List ℕ) → Doubt
all_doubts is_words names here d [] = d
all_doubts is_words names here d (x ∷ xs) = all_doubts is_words names here (either d (operand_bytes is_words names here x).doubt) xs

-- the bytes of a list of operands
unfoldable pub list_bytes : Bool → NameTable → ℕ → List ℕ → EmittedBytes
list_bytes is_words names here list = record {
  bytes = all_bytes is_words names here (parts comma false list);
  doubt = all_doubts is_words names here no_doubt (parts comma false list);
}
