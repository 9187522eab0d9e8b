-- The operands of a statement, with commas between them.
-- CP/M 2.2 Operating System Manual, "CP/M Assembler", "Forming the Operand"; Intel 8080 Assembly Language
-- Programming Manual, "Operand Field"
use Rattle.std.specs.Prelude.{ℕ, false, if◌then◌else◌, List, [], ◌∷◌, Option, None, Some, option_and_then}
use Rattle.cpm_asm_expression.specs.Words.{keyword_of}
use Rattle.cpm_asm_expression.specs.declared.words.Keyword.{Keyword}
use Rattle.cpm_asm_expression.specs.declared.words.Keyword.TheVariants as k
use Rattle.cpm_asm_expression.specs.declared.words.Register.{Register}
use Rattle.cpm_asm_expression.specs.declared.words.Register.TheVariants as s
use Rattle.cpm_decode.specs.declared.operation.Operand.{Operand}
use Rattle.cpm_decode.specs.declared.operation.Operand.TheVariants as p
use Rattle.cpm_decode.specs.declared.operation.Pair.{Pair}
use Rattle.cpm_decode.specs.declared.operation.Pair.TheVariants as r
use Rattle.cpm_decode.specs.declared.operation.StackPair.{StackPair}
use Rattle.cpm_decode.specs.declared.operation.StackPair.TheVariants as t
use Rattle.cpm_asm.specs.Lines.{parts}
use Rattle.cpm_asm.specs.Heads.{Front, Nothing, Word, Other, is_blank_text, word_front}

-- a comma ends an operand
abbrev pub comma : ℕ
comma = 0x2C

abbrev pub only_one : List (List ℕ) → Option (List ℕ)
only_one (only ∷ []) = Some only
only_one _ = None

abbrev pub only_two : List (List ℕ) → Option (List ℕ × List ℕ)
only_two (first ∷ second ∷ []) = Some (first, second)
only_two _ = None

abbrev pub one_operand : List ℕ → Option (List ℕ)
one_operand list = only_one (parts comma false list)

abbrev pub two_operands : List ℕ → Option (List ℕ × List ℕ)
two_operands list = only_two (parts comma false list)

abbrev pub named_register : Option Keyword → Option Register
named_register (Some (k.Register register)) = Some register
named_register _ = None

abbrev pub register_front : Front → Option Register
register_front (Word letters after) = if is_blank_text after then named_register (keyword_of letters) else None
register_front Nothing = None
register_front Other = None

-- the register that an operand is
abbrev pub register_in : List ℕ → Option Register
register_in operand = register_front (word_front operand)

-- B C D E H L A, and M for the byte at HL
abbrev pub place_named : Register → Option Operand
place_named s.B = Some p.B
place_named s.C = Some p.C
place_named s.D = Some p.D
place_named s.E = Some p.E
place_named s.H = Some p.H
place_named s.L = Some p.L
place_named s.M = Some p.AtHl
place_named s.A = Some p.A
place_named _ = None

-- B D H SP
abbrev pub pair_named : Register → Option Pair
pair_named s.B = Some r.Bc
pair_named s.D = Some r.De
pair_named s.H = Some r.Hl
pair_named s.StackPointer = Some r.Sp
pair_named _ = None

-- B D
abbrev pub direct_pair_named : Register → Option Pair
direct_pair_named s.B = Some r.Bc
direct_pair_named s.D = Some r.De
direct_pair_named _ = None

-- B D H PSW
abbrev pub stack_pair_named : Register → Option StackPair
stack_pair_named s.B = Some t.Bc
stack_pair_named s.D = Some t.De
stack_pair_named s.H = Some t.Hl
stack_pair_named s.StatusWord = Some t.Psw
stack_pair_named _ = None

abbrev pub byte_operand_in : List ℕ → Option Operand
byte_operand_in operand = option_and_then place_named (register_in operand)

abbrev pub pair_in : List ℕ → Option Pair
pair_in operand = option_and_then pair_named (register_in operand)

abbrev pub direct_pair_in : List ℕ → Option Pair
direct_pair_in operand = option_and_then direct_pair_named (register_in operand)

abbrev pub stack_pair_in : List ℕ → Option StackPair
stack_pair_in operand = option_and_then stack_pair_named (register_in operand)
