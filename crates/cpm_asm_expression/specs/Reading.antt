-- Reading an expression from left to right, with a stack of what waits for its right operand (own). That it
-- reads the grammar's expressions and no others is the law exact_reading.
use Rattle.std.specs.Prelude.{ℕ, List, [], ◌∷◌, Option, None, Some, option_and_then, nat_le, cond, Bool, false, ◌≡◌}
use Rattle.cpm_asm_expression.specs.Names.{NameTable}
use Rattle.cpm_asm_expression.specs.Grammar.{level, right_level, prefix_level}
use Rattle.cpm_asm_expression.specs.Values.{atom_value, changed, combined}
use Rattle.cpm_asm_expression.specs.Tokens.{tokens_of}
use Rattle.cpm_asm_expression.specs.declared.tokens.Operator.{Operator}
use Rattle.cpm_asm_expression.specs.declared.tokens.Operator.TheVariants as operators
use Rattle.cpm_asm_expression.specs.declared.tokens.Prefix.{Prefix}
use Rattle.cpm_asm_expression.specs.declared.tokens.Prefix.TheVariants as prefixes
use Rattle.cpm_asm_expression.specs.declared.tokens.Token.{Token}
use Rattle.cpm_asm_expression.specs.declared.tokens.Token.TheVariants as tokens
use Rattle.cpm_asm_expression.specs.declared.values.CheckedValue.{CheckedValue}
use Rattle.cpm_asm_expression.specs.declared.reader.Stage.{Stage}
use Rattle.cpm_asm_expression.specs.declared.reader.Stage.TheVariants as stages
use Rattle.cpm_asm_expression.specs.declared.reader.PendingOperator.{PendingOperator}
use Rattle.cpm_asm_expression.specs.declared.reader.PendingOperator.TheVariants as waiting

-- how strongly the operand that is wanted has to bind
abbrev pub wanted : List PendingOperator → ℕ
wanted [] = 0
wanted (waiting.Bracket ∷ ws) = 0
wanted (waiting.Prefix p ∷ ws) = prefix_level p
wanted (waiting.Left v o ∷ ws) = right_level o

-- a value, and what still waits
pub record SettledValue : Type 0 where
  pub value : CheckedValue
  pub waiting : List PendingOperator

-- the value with all that binds as strongly as a level, or more strongly
abbrev pub settled : ℕ → CheckedValue → List PendingOperator → SettledValue
settled l v [] = record { value = v; waiting = [] }
settled l v (waiting.Bracket ∷ ws) = record { value = v; waiting = waiting.Bracket ∷ ws }
settled l v (waiting.Prefix p ∷ ws) = cond (nat_le l (prefix_level p)) (settled l (changed p v) ws) (record { value = v; waiting = waiting.Prefix p ∷ ws })
settled l v (waiting.Left u o ∷ ws) = cond (nat_le l (level o)) (settled l (combined o u v) ws) (record { value = v; waiting = waiting.Left u o ∷ ws })

abbrev pub sign_of : Operator → Option Prefix
sign_of operators.Add = Some prefixes.Plus
sign_of operators.Subtract = Some prefixes.Minus
sign_of _ = None

-- where reading stands: an operand is wanted, or there is one, or the text is no expression
pub data State : Type 0 where
  Wants : List PendingOperator → State
  Has : CheckedValue → List PendingOperator → State
  Wrong : State

abbrev pub with_prefix : List PendingOperator → Prefix → State
with_prefix ws p = cond (nat_le (wanted ws) (prefix_level p)) (Wants (waiting.Prefix p ∷ ws)) Wrong

abbrev pub with_sign : List PendingOperator → Option Prefix → State
with_sign ws None = Wrong
with_sign ws (Some p) = with_prefix ws p

abbrev pub with_left : Operator → SettledValue → State
with_left o s = Wants (waiting.Left s.value o ∷ s.waiting)

abbrev pub group_closed : CheckedValue → List PendingOperator → State
group_closed v (waiting.Bracket ∷ ws) = Has v ws
group_closed v _ = Wrong

-- a token after an operand
abbrev pub after_operand : CheckedValue → List PendingOperator → Token → State
after_operand v ws (tokens.Operator o) = with_left o (settled (level o) v ws)
after_operand v ws tokens.Close = group_closed (settled 0 v ws).value (settled 0 v ws).waiting
after_operand v ws _ = Wrong

abbrev pub after_token : NameTable → ℕ → State → Token → State
after_token names here (Wants ws) (tokens.Atom x) = Has (atom_value names here x) ws
after_token names here (Wants ws) (tokens.Operator o) = with_sign ws (sign_of o)
after_token names here (Wants ws) tokens.Not = with_prefix ws prefixes.Not
after_token names here (Wants ws) tokens.Open = Wants (waiting.Bracket ∷ ws)
after_token names here (Wants ws) tokens.Close = Wrong
after_token names here (Has v ws) t = after_operand v ws t
after_token names here Wrong t = Wrong

abbrev pub after_all : NameTable → ℕ → State → List Token → State
after_all names here s [] = s
after_all names here s (t ∷ ts) = after_all names here (after_token names here s t) ts

abbrev pub ended : CheckedValue → List PendingOperator → Option CheckedValue
ended v [] = Some v
ended v (w ∷ ws) = None

abbrev pub value_read : State → Option CheckedValue
value_read (Has v ws) = ended (settled 0 v ws).value (settled 0 v ws).waiting
value_read _ = None

abbrev pub reading : NameTable → ℕ → List Token → Option CheckedValue
reading names here ts = value_read (after_all names here (Wants []) ts)

-- the value of the expression that a text is, in a statement at an address; None where it is none
unfoldable pub value_at : NameTable → ℕ → List ℕ → Option CheckedValue
value_at names here text = option_and_then (reading names here) (tokens_of text)

abbrev pub binds : ℕ → PendingOperator → Bool
binds l waiting.Bracket = false
binds l (waiting.Prefix p) = nat_le l (prefix_level p)
binds l (waiting.Left u o) = nat_le l (level o)

-- the value after what waited
abbrev pub value_behind : PendingOperator → CheckedValue → CheckedValue
value_behind waiting.Bracket v = v
value_behind (waiting.Prefix p) v = changed p v
value_behind (waiting.Left u o) v = combined o u v

-- where reading stands, with what waits beside it
abbrev pub state : Stage → List PendingOperator → State
state stages.Wants ws = Wants ws
state (stages.Has v) ws = Has v ws
state stages.Wrong ws = Wrong
