-- The grammar of expressions, from the weakest operation to the strongest, each from left to right:
--   or = and {(OR | XOR) and}      and = not {AND not}          not = NOT not | sum
--   sum = sign {(+ | -) product}   sign = (+ | -) sign | product
--   product = atom {(* | / | MOD | SHL | SHR) atom}
--   atom = number | text | name | $ | ( or )
-- CP/M 2.2 Operating System Manual, "CP/M Assembler", "Precedence of Operators"
use Rattle.std.specs.Prelude.{◌≡◌, ℕ, suc, List, [], ◌∷◌}
use Rattle.cpm_asm_expression.specs.Names.{NameTable}
use Rattle.cpm_asm_expression.specs.Values.{atom_value, changed, combined}
use Rattle.cpm_asm_expression.specs.declared.tokens.Atom.{Atom}
use Rattle.cpm_asm_expression.specs.declared.tokens.Operator.{Operator}
use Rattle.cpm_asm_expression.specs.declared.tokens.Operator.TheVariants as operators
use Rattle.cpm_asm_expression.specs.declared.tokens.Prefix.{Prefix}
use Rattle.cpm_asm_expression.specs.declared.tokens.Prefix.TheVariants as prefixes
use Rattle.cpm_asm_expression.specs.declared.tokens.Token.{Token}
use Rattle.cpm_asm_expression.specs.declared.tokens.Token.TheVariants as tokens
use Rattle.cpm_asm_expression.specs.declared.values.CheckedValue.{CheckedValue}

-- how strongly an operator binds, and how strongly its right operand has to
abbrev pub level : Operator → ℕ
level operators.Or = 0
level operators.Xor = 0
level operators.And = 1
level operators.Add = 3
level operators.Subtract = 3
level _ = 5

abbrev pub right_level : Operator → ℕ
right_level operators.Or = 1
right_level operators.Xor = 1
right_level operators.And = 2
right_level operators.Add = 5
right_level operators.Subtract = 5
right_level _ = 6

abbrev pub prefix_level : Prefix → ℕ
prefix_level prefixes.Not = 2
prefix_level prefixes.Plus = 4
prefix_level prefixes.Minus = 4

-- An expression that binds at least so strongly: 0 is the weakest, 6 an atom or brackets.
pub data Tree : ℕ → Type 0 where
  atom : Atom → Tree 6
  bracketed : Tree 0 → Tree 6
  weaker : (l : ℕ) → Tree (suc l) → Tree l
  prefixed : (p : Prefix) → Tree (prefix_level p) → Tree (prefix_level p)
  chained : (o : Operator) → Tree (level o) → Tree (right_level o) → Tree (level o)

-- the value of an expression under a table of names, in a statement at an address
abbrev pub value : NameTable → ℕ → {l : ℕ} → Tree l → CheckedValue
value names here (atom x) = atom_value names here x
value names here (bracketed e) = value names here e
value names here (weaker l e) = value names here e
value names here (prefixed p e) = changed p (value names here e)
value names here (chained o a b) = combined o (value names here a) (value names here b)

abbrev pub prefix_token : Prefix → Token
prefix_token prefixes.Not = tokens.Not
prefix_token prefixes.Plus = tokens.Operator operators.Add
prefix_token prefixes.Minus = tokens.Operator operators.Subtract

-- the tokens that an expression is written in, before others
abbrev pub spelled : {l : ℕ} → Tree l → List Token → List Token
spelled (atom x) rest = tokens.Atom x ∷ rest
spelled (bracketed e) rest = tokens.Open ∷ spelled e (tokens.Close ∷ rest)
spelled (weaker l e) rest = spelled e rest
spelled (prefixed p e) rest = prefix_token p ∷ spelled e rest
spelled (chained o a b) rest = spelled a (tokens.Operator o ∷ spelled b rest)

-- the tokens are an expression of this value
pub record Spells (names : NameTable) (here : ℕ) (ts : List Token) (v : CheckedValue) : Type 0 where
  pub tree : Tree 0
  pub is : value names here tree ≡ v
  pub written : ts ≡ spelled tree []
