-- An image and the source that it is of.
use Rattle.std.specs.Prelude.{◌≡◌, ◌⊎◌, ℕ, List, [], ◌∷◌, ◌-◌, Bool, true, false, Option, None, Some, take, drop, length}
use Rattle.cpm_asm_expression.specs.Names.{NameTable}
use Rattle.cpm_asm_expression.specs.declared.names.Name.{Name}
use Rattle.cpm_asm.specs.Pieces.{NumberedStatement, pieces}
use Rattle.cpm_asm.specs.Places.{start}
use Rattle.cpm_asm.specs.Passes.{position_behind, bytes_given, is_end_statement, last_or, statement_of, measure_of, with_statement_bytes}
use Rattle.cpm_asm.specs.declared.place.Position.{Position}

abbrev pub HasLabel : NameTable → Option Name → ℕ → Type 0
HasLabel names None v = Unit {0}
HasLabel names (Some name) v = names name ≡ Some v

abbrev pub UnlessLast : Bool → Type 0 → Type 0
UnlessLast true More = Unit {0}
UnlessLast false More = More

-- each label has the address of its statement and each EQU name its value, both under this same table
abbrev pub IsTableOf : NameTable → Position → List NumberedStatement → Type 0
IsTableOf names p [] = Unit {0}
IsTableOf names p (x ∷ xs) = HasLabel names (statement_of p x).label (measure_of names p x).label
    × UnlessLast (is_end_statement (statement_of p x).deed) (IsTableOf names (position_behind names p x) xs)

abbrev pub OrLater : Bool → Type 0 → Type 0
OrLater true More = ⊥
OrLater false More = More

-- a statement has the name as its label
abbrev pub IsLabelled : NameTable → Name → Position → List NumberedStatement → Type 0
IsLabelled names n p [] = ⊥
IsLabelled names n p (x ∷ xs) = ((statement_of p x).label ≡ Some n)
    ⊎ OrLater (is_end_statement (statement_of p x).deed) (IsLabelled names n (position_behind names p x) xs)

-- the bytes of each statement at its address, gaps 0, all under one table
abbrev pub image_from : NameTable → List ℕ → Position → List NumberedStatement → List ℕ
image_from names image p [] = image
image_from names image p (x ∷ xs) =
    last_or (is_end_statement (statement_of p x).deed) (with_statement_bytes names image p x)
    (image_from names (with_statement_bytes names image p x) (position_behind names p x) xs)

-- bytes stand at an address of an image, which begins at 0100h
abbrev pub LiesAt : List ℕ → ℕ → List ℕ → Type 0
LiesAt image a bytes = take (length bytes) (drop (a - 256) image) ≡ bytes

-- the bytes of each statement stand at its address
abbrev pub EachLies : NameTable → List ℕ → Position → List NumberedStatement → Type 0
EachLies names image p [] = Unit {0}
EachLies names image p (x ∷ xs) = LiesAt image p.address (bytes_given names p x).bytes
    × UnlessLast (is_end_statement (statement_of p x).deed) (EachLies names image (position_behind names p x) xs)

-- There is one table of names under which each label has its value, which has no other names, and by which the image
-- is the bytes of the statements, each at its address, and zeros between them.
pub record AssemblesTo (source image : List ℕ) : Type 0 where
  pub names : NameTable
  pub table : IsTableOf names start (pieces source)
  pub only : (n : Name) (v : ℕ) → names n ≡ Some v → IsLabelled names n start (pieces source)
  pub bytes : image ≡ image_from names [] start (pieces source)
  pub places : EachLies names image start (pieces source)
