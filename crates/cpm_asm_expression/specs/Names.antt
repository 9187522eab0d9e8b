-- Names, and tables of their values.
use Rattle.std.specs.Prelude.{◌≡◌, ℕ, ◌-◌, List, ◌++◌, length, replicate, Option, None, Some, if◌then◌else◌}
use Rattle.std.specs.Ordering.{nat_cmp}
use Rattle.std.specs.Cmp.Lexicographic.{slice_cmp}
use Rattle.std.specs.declared.cmp.Ordering.{Ordering}
use Rattle.std.specs.BTreeMap.{BTreeMap, get, is_at}
use Rattle.cpm_asm_expression.specs.declared.names.Name.{Name}

-- the name of at most 16 letters, blanks after them
abbrev pub name_with : List ℕ → Name
name_with letters = record { letters = letters ++ replicate (16 - length letters) 32 }

-- the order of names, by their letters
abbrev pub name_cmp : Name → Name → Ordering
name_cmp a b = slice_cmp nat_cmp a.letters b.letters

-- a table gives some names a value
abbrev pub NameTable : Type 0
NameTable = Name → Option ℕ

abbrev pub no_names : NameTable
no_names = λ _. None

abbrev pub with_name : NameTable → Name → ℕ → NameTable
with_name names name v = λ n. if is_at (name_cmp name) n then Some v else names n

-- the table that a map holds
abbrev pub in_table : BTreeMap Name ℕ → NameTable
in_table map = λ name. get name_cmp map name

-- a table that gives each name of another the same value
abbrev pub Extends : NameTable → NameTable → Type 0
Extends names more = (n : Name) (v : ℕ) → names n ≡ Some v → more n ≡ Some v
