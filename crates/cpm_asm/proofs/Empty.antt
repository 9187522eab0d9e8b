-- A map with no names.
use Rattle.std.proofs.Common.{◌≡◌, ℕ, [], List, ap}
use Rattle.std.specs.BTreeMap.{BTreeMap, is_at}
use Rattle.std.specs.Map.{lookup}
use Rattle.cpm_asm_expression.specs.Names.{no_names, in_table, name_cmp}
use Rattle.cpm_asm_expression.specs.declared.names.Name.{Name}

pub in_table-empty : (map : BTreeMap Name ℕ) → map.entries ≡ [] → in_table map ≡ no_names
in_table-empty map h = ap (λ (es : List (Name × ℕ)). λ (name : Name). lookup (is_at (name_cmp name)) es) h
