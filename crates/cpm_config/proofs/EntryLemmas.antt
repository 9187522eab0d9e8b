-- The names of a table's keys.
use Rattle.std.proofs.Common.{◌≡◌, List, [], ◌∷◌, map, refl, ap}
use Rattle.std.specs.Prelude.{◌&&◌, String, string_bytes}
use Rattle.std.specs.List.{list_all, list_any}
use Rattle.std.specs.Str.{bytes_eq}
use Rattle.std.specs.declared.alloc.Global.{Global}
use Rattle.toml.specs.View.{members_view}
use Rattle.toml.specs.declared.value.Value.{Value}
use Rattle.cpm_config.specs.Entries.{has_only}
use Rattle.cpm_config.specs.Fields.{field_name}
use Rattle.cpm_config.specs.declared.field.Field.{Field}

-- the names of a table's keys
pub has_only-keys : (known : List Field) (es : List (String Global × Value))
    → list_all (λ k. list_any (λ f. bytes_eq (string_bytes k) (field_name f)) known) (map (λ e. e.0) es) ≡ has_only known (members_view es)
has_only-keys known [] = refl
has_only-keys known (e ∷ es) = ap (λ b. list_any (λ f. bytes_eq (string_bytes e.0) (field_name f)) known && b) (has_only-keys known es)
