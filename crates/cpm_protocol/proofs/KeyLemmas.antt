-- The names of an object and the items of a list, as they are kept.
use Rattle.std.proofs.Common.{◌≡◌, ℕ, suc, length, sym, Bool, true, false, List, [], ◌∷◌, Option, Some, None, String, Global, cond, map, not, option_map, string_bytes, refl, ap, ◌∙◌}
use Rattle.std.specs.List.{find}
use Rattle.serde_json.specs.Data.{Data}
use Rattle.serde_json.specs.Events.{items_len}
use Rattle.serde_json.specs.Find.{as_array, as_object}
use Rattle.serde_json.specs.View.{items_view, members_view}
use Rattle.serde_json.specs.declared.value.Value.{Value}
use Rattle.cpm_protocol.specs.Requests.{Many, is_known_name, is_request_count, many_in, unknown_member, unknown_name, unknown_of}
use Rattle.cpm_protocol.specs.declared.field.RequestField.{RequestField}

at_first : (b : Bool) (k : String Global) (found : Option (String Global)) (o : Option (List ℕ)) → option_map string_bytes found ≡ o
    → option_map string_bytes (cond (not b) (Some k) found) ≡ cond b o (Some (string_bytes k))
at_first true k found o rest = rest
at_first false k found o rest = refl

-- the first key that is no name is the first member's that is none
pub unknown-keys : (fields : List RequestField) (es : List (String Global × Value))
    → option_map string_bytes (find (λ k. not (is_known_name fields (string_bytes k))) (map (λ e. e.0) es)) ≡ unknown_member fields (members_view es)
unknown-keys fields [] = refl
unknown-keys fields (e ∷ es) = at_first (is_known_name fields (string_bytes e.0)) e.0 _ _ (unknown-keys fields es)

-- what is found of the keys is the unknown name of the value
pub unknown-found : (fields : List RequestField) (es : List (String Global × Value)) (d : Data) (found : Option (String Global)) → Some (members_view es) ≡ as_object d
    → found ≡ find (λ k. not (is_known_name fields (string_bytes k))) (map (λ e. e.0) es) → option_map string_bytes found ≡ unknown_name fields d
unknown-found fields es d found is at = ap (option_map string_bytes) at ∙ unknown-keys fields es ∙ ap (unknown_of fields) is

-- ---- the items of a list

items_len-view : (vs : List Value) → items_len (items_view vs) ≡ length vs
items_len-view [] = refl
items_len-view (v ∷ vs) = ap suc (items_len-view vs)

-- so many as may stand in a line
pub many-passed : (vs : List Value) (d : Data) → Some (items_view vs) ≡ as_array d → is_request_count (length vs) ≡ true → Some (Many (items_view vs)) ≡ many_in d
many-passed vs d is few = rw (sym is, items_len-view vs, few) refl

-- or not
pub many-refused : (vs : List Value) (d : Data) → Some (items_view vs) ≡ as_array d → is_request_count (length vs) ≡ false → None ≡ many_in d
many-refused vs d is few = rw (sym is, items_len-view vs, few) refl
