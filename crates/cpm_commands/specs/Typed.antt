-- The session that is typed at. All of it is own.
use Rattle.std.specs.Prelude.{◌≡◌, ◌⊎◌, Bool, true, false, if◌then◌else◌, List, [], ◌∷◌, string_bytes, Option, Some, None, String}
use Rattle.std.specs.declared.alloc.Global.{Global}
use Rattle.std.specs.Str.{bytes_eq}
use Rattle.cpm_config.specs.declared.config.SessionConfig.{SessionConfig}
use Rattle.cpm_store.specs.Files.{StoreName}

-- whether one types at a session
abbrev pub is_typed_at : Option StoreName → SessionConfig → Bool
is_typed_at None s = false
is_typed_at (Some name) s = bytes_eq name (string_bytes s.name)

-- the script of the first session at which one types, if there is one
abbrev pub typed_script : Option StoreName → List (SessionConfig × String Global) → Option StoreName
typed_script typed [] = None
typed_script typed (p ∷ ps) = if is_typed_at typed p.0 then Some (string_bytes p.1) else typed_script typed ps

-- it is kept where something has its name
abbrev pub IsScriptKept : (tells_name : StoreName → Bool → Type 0) → Option StoreName → Option StoreName → Type 0
IsScriptKept tells_name None kept = kept ≡ None
IsScriptKept tells_name (Some name) kept = ((kept ≡ Some name) × tells_name name true) ⊎ ((kept ≡ None) × tells_name name false)
