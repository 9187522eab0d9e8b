-- What a machine sends to its printer, as it is kept. All of it is own.
use Rattle.std.specs.Prelude.{◌≡◌, ⊤, ℕ, Bool, true, false, List, Option, Some, None}

-- these bytes, where they are kept
abbrev pub kept_if : (is_kept : Bool) → List ℕ → Option (List ℕ)
kept_if true bytes = Some bytes
kept_if false bytes = None

-- none is dropped where they are kept
abbrev pub MayBeDropped : (kept : Option (List ℕ)) → (dropped : Bool) → Type 0
MayBeDropped None dropped = ⊤
MayBeDropped (Some bytes) dropped = dropped ≡ false
