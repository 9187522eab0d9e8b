-- Keys that are typed: which of the bytes of an input are the keys of a live session. All of it is own.
use Rattle.std.specs.Prelude.{⊤, ◌≡◌, ℕ, ◌==◌, nat_lt, List, [], ◌∷◌, ◌++◌, Option, Some, None, if◌then◌else◌}
use Rattle.std.specs.Io.KnownBytes.{Consumes}

-- ^], which ends a live session and is no key of it
abbrev pub end_key : ℕ
end_key = 0x1D

-- the keys among these bytes: those below 80h, up to the first ^]
abbrev pub typed_keys : List ℕ → List ℕ
typed_keys [] = []
typed_keys (b ∷ bytes) = if b == end_key then [] else (if nat_lt b 0x80 then b ∷ typed_keys bytes else typed_keys bytes)

-- these bytes were read, which have these keys and no ^]
pub record AreKeysOf (before after : Option (List ℕ)) (keys : List ℕ) : Type 0 where
  pub bytes : List ℕ
  pub consumed : Consumes before after bytes
  pub goes_on : (rest : List ℕ) → typed_keys (bytes ++ rest) ≡ keys ++ typed_keys rest

-- and then ^]
pub record AreKeysToQuit (before after : Option (List ℕ)) (keys : List ℕ) : Type 0 where
  pub bytes : List ℕ
  pub consumed : Consumes before after (bytes ++ end_key ∷ [])
  pub goes_on : (rest : List ℕ) → typed_keys (bytes ++ rest) ≡ keys ++ typed_keys rest

-- Bytes were read, which have these keys and no ^]. Of an input whose bytes aren't known nothing is said.
abbrev pub HasReadKeys : Option (List ℕ) → Option (List ℕ) → List ℕ → Type 0
HasReadKeys None after keys = ⊤
HasReadKeys (Some before) after keys = AreKeysOf (Some before) after keys

-- and then ^]
abbrev pub HasQuit : Option (List ℕ) → Option (List ℕ) → List ℕ → Type 0
HasQuit None after keys = ⊤
HasQuit (Some before) after keys = AreKeysToQuit (Some before) after keys
