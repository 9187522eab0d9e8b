-- What is written where writing fails.
use Rattle.std.specs.Prelude.{ℕ, List, take, Option}
use Rattle.std.specs.Io.KnownBytes.{Appends}

-- some first bytes were added: none of them, or all
pub record AppendsFirst (old new : Option (List ℕ)) (bytes : List ℕ) : Type 0 where
  pub count : ℕ
  pub added : Appends old new (take count bytes)
