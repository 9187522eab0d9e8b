-- The files of a store, and what its calls do to them. All of it is own.
use Rattle.std.specs.Prelude.{◌≡◌, false, ◌⊎◌, ℕ, ◌<◌, ◌-◌, ◌^◌, List, Option, Some, None}
use Rattle.std.specs.Prelude.{String, Vec, option_map}
use Rattle.std.specs.BTreeMap.{BTreeMap, get_by_text}
use Rattle.std.specs.Str.{bytes_eq}
use Rattle.std.specs.declared.alloc.Global.{Global}

abbrev pub StoreName : Type 0
StoreName = List ℕ

-- the bytes of each name that is there
abbrev pub StoreFiles : Type 0
StoreFiles = StoreName → Option (List ℕ)

-- the files in a map
abbrev pub file_at : BTreeMap (String Global) (Vec ℕ Global) → StoreFiles
file_at m name = option_map (λ v. v.items) (get_by_text m name)

-- R holds of the files before and after, where a store tells both; nothing is said of one that does not tell
abbrev pub WhereTold : Option StoreFiles → Option StoreFiles → (StoreFiles → StoreFiles → Type 0) → Type 0
WhereTold (Some old) (Some new) R = R old new
WhereTold None new R = Unit {0}
WhereTold (Some old) None R = ⊥

-- the file of this name has these bytes, where the store tells it
abbrev pub Finds : Option StoreFiles → StoreName → List ℕ → Type 0
Finds None name bytes = Unit {0}
Finds (Some files) name bytes = files name ≡ Some bytes

-- every file but one is as it was
abbrev pub KeepsOthers : StoreName → StoreFiles → StoreFiles → Type 0
KeepsOthers name old new = (other : StoreName) → bytes_eq other name ≡ false → new other ≡ old other

-- the file of this name has these bytes, and every other file is as it was
pub record Writes (name : StoreName) (bytes : List ℕ) (old new : StoreFiles) : Type 0 where
  pub here : new name ≡ Some bytes
  pub others : KeepsOthers name old new

abbrev pub most_failures : ℕ
most_failures = 2 ^ 64 - 1

-- a failure was counted, or no more can be
abbrev pub CountsFailure : ℕ → ℕ → Type 0
CountsFailure old new = (old < new) ⊎ (new ≡ most_failures)
