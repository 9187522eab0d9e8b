-- What a reader answers, and what is appended. All of it is own.
use Rattle.std.specs.Prelude.{◌≡◌, ⊤, ◌++◌, List, ℕ, Result, Ok, Err}
use Rattle.cpm_saved.specs.Layout.{IsOf, Layout, Read, Rest, coded, decoded, laid_out}
use Rattle.cpm_saved.specs.declared.reader.RestoreError.{RestoreError}
use Rattle.cpm_saved.specs.declared.reader.RestoreError.TheVariants.{Damaged, OutOfMemory}

-- a refusal names the part that can't be read, unless it is out of memory
abbrev pub IsPartUnread : {A : Type 0} → Read A → RestoreError → Type 0
IsPartUnread {A} read (Damaged damage) = read ≡ Err damage
IsPartUnread {A} read OutOfMemory = ⊤

-- what is answered has the fields that are read by a layout, and the rest is what is behind them
abbrev pub IsPartRead : {A : Type 0} → (f : Layout) → (A → laid_out f) → (old new : Rest) → Result A RestoreError → Type 0
IsPartRead {A} f fields old new (Ok v) = decoded f old ≡ Ok (fields v, new)
IsPartRead {A} f fields old new (Err fault) = IsPartUnread (decoded f old) fault

-- the bytes of a value, which can be laid out so, are appended
pub record IsPartAppended (f : Layout) (v : laid_out f) (old new : List ℕ) : Type 0 where
  pub bytes : new ≡ old ++ coded f v
  pub fits : IsOf f v
