-- Files written one after another. All of it is own.
use Rattle.std.specs.Prelude.{◌≡◌, false, ℕ, List, [], ◌∷◌, ◌++◌, length, Some, if◌then◌else◌}
use Rattle.std.specs.Str.{bytes_eq}
use Rattle.cpm_store.specs.Files.{StoreFiles, StoreName}
use Rattle.cpm_store.specs.declared.writes.Output.{Output}

-- a name, and bytes for its file
abbrev pub NamedBytes : Type 0
NamedBytes = StoreName × List ℕ

abbrev pub named_output : Output → NamedBytes
named_output o = (o.name.now, o.bytes.items)

-- the files with one more, or with other bytes in one of them
abbrev pub with_file : StoreFiles → NamedBytes → StoreFiles
with_file files p name = if bytes_eq name p.0 then Some p.1 else files name

-- the files after these were written in order
abbrev pub files_written : StoreFiles → List NamedBytes → StoreFiles
files_written files [] = files
files_written files (p ∷ ps) = files_written (with_file files p) ps

-- all were written, and nothing else
abbrev pub WritesAll : List NamedBytes → StoreFiles → StoreFiles → Type 0
WritesAll ps old new = (name : StoreName) → new name ≡ files_written old ps name

-- those before this place were written, the one at it may hold anything, and nothing else changed
pub record StopsAt (ps : List NamedBytes) (count : ℕ) (old new : StoreFiles) : Type 0 where
  pub done : List NamedBytes
  pub stopped_at : NamedBytes
  pub rest : List NamedBytes
  pub order : ps ≡ done ++ stopped_at ∷ rest
  pub before : length done ≡ count
  pub others : (name : StoreName) → bytes_eq name stopped_at.0 ≡ false → new name ≡ files_written old done name
