-- The laws of writes in order, over all files. All of it is own.
use Rattle.std.specs.Prelude.{◌≡◌, false, Bool, List, ◌∷◌, ◌++◌, Some}
use Rattle.std.specs.List.{list_any}
use Rattle.std.specs.Str.{bytes_eq}
use Rattle.cpm_store.specs.Files.{StoreFiles, StoreName}
use Rattle.cpm_store.specs.Writes.{NamedBytes, files_written}

-- one of them has this name
abbrev pub has_name_among : StoreName → List NamedBytes → Bool
has_name_among name ps = list_any (λ p. bytes_eq name p.0) ps

-- what is written and not written again is held
abbrev pub LastWritesStay : Type 0
LastWritesStay = (files : StoreFiles) (before : List NamedBytes) (p : NamedBytes) (after : List NamedBytes) → has_name_among p.0 after ≡ false
    → files_written files (before ++ p ∷ after) p.0 ≡ Some p.1

-- what isn't written is as it was
abbrev pub UnwrittenStay : Type 0
UnwrittenStay = (files : StoreFiles) (ps : List NamedBytes) (name : StoreName) → has_name_among name ps ≡ false → files_written files ps name ≡ files name
