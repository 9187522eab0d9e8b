-- The law of an erase, over all drives and patterns.
use Rattle.std.specs.Prelude.{◌≡◌, ◌≢◌, ◌⊎◌, ℕ, true, false, List, None}
use Rattle.cpm_geom.specs.declared.dpb.Dpb.{Dpb}
use Rattle.cpm_volume.specs.Files.{deleted, entry_at, name_matches, block_number, is_reserved, file_record, IsFormat, IsSoundDrive, Volume}
use Rattle.cpm_volume.specs.Names.{none_named, file_read_only, named, is_named, is_read_only, erase_files_on_volume}

-- the files of a name are gone and their blocks free, all others are as they were, and the drive agrees with itself
pub record ErasesFiles (d : Dpb) (user : ℕ) (v : Volume) (pattern : List ℕ) (v' : Volume) : Type 0 where
  pub gone : (name : List ℕ) (m : ℕ) → name_matches pattern name ≡ true → file_record d v'.entries v'.records user name m ≡ None
  pub freed : (i s : ℕ) → is_named user pattern (entry_at v.entries i) ≡ true → block_number (entry_at v.entries i).extent s ≢ 0
      → is_reserved v'.reserved (block_number (entry_at v.entries i).extent s) ≡ false
  pub others : (other : ℕ) (name : List ℕ) (m : ℕ) → other ≢ deleted → (other ≡ user → name_matches pattern name ≡ true → ⊥)
      → file_record d v'.entries v'.records other name m ≡ file_record d v.entries v.records other name m
  pub sound : IsSoundDrive d v'

-- an erase finds no file, or one that is read-only, or erases all
abbrev pub EraseLaw : Type 0
EraseLaw =
    (d : Dpb) (user : ℕ) (v : Volume) (pattern : List ℕ) → user ≢ deleted → IsFormat d → IsSoundDrive d v
    → ((erase_files_on_volume d v user pattern ≡ none_named) × ((i : ℕ) → is_named user pattern (entry_at v.entries i) ≡ false))
    ⊎ (((erase_files_on_volume d v user pattern ≡ file_read_only)
    × ((i : ℕ) × (is_named user pattern (entry_at v.entries i) ≡ true) × (is_read_only (entry_at v.entries i).extent.name ≡ true)))
    ⊎ ((first : ℕ) × (v' : Volume) × (erase_files_on_volume d v user pattern ≡ named first v') × ErasesFiles d user v pattern v'))
