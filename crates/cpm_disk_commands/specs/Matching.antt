-- The files of a disk's list that a pattern names. All of it is own.
use Rattle.std.specs.Prelude.{◌≡◌, ◌≢◌, ℕ, Bool, not, ◌&&◌, ◌==◌, List, [], Some, None, map, chars}
use Rattle.std.specs.List.{filter}
use Rattle.cpm_shown.specs.Shown.{shown_of}
use Rattle.cpm_volume.specs.Files.{has_wildcard, name_matches}
use Rattle.cpm_image_files.specs.declared.listing.DiskFile.{DiskFile}
use Rattle.cpm_disk_commands.specs.Names.{pattern_text}
use Rattle.cpm_disk_commands.specs.declared.damage.NamedFile.{NamedFile}
use Rattle.cpm_disk_commands.specs.declared.error.DiskCommandError.{DiskCommandError}
use Rattle.cpm_disk_commands.specs.declared.error.DiskCommandError.TheVariants.{NotPattern, NoFile, OutOfMemory}

-- the file is of the user and its name matches; one with a question mark in its name can't be named
unfoldable pub is_meant : ℕ → List ℕ → DiskFile → Bool
is_meant user pattern file = (file.user == user) && (name_matches pattern file.name && not (has_wildcard file.name))

abbrev pub listed : DiskFile → NamedFile
listed file = record { user = file.user; name = file.name }

-- those of a list, in its order
unfoldable pub meant : ℕ → List ℕ → List DiskFile → List NamedFile
meant user pattern files = map listed (filter (is_meant user pattern) files)

-- These are the files that a pattern's text names, and there is one.
pub record AreMeant (text : List ℕ) (user : ℕ) (files : List DiskFile) (named : List NamedFile) : Type 0 where
  pub pattern : List ℕ
  pub pattern_is : pattern_text text ≡ Some pattern
  pub named_are : named ≡ meant user pattern files
  pub some : named ≢ []

-- Why there are none: the text is no pattern; it is one, but no file of the user matches; or one does, but there was no memory.
abbrev pub IsMatchRefusal : (image text : List ℕ) → (user : ℕ) → List DiskFile → DiskCommandError → Type 0
IsMatchRefusal image text user files (NotPattern shown) = (shown.bytes ≡ shown_of (chars text)) × (pattern_text text ≡ None)
IsMatchRefusal image text user files (NoFile shown pattern number) =
    (shown.bytes ≡ shown_of (chars image)) × (pattern.bytes ≡ shown_of (chars text)) × (number ≡ user)
    × ((pattern : List ℕ) × (pattern_text text ≡ Some pattern) × (meant user pattern files ≡ []))
IsMatchRefusal image text user files OutOfMemory = (pattern : List ℕ) × (pattern_text text ≡ Some pattern) × (meant user pattern files ≢ [])
IsMatchRefusal image text user files _ = ⊥
