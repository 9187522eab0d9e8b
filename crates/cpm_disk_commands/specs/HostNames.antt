-- The names that files of a disk get on the host. All of it is own.
use Rattle.std.specs.Prelude.{◌≡◌, ℕ, ◌+◌, ◌%◌, Bool, true, false, not, ◌&&◌, ◌==◌, nat_le}
use Rattle.std.specs.Prelude.{if◌then◌else◌, List, [], ◌∷◌, ◌++◌, Option, Some, None, take, drop, chars}
use Rattle.std.specs.List.{list_all, list_any}
use Rattle.cpm_shown.specs.Shown.{shown_of}
use Rattle.cpm_volume.specs.Files.{same_name}
use Rattle.cpm_image_files.specs.declared.name.FileName.{FileName}
use Rattle.cpm_disk_commands.specs.Listing.{is_blank_byte}
use Rattle.cpm_disk_commands.specs.Names.{with_marks, one_name}
use Rattle.cpm_disk_commands.specs.Refusals.{file_named}
use Rattle.cpm_disk_commands.specs.declared.error.DiskCommandError.{DiskCommandError}
use Rattle.cpm_disk_commands.specs.declared.error.DiskCommandError.TheVariants.{NoHostName}

-- a capital as the small letter, without its attribute
unfoldable pub small : ℕ → ℕ
small c = if nat_le 0x41 (c % 128) && nat_le (c % 128) 0x5A then c % 128 + 32 else c % 128

-- a character that is no blank
abbrev pub shown_small : ℕ → List ℕ
shown_small c = if is_blank_byte c then [] else small c ∷ []

-- a part of a name without its blanks
unfoldable pub host_part : List ℕ → List ℕ
host_part [] = []
host_part (c ∷ cs) = shown_small c ++ host_part cs

-- a name, with a dot before the type if there is one
unfoldable pub host_text : List ℕ → List ℕ
host_text name =
    if list_all is_blank_byte (drop 8 name) then host_part (take 8 name) else host_part (take 8 name) ++ 0x2E ∷ [] ++ host_part (drop 8 name)

-- a text that was read is a name, in the low seven bits of each character
abbrev pub is_read_as : List ℕ → Option (List ℕ) → Bool
is_read_as name None = false
is_read_as name (Some found) = same_name found name

-- a text can be the name of a file of the host: it has no slash, and is read as the name again
unfoldable pub is_host_name : List ℕ → List ℕ → Bool
is_host_name text name = not (list_any (λ c. c == 0x2F) text) && is_read_as name (one_name text)

-- own: a name that a text without a slash spells has a text on the host, whatever its attributes
abbrev pub SpelledLaw : Type 0
SpelledLaw =
    (text name : List ℕ) (is_read_only is_system : Bool) → one_name text ≡ Some name → list_any (λ c. c == 0x2F) text ≡ false
    → is_host_name (host_text (with_marks is_read_only is_system name)) (with_marks is_read_only is_system name) ≡ true

-- own: two names with one text on the host are the same
abbrev pub ApartLaw : Type 0
ApartLaw =
    (name other : List ℕ) → is_host_name (host_text name) name ≡ true → is_host_name (host_text other) other ≡ true
    → host_text name ≡ host_text other → same_name name other ≡ true

-- why a file gets no name on the host: its text can't be one
abbrev pub IsNoHostName : (image : List ℕ) → FileName → DiskCommandError → Type 0
IsNoHostName image file (NoHostName shown about) =
    (shown.bytes ≡ shown_of (chars image)) × (about ≡ file_named file) × (is_host_name (host_text file.name) file.name ≡ false)
IsNoHostName image file _ = ⊥
