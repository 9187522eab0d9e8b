-- What the names of files are like.
use Rattle.std.specs.Prelude.{ℕ, ◌%◌, ◌==◌, ◌&&◌, ◌++◌, Bool, not, take, drop, replicate, codes}
use Rattle.std.specs.List.{list_all}
use Rattle.std.specs.Str.{bytes_eq}
use Rattle.cpm_volume.specs.declared.fcb.Fcb.{Fcb}
use Rattle.cpm_volume.specs.Files.{has_wildcard}

-- neither a name nor a type
unfoldable pub is_unnamed : Fcb → Bool
is_unnamed file = bytes_eq file.extent.name (codes "           ")

-- a question mark in the low seven bits, as where names are compared
abbrev pub is_wildcard : ℕ → Bool
is_wildcard c = c % 128 == 0x3F

-- the name of every file
unfoldable pub is_every : Fcb → Bool
is_every file = list_all is_wildcard file.extent.name

-- CP/M 2.2 Operating System Manual, section 1.6, Transient Commands: a name, which stands for one file; own: no type
unfoldable pub is_program_name : Fcb → Bool
is_program_name file =
    not (bytes_eq (take 8 file.extent.name) (codes "        ")) && (bytes_eq (drop 8 file.extent.name) (codes "   ") && not (has_wildcard file.extent.name))

unfoldable pub all_of : Fcb → Fcb
all_of file = record file { extent = record file.extent { name = replicate 11 0x3F } }

-- CP/M 2.2 Operating System Manual, section 1.6, Transient Commands: programs are files of type COM
unfoldable pub program_file : Fcb → Fcb
program_file file = record file { extent = record file.extent { name = take 8 file.extent.name ++ codes "COM" } }
