-- What the command processor makes of a line.
use Rattle.std.specs.Prelude.{◌≡◌, ◌<◌, ℕ, ◌-◌, ◌==◌, ◌&&◌, ◌||◌, Bool, true, false, not, ⊤}
use Rattle.std.specs.Prelude.{if◌then◌else◌, List, length, drop, slice_index, codes, Option, Some, None}
use Rattle.std.specs.Str.{bytes_eq}
use Rattle.cpm_volume.specs.declared.fcb.Fcb.{Fcb}
use Rattle.cpm_volume.specs.Files.{has_wildcard}
use Rattle.cpm_directory.specs.CommandLine.{after_spaces, fcb_named, text_behind_name}
use Rattle.cpm_ccp.specs.Words.{first_word, tail_of, is_drive_alone, number_up_to}
use Rattle.cpm_ccp.specs.Names.{all_of, is_unnamed, is_program_name, is_every, program_file}
use Rattle.cpm_ccp.specs.declared.built_in.BuiltIn.{BuiltIn}
use Rattle.cpm_ccp.specs.declared.built_in.BuiltIn.TheVariants as built_in
use Rattle.cpm_ccp.specs.declared.command.Command.{Command}
use Rattle.cpm_ccp.specs.declared.command.Command.TheVariants.{Nothing, SelectDrive, Directory, Erase, EraseAll, Rename, RenameForm}
use Rattle.cpm_ccp.specs.declared.command.Command.TheVariants.{Save, SaveForm, TypeFile, TypeForm, User, UserForm, Program, Unknown}

-- CP/M 2.2 Operating System Manual, section 1.4, Built-in Commands: the built-in commands; own: without a drive and a type
unfoldable pub built_in_of : Fcb → Option BuiltIn
built_in_of file =
    if not (file.drive == 0) then None
    else if bytes_eq file.extent.name (codes "DIR        ") then Some built_in.Dir
    else if bytes_eq file.extent.name (codes "ERA        ") then Some built_in.Era
    else if bytes_eq file.extent.name (codes "REN        ") then Some built_in.Ren
    else if bytes_eq file.extent.name (codes "SAVE       ") then Some built_in.Save
    else if bytes_eq file.extent.name (codes "TYPE       ") then Some built_in.TypeFile
    else if bytes_eq file.extent.name (codes "USER       ") then Some built_in.User
    else None

-- section 1, DIR: no name stands for all files
unfoldable pub directory_command : List ℕ → Command
directory_command tail = let file = fcb_named tail in Directory (if is_unnamed file then all_of file else file)

-- section 1, ERA: all files are asked for
unfoldable pub erase_of : List ℕ → Command
erase_of tail = let file = fcb_named tail in if is_every file then EraseAll file else Erase file

-- section 1, REN: the new name, = and the old one; own: spaces before = are skipped, and _ serves for it
unfoldable pub behind_equals : List ℕ → Option (List ℕ)
behind_equals text =
    let sign = slice_index (after_spaces text) 0 in
    if (sign == 0x3D) || (sign == 0x5F) then Some (drop 1 (after_spaces text)) else None

-- the drive of a file, 0 for A, with this current drive
unfoldable pub effective_drive : ℕ → Fcb → ℕ
effective_drive current file = if file.drive == 0 then current else file.drive - 1

-- the old name has a drive, and another than the new one's
unfoldable pub is_elsewhere : ℕ → Fcb → Fcb → Bool
is_elsewhere current new old =
    not (old.drive == 0) && not (effective_drive current old == effective_drive current new)

-- section 1, REN: both names are of one drive, and stand for one file
unfoldable pub rename_command : ℕ → Fcb → Option (List ℕ) → Command
rename_command current new None = RenameForm
rename_command current new (Some text) =
    let old = fcb_named text in
    if has_wildcard new.extent.name || (has_wildcard old.extent.name || is_elsewhere current new old) then RenameForm
    else Rename (record old { drive = new.drive }) new

unfoldable pub rename_of : ℕ → List ℕ → Command
rename_of current tail = rename_command current (fcb_named tail) (behind_equals (text_behind_name tail))

-- section 1, SAVE: a number of pages and one file; own: 0 to 255 pages
unfoldable pub save_command : Option ℕ → Fcb → Command
save_command None file = SaveForm
save_command (Some pages) file = if has_wildcard file.extent.name then SaveForm else Save pages file

unfoldable pub save_of : List ℕ → Command
save_of tail = save_command (number_up_to 255 (first_word tail)) (fcb_named (tail_of tail))

-- section 1, TYPE: one file
unfoldable pub type_command : List ℕ → Command
type_command tail = let file = fcb_named tail in if has_wildcard file.extent.name then TypeForm else TypeFile file

-- section 1, USER: 0 to 15
unfoldable pub user_numbered : Option ℕ → Command
user_numbered None = UserForm
user_numbered (Some user) = User user

unfoldable pub user_of : List ℕ → Command
user_of tail = user_numbered (number_up_to 15 (first_word tail))

-- what a command does that has this name and this tail
unfoldable pub by_name : ℕ → Fcb → List ℕ → Option BuiltIn → Command
by_name current file tail (Some built_in.Dir) = directory_command tail
by_name current file tail (Some built_in.Era) = erase_of tail
by_name current file tail (Some built_in.Ren) = rename_of current tail
by_name current file tail (Some built_in.Save) = save_of tail
by_name current file tail (Some built_in.TypeFile) = type_command tail
by_name current file tail (Some built_in.User) = user_of tail
by_name current file tail None = Program (program_file file)

abbrev pub command_meaning : ℕ → Fcb → List ℕ → Command
command_meaning current file tail = by_name current file tail (built_in_of file)

-- the command of a line, with this current drive
unfoldable pub command_of : ℕ → List ℕ → Command
command_of current line =
    let word = first_word line in
    let tail = tail_of line in
    let file = fcb_named word in
    if length word == 0 then Nothing
    else if is_drive_alone word tail then SelectDrive (slice_index word 0 - 0x41)
    else if is_program_name file then command_meaning current file tail
    else Unknown

-- what the operands are like, whatever the line
abbrev pub HasOperands : Command → Type 0
HasOperands Nothing = ⊤
HasOperands (SelectDrive drive) = drive < 16
HasOperands (Directory file) = ⊤
HasOperands (Erase file) = is_every file ≡ false
HasOperands (EraseAll file) = is_every file ≡ true
HasOperands (Rename old new) =
    (old.drive ≡ new.drive) × (has_wildcard old.extent.name ≡ false) × (has_wildcard new.extent.name ≡ false)
HasOperands RenameForm = ⊤
HasOperands (Save pages file) = (pages < 256) × (has_wildcard file.extent.name ≡ false)
HasOperands SaveForm = ⊤
HasOperands (TypeFile file) = has_wildcard file.extent.name ≡ false
HasOperands TypeForm = ⊤
HasOperands (User user) = user < 16
HasOperands UserForm = ⊤
HasOperands (Program file) = (drop 8 file.extent.name ≡ codes "COM") × (has_wildcard file.extent.name ≡ false)
HasOperands Unknown = ⊤
