-- The commands of `disk`, and the task that the entries of one give.
use Rattle.std.specs.Prelude.{⊤, ◌≡◌, ◌⊎◌, ◌∷◌, [], ◌<◌, ◌≤◌, IfSome, IsSome, IsSomeAnd, ℕ, List, None, Option, Some, codes, length, map, option_map}
use Rattle.std.specs.Borrow.{Bor}
use Rattle.std.specs.Str.Parse.{IsNumeral, digits_value, without_leading_plus}
use Rattle.clap.specs.Lexer.{usize_max}
use Rattle.clap.specs.Values.{bool_text}
use Rattle.clap.specs.Words.{App, Row, Rule, Text, all_of, first_of, new_app, one_of, with_rule, with_subcommand}
use Rattle.clap.specs.declared.builder.value_parser.ValueParser.TheVariants as parser
use Rattle.cpm_command_line.specs.CommandLine.{IsFlag, ReadsCount, flag, operand, top_app, value_option}
use Rattle.cpm_command_line.specs.declared.task.DiskTask.{DiskTask}
use Rattle.cpm_command_line.specs.declared.task.DiskTask.TheVariants.{Get, List as Listing, New, Put, Remove, Rename}

-- own: `--user N`, a number from 0 to 15, which may be left out
abbrev pub user_if_any_option : Rule
user_if_any_option = record (value_option (codes "user")) { parser = Some (parser.Unsigned 0 15) }

-- own: `--user N`, which is 0 where it is left out
abbrev pub user_option : Rule
user_option = record user_if_any_option { defaults = codes "0" ∷ [] }

-- own: one word that has to be there, and any number of further ones
abbrev pub operands : List ℕ → Rule
operands id = record (operand id) { range = Some (record { start_inclusive = 1; end_inclusive = usize_max }) }

-- ---- the commands

-- own: the command of this name with its image
abbrev pub image_app : List ℕ → App
image_app name = with_rule (new_app name) (operand (codes "image"))

-- own: `new IMAGE [--large]`
abbrev pub new_disk_app : App
new_disk_app = with_rule (image_app (codes "new")) (flag (codes "large"))

-- own: `list IMAGE [--user N]`
abbrev pub list_disk_app : App
list_disk_app = with_rule (image_app (codes "list")) user_if_any_option

-- own: `put IMAGE FILE.. [--user N] [--text] [--read-only] [--system]`
abbrev pub put_app : App
put_app = with_rule (with_rule (with_rule (with_rule (with_rule (image_app (codes "put"))
    (operands (codes "file"))) user_option) (flag (codes "text"))) (flag (codes "read-only"))) (flag (codes "system"))

-- own: `get IMAGE NAME.TYP.. [--user N] [--text] [--to PATH] [--force] [--dry-run]`
abbrev pub get_app : App
get_app = with_rule (with_rule (with_rule (with_rule (with_rule (with_rule (image_app (codes "get"))
    (operands (codes "name"))) user_option) (flag (codes "text"))) (value_option (codes "to"))) (flag (codes "force"))) (flag (codes "dry-run"))

-- own: `remove IMAGE NAME.TYP.. [--user N]`
abbrev pub remove_app : App
remove_app = with_rule (with_rule (image_app (codes "remove")) (operands (codes "name"))) user_option

-- own: `rename IMAGE NEW=OLD [--user N]`
abbrev pub rename_app : App
rename_app = with_rule (with_rule (image_app (codes "rename")) (operand (codes "change"))) user_option

-- own: `disk` with its commands
abbrev pub disk_app : App
disk_app = with_subcommand (with_subcommand (with_subcommand (with_subcommand (with_subcommand (with_subcommand
    (top_app (codes "disk")) new_disk_app.top) list_disk_app.top) put_app.top) get_app.top) remove_app.top) rename_app.top

-- ---- the task of a command's entries

-- own: the text is the number of a user
abbrev pub ReadsUser : Option Text → ℕ → Type 0
ReadsUser text n = ReadsCount text n × (n ≤ 15)

-- own: the text is such a number, or both are left out
abbrev pub ReadsUserIfAny : Option Text → Option ℕ → Type 0
ReadsUserIfAny text None = text ≡ None
ReadsUserIfAny text (Some n) = ReadsUser text n

-- own: the texts are the words, of which there is one at least
abbrev pub ReadsWords : Option (List Text) → List (Bor Text) → Type 0
ReadsWords texts words = (texts ≡ Some (map (λ w. w.now) words)) × (0 < length words)

-- own: the task has what the entries of the command of this name give
abbrev pub HasDiskEntriesOf : Text × List Row → DiskTask → Type 0
HasDiskEntriesOf given (New image is_large) =
    (given.0 ≡ codes "new") × (first_of (codes "image") given.1 ≡ Some image.now)
    × (one_of (codes "large") given.1 ≡ Some (bool_text is_large))
HasDiskEntriesOf given (Listing image user) =
    (given.0 ≡ codes "list") × (first_of (codes "image") given.1 ≡ Some image.now)
    × ReadsUserIfAny (one_of (codes "user") given.1) user
HasDiskEntriesOf given (Put image files user is_text is_read_only is_system) =
    (given.0 ≡ codes "put") × (first_of (codes "image") given.1 ≡ Some image.now)
    × ReadsWords (all_of (codes "file") given.1) files.items
    × ReadsUser (one_of (codes "user") given.1) user
    × (one_of (codes "text") given.1 ≡ Some (bool_text is_text))
    × (one_of (codes "read-only") given.1 ≡ Some (bool_text is_read_only))
    × (one_of (codes "system") given.1 ≡ Some (bool_text is_system))
HasDiskEntriesOf given (Get image names user is_text to is_forced is_dry) =
    (given.0 ≡ codes "get") × (first_of (codes "image") given.1 ≡ Some image.now)
    × ReadsWords (all_of (codes "name") given.1) names.items
    × ReadsUser (one_of (codes "user") given.1) user
    × (one_of (codes "text") given.1 ≡ Some (bool_text is_text))
    × (first_of (codes "to") given.1 ≡ option_map (λ t. t.now) to)
    × (one_of (codes "force") given.1 ≡ Some (bool_text is_forced))
    × (one_of (codes "dry-run") given.1 ≡ Some (bool_text is_dry))
HasDiskEntriesOf given (Remove image names user) =
    (given.0 ≡ codes "remove") × (first_of (codes "image") given.1 ≡ Some image.now)
    × ReadsWords (all_of (codes "name") given.1) names.items
    × ReadsUser (one_of (codes "user") given.1) user
HasDiskEntriesOf given (Rename image change user) =
    (given.0 ≡ codes "rename") × (first_of (codes "image") given.1 ≡ Some image.now)
    × (first_of (codes "change") given.1 ≡ Some change.now)
    × ReadsUser (one_of (codes "user") given.1) user

-- own: the number of the user, where the task has one, is from 0 to 15
abbrev pub HasUser : DiskTask → Type 0
HasUser (New image is_large) = ⊤
HasUser (Listing image user) = IfSome user (λ u. u < 16)
HasUser (Put image files user is_text is_read_only is_system) = user < 16
HasUser (Get image names user is_text to is_forced is_dry) = user < 16
HasUser (Remove image names user) = user < 16
HasUser (Rename image change user) = user < 16

-- ---- entries that make a task

-- own: the number of a user stands there
pub record IsUser (text : Option Text) : Type 0 where
  pub digits : Text
  pub given : text ≡ Some digits
  pub numeral : IsNumeral 10 (without_leading_plus digits)
  pub fits : digits_value 10 (without_leading_plus digits) ≤ 15

-- own: such a number stands there, or nothing
abbrev pub IsUserIfAny : Option Text → Type 0
IsUserIfAny text = (text ≡ None) ⊎ IsUser text

-- own: the entries of `new` are whole
pub record IsWholeNew (rows : List Row) : Type 0 where
  pub image : IsSome (first_of (codes "image") rows)
  pub large : IsFlag (one_of (codes "large") rows)

-- own: the entries of `list` are whole
pub record IsWholeListing (rows : List Row) : Type 0 where
  pub image : IsSome (first_of (codes "image") rows)
  pub user : IsUserIfAny (one_of (codes "user") rows)

-- own: the entries of `put` are whole
pub record IsWholePut (rows : List Row) : Type 0 where
  pub image : IsSome (first_of (codes "image") rows)
  pub files : IsSome (first_of (codes "file") rows)
  pub user : IsUser (one_of (codes "user") rows)
  pub text : IsFlag (one_of (codes "text") rows)
  pub read_only : IsFlag (one_of (codes "read-only") rows)
  pub system : IsFlag (one_of (codes "system") rows)

-- own: the entries of `get` are whole
pub record IsWholeGet (rows : List Row) : Type 0 where
  pub image : IsSome (first_of (codes "image") rows)
  pub names : IsSome (first_of (codes "name") rows)
  pub user : IsUser (one_of (codes "user") rows)
  pub text : IsFlag (one_of (codes "text") rows)
  pub force : IsFlag (one_of (codes "force") rows)
  pub dry : IsFlag (one_of (codes "dry-run") rows)

-- own: the entries of `remove` are whole
pub record IsWholeRemove (rows : List Row) : Type 0 where
  pub image : IsSome (first_of (codes "image") rows)
  pub names : IsSome (first_of (codes "name") rows)
  pub user : IsUser (one_of (codes "user") rows)

-- own: the entries of `rename` are whole
pub record IsWholeRename (rows : List Row) : Type 0 where
  pub image : IsSome (first_of (codes "image") rows)
  pub change : IsSome (first_of (codes "change") rows)
  pub user : IsUser (one_of (codes "user") rows)

-- own: the entries are whole as those of the command of this name
abbrev pub IsWholeDiskOf : Text × List Row → Type 0
IsWholeDiskOf p = ((p.0 ≡ codes "new") × IsWholeNew p.1) ⊎ ((p.0 ≡ codes "list") × IsWholeListing p.1)
    ⊎ ((p.0 ≡ codes "put") × IsWholePut p.1) ⊎ ((p.0 ≡ codes "get") × IsWholeGet p.1)
    ⊎ ((p.0 ≡ codes "remove") × IsWholeRemove p.1) ⊎ ((p.0 ≡ codes "rename") × IsWholeRename p.1)

-- own: the command is one of `disk`, and its entries are whole
abbrev pub IsWholeDisk : Option (Text × List Row) → Type 0
IsWholeDisk given = IsSomeAnd given IsWholeDiskOf
