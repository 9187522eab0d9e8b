-- A whole command line: which command reads it, and the task that it names. The program's command has no
-- argument of its own, so a subcommand can only stand right after its name. `disk` has commands itself, and
-- clap's rules are written for one level of them: so what stands from `disk` on is a line of its own.
use Rattle.std.specs.Prelude.{⊤, ◌≡◌, Bool, true, false, if◌then◌else◌, IsSomeAnd, List, [], ◌∷◌, MatchResult, None, Option, Result, Some, codes, drop}
use Rattle.std.specs.Str.{bytes_eq}
use Rattle.clap.specs.Words.{App, Kinds, Text, fault_of, subcommand_of}
use Rattle.clap.specs.declared.error.kind.ErrorKind.TheVariants as kind
use Rattle.cpm_command_line.specs.CommandLine.{HasEntriesOf, host_app}
use Rattle.cpm_command_line.specs.DiskLine.{HasDiskEntriesOf, HasUser, disk_app}
use Rattle.cpm_command_line.specs.HelpWords.{is_help_line, named_by, page_of_line, page_of_naming}
use Rattle.cpm_command_line.specs.declared.fault.UsageError.{UsageError}
use Rattle.cpm_command_line.specs.declared.fault.UsageError.TheVariants.{OutOfMemory}
use Rattle.cpm_command_line.specs.declared.task.Task.{Task}
use Rattle.cpm_command_line.specs.declared.task.Task.TheVariants.{Disk, Help}
use Rattle.cpm_command_line.specs.declared.usage.Page.{Page}

-- own: the word after the program's name is `disk`
abbrev pub names_disk : List Text → Bool
names_disk (name ∷ word ∷ rest) = bytes_eq word (codes "disk")
names_disk _ = false

-- own: the command that reads the line: `disk` where it is named, and else the program's
abbrev pub app_of_line : List Text → App
app_of_line words = if names_disk words then disk_app else host_app

-- own: the words that it reads, of which the first is its own name
abbrev pub words_of_line : List Text → List Text
words_of_line words = if names_disk words then drop 1 words else words

-- the kinds of what is wrong first with the line by clap's rules, of which a question for help is one
abbrev pub fault_of_line : List Text → Kinds
fault_of_line words = fault_of (app_of_line words) (words_of_line words)

-- clap meets `-h` or `--help` before anything that is wrong: where a flag stands, and not as the value of an option or behind `--`
abbrev pub asks_by_flag : Kinds → Bool
asks_by_flag (kind.DisplayHelp ∷ []) = true
asks_by_flag _ = false

-- own: the page that the line asks for, behind `help` by its names, and else by a flag
abbrev pub asked_page : List Text → Option Page
asked_page words =
    if is_help_line words then page_of_naming (named_by words)
    else (if asks_by_flag (fault_of_line words) then Some (page_of_line words) else None)

-- own: the task has the subcommand and all entries that clap's rules give the line, or it is the page that the line asks for
abbrev pub IsTaskOf : List Text → Task → Type 0
IsTaskOf words (Help page) = asked_page words ≡ Some page
IsTaskOf words (Disk task) =
    (names_disk words ≡ true) × IsSomeAnd (subcommand_of disk_app (drop 1 words)) (λ given. HasDiskEntriesOf given task)
IsTaskOf words task =
    (names_disk words ≡ false) × IsSomeAnd (subcommand_of host_app words) (λ given. HasEntriesOf given task)

-- own: the task that the program's command gives words of its own, or the page where a flag asks for one
abbrev pub IsHostTask : Page → List Text → Task → Type 0
IsHostTask p words (Help page) = (asks_by_flag (fault_of host_app words) ≡ true) × (page ≡ p)
IsHostTask p words task =
    (fault_of host_app words ≡ []) × IsSomeAnd (subcommand_of host_app words) (λ given. HasEntriesOf given task)

-- own: the task that `disk` gives words of its own, or the page where a flag asks for one
abbrev pub IsDiskTask : Page → List Text → Task → Type 0
IsDiskTask p words (Help page) = (asks_by_flag (fault_of disk_app words) ≡ true) × (page ≡ p)
IsDiskTask p words (Disk task) =
    (fault_of disk_app words ≡ []) × IsSomeAnd (subcommand_of disk_app words) (λ given. HasDiskEntriesOf given task)
IsDiskTask p words task = ⊥

-- own: the page is printed, or memory was refused
abbrev pub IsPageOrMemory : Page → Result Task UsageError → Type 0
IsPageOrMemory p r = MatchResult r (λ t. t ≡ Help p) (λ e. e ≡ OutOfMemory)

-- own: nothing is wrong with the line by clap's rules, where the task is no page
abbrev pub IsFaultless : List Text → Task → Type 0
IsFaultless words (Help page) = ⊤
IsFaultless words task = (is_help_line words ≡ false) × (fault_of_line words ≡ [])

-- own: the number of a user, where the task has one, is from 0 to 15
abbrev pub HasUsers : Task → Type 0
HasUsers (Disk task) = HasUser task
HasUsers task = ⊤
