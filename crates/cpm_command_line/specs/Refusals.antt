-- Which refusal a command line gets.
use Rattle.std.specs.Prelude.{◌≡◌, ◌⊎◌, ⊤, Bool, true, false, IsSomeAnd, List, [], ◌∷◌, MatchResult, Result, Some}
use Rattle.clap.specs.Words.{App, IsAmong, Kinds, Text, fault_of}
use Rattle.clap.specs.declared.error.kind.ErrorKind.{ErrorKind}
use Rattle.clap.specs.declared.error.kind.ErrorKind.TheVariants as kind
use Rattle.cpm_command_line.specs.HelpWords.{IsNamingRefusal, Naming, is_help_line, named_by, page_of_line, page_of_naming}
use Rattle.cpm_command_line.specs.Line.{IsTaskOf, app_of_line, fault_of_line, names_disk, words_of_line}
use Rattle.cpm_command_line.specs.Options.{task_fault}
use Rattle.cpm_command_line.specs.declared.fault.UsageFault.{UsageFault}
use Rattle.cpm_command_line.specs.declared.fault.UsageFault.TheVariants as fault
use Rattle.cpm_command_line.specs.declared.fault.UsageError.{UsageError}
use Rattle.cpm_command_line.specs.declared.fault.UsageError.TheVariants.{Usage, OutOfMemory}
use Rattle.cpm_command_line.specs.declared.task.Task.{Task}
use Rattle.cpm_command_line.specs.declared.task.Task.TheVariants.{Help}
use Rattle.cpm_command_line.specs.declared.usage.Page.{Page}

-- the kinds of clap's error that a fault stands for: none where clap takes the words
abbrev pub kinds_of : UsageFault → Kinds
kinds_of fault.NoCommand =
    kind.MissingSubcommand ∷ kind.DisplayHelpOnMissingArgumentOrSubcommand ∷ []
kinds_of fault.NoDiskCommand =
    kind.MissingSubcommand ∷ kind.DisplayHelpOnMissingArgumentOrSubcommand ∷ []
kinds_of (fault.UnknownCommand word) = kind.InvalidSubcommand ∷ []
kinds_of (fault.UnexpectedArgument word) = kind.UnknownArgument ∷ []
kinds_of (fault.MissingArgument word) = kind.MissingRequiredArgument ∷ []
kinds_of (fault.MissingValue word) = kind.InvalidValue ∷ []
kinds_of (fault.NotANumber word) = kind.ValueValidation ∷ []
kinds_of (fault.NotAPace word) = kind.ValueValidation ∷ []
kinds_of (fault.NotACheckpoint word) = kind.ValueValidation ∷ []
kinds_of (fault.NotFrames word) = kind.ValueValidation ∷ []
kinds_of (fault.NotAUser word) = kind.ValueValidation ∷ []
kinds_of (fault.GivenTwice word) = kind.ArgumentConflict ∷ []
kinds_of fault.NoProgram = []
kinds_of fault.FromWithStart = []
kinds_of fault.FromWithPlace = []
kinds_of fault.FromWithProgram = []
kinds_of fault.SystemWithoutFrom = []
kinds_of fault.RecordAlone = []
kinds_of fault.RecordUntyped = []
kinds_of fault.TwoScripts = []
kinds_of fault.TooManyDisks = []
kinds_of fault.OutWithoutDisk = []
kinds_of fault.TooManyPlaces = []
kinds_of fault.OutWithoutDrive = []
kinds_of fault.FolderWithoutDisk = []
kinds_of fault.FolderWithoutDrive = []
kinds_of fault.PartialWithoutOut = []
kinds_of fault.ProgressAtKeyboard = []
kinds_of fault.ProgressAtPrompt = []
kinds_of fault.PaceZero = []
kinds_of fault.PaceUntyped = []
kinds_of fault.CheckpointZero = []
kinds_of fault.FramesOutside = []
kinds_of fault.TwoJournals = []
kinds_of fault.CompactWithoutResume = []
kinds_of (fault.Other word) =
    kind.NoEquals ∷ kind.TooManyValues ∷ kind.TooFewValues ∷ kind.WrongNumberOfValues
    ∷ kind.DisplayVersion ∷ kind.Io ∷ kind.Format ∷ []

-- own: the fault is one of a line that names `disk`, or of one that doesn't
abbrev pub IsOfLine : Bool → UsageFault → Type 0
IsOfLine is_disk fault.NoCommand = is_disk ≡ false
IsOfLine is_disk fault.NoDiskCommand = is_disk ≡ true
IsOfLine is_disk (fault.NotANumber word) = is_disk ≡ false
IsOfLine is_disk (fault.NotAPace word) = is_disk ≡ false
IsOfLine is_disk (fault.NotACheckpoint word) = is_disk ≡ false
IsOfLine is_disk (fault.NotFrames word) = is_disk ≡ false
IsOfLine is_disk (fault.NotAUser word) = is_disk ≡ true
IsOfLine is_disk f = ⊤

-- the refusal stands for an error of this kind and points to the page, or memory was refused while it was made
abbrev pub IsOfKind : Bool → Page → ErrorKind → UsageError → Type 0
IsOfKind is_disk p k (Usage r) = IsAmong k (kinds_of r.fault) × IsOfLine is_disk r.fault × (r.page ≡ p)
IsOfKind is_disk p k OutOfMemory = ⊤

-- what clap's error comes to: the page where it is a question for help, or else a refusal
abbrev pub IsAnswer : Bool → Page → ErrorKind → Result Task UsageError → Type 0
IsAnswer is_disk p k r = MatchResult r (λ t. (t ≡ Help p) × (k ≡ kind.DisplayHelp)) (λ e. IsOfKind is_disk p k e
    × (k ≡ kind.DisplayHelp → e ≡ OutOfMemory) × (k ≡ kind.OutOfMemory → e ≡ OutOfMemory))

-- the refusal is for what is wrong first with the words that the command reads, by clap's rules, and points to the page; or memory was refused
abbrev pub IsRefusalBy : Bool → Page → App → List Text → UsageError → Type 0
IsRefusalBy is_disk p app words (Usage r) =
    (k : ErrorKind) × IsAmong k (kinds_of r.fault) × IsOfLine is_disk r.fault × (r.page ≡ p) × IsAmong k (fault_of app words)
IsRefusalBy is_disk p app words OutOfMemory = ⊤

-- own: the refusal is for what is wrong first with the options of the task that the line names, and points to its page; or memory was refused
abbrev pub IsTaskRefusal : List Text → UsageError → Type 0
IsTaskRefusal words (Usage r) =
    (task : Task) × IsTaskOf words task × (task_fault task ≡ Some r.fault) × (r.page ≡ page_of_line words)
IsTaskRefusal words OutOfMemory = ⊤

-- own: the refusal is for the names behind `help`
abbrev pub IsNamesRefusal : Naming → UsageError → Type 0
IsNamesRefusal naming (Usage r) = IsNamingRefusal naming r
IsNamesRefusal naming OutOfMemory = ⊥

-- own: the page that names behind `help` ask for, or their refusal
abbrev pub IsHelpAnswer : Naming → Result Task UsageError → Type 0
IsHelpAnswer naming r =
    MatchResult r (λ t. IsSomeAnd (page_of_naming naming) (λ p. t ≡ Help p)) (IsNamesRefusal naming)

-- own: the refusal of a question behind `help`, or of another line
abbrev pub IsRefusalIn : Bool → List Text → UsageError → Type 0
IsRefusalIn true words e = IsNamesRefusal (named_by words) e
IsRefusalIn false words e = IsRefusalBy (names_disk words) (page_of_line words) (app_of_line words) (words_of_line words) e
    ⊎ ((fault_of_line words ≡ []) × IsTaskRefusal words e)

-- own: the refusal is for what is wrong first with the line: behind `help` with its names; and else by clap's rules, or where these find
-- nothing, with its options
abbrev pub IsRefusalOf : List Text → UsageError → Type 0
IsRefusalOf words e = IsRefusalIn (is_help_line words) words e
