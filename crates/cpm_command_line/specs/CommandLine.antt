-- The program's subcommands, and the task that a subcommand's entries give.
use Rattle.std.specs.Prelude.{◌≡◌, ◌⊎◌, ◌||◌, [], ◌^◌, ◌<◌, Bool, IsSome, IsSomeAnd, ℕ, List, Option, Some, None, is_some, map, not, option_map, unwrap_or}
use Rattle.std.specs.Prelude.{true, false, codes}
use Rattle.std.specs.Borrow.{Bor}
use Rattle.std.specs.Str.Parse.{IsNumeral, digits_value, without_leading_plus}
use Rattle.clap.specs.Lexer.{usize_max}
use Rattle.clap.specs.Values.{bool_text}
use Rattle.clap.specs.Words.{App, Row, Rule, Text, all_of, app_of, first_of, new_app, new_rule, one_of, rule_of, with_rule, with_subcommand}
use Rattle.clap.specs.declared.builder.action.ArgAction.TheVariants.{Append, SetTrue}
use Rattle.clap.specs.declared.builder.arg.Arg.{Arg}
use Rattle.clap.specs.declared.builder.command.Command.{Command}
use Rattle.clap.specs.declared.builder.command.Command.TheViews.{out-Command}
use Rattle.clap.specs.declared.builder.value_parser.ValueParser.TheVariants as parser
use Rattle.cpm_flags.specs.declared.regs.Cpu.{Cpu}
use Rattle.cpm_flags.specs.declared.regs.Cpu.TheVariants.{I8080, Z80}
use Rattle.cpm_command_line.specs.declared.task.PlayTask.{PlayTask}
use Rattle.cpm_command_line.specs.declared.task.Task.{Task}
use Rattle.cpm_command_line.specs.declared.task.Task.TheVariants.{Asm, Boot, Check, Com, Debug, Disk, Help, List as Listing, Run, Saved, Serve}

-- a word that has to be there, with a name in usage
abbrev pub operand : List ℕ → Rule
operand id = record (new_rule id) { required = true; value_names = 1 }

-- own: a word that may be left out, with a name in usage
abbrev pub word_left_out : List ℕ → Rule
word_left_out id = record (new_rule id) { value_names = 1 }

-- own: any number of words, which may be left out, with a name in usage
abbrev pub words_left_out : List ℕ → Rule
words_left_out id =
    record (new_rule id) { range = Some (record { start_inclusive = 1; end_inclusive = usize_max }); value_names = 1 }

-- own: a flag `--name`
abbrev pub flag : List ℕ → Rule
flag name = record (new_rule name) { long = Some name; action = Some SetTrue }

-- own: an option `--name VALUE`, which may be left out
abbrev pub value_option : List ℕ → Rule
value_option name = record (new_rule name) { long = Some name; value_names = 1 }

-- own: an option `--name VALUE`, which may be left out, and given several times
abbrev pub repeated_option : List ℕ → Rule
repeated_option name = record (value_option name) { action = Some Append }

-- own: an option `--name N` with a number of `u64`, which may be left out
abbrev pub count_option : List ℕ → Rule
count_option name = record (value_option name) { parser = Some (parser.Unsigned 0 18446744073709551615) }

-- ---- the subcommands

-- own: `[--z80] [--steps N] [--keys SCRIPT]` after these: the processor, its steps and the keys
abbrev pub with_processor : App → App
with_processor a = with_rule (with_rule (with_rule a
    (flag (codes "z80"))) (count_option (codes "steps"))) (value_option (codes "keys"))

-- own: `[--out-disk IMAGE].. [--keyboard] [--record SCRIPT] [--progress] [--stop-idle] [--raw] [--quiet]` after these
abbrev pub with_playing : App → App
with_playing a = with_rule (with_rule (with_rule (with_rule (with_rule (with_rule (with_rule a
    (repeated_option (codes "out-disk"))) (flag (codes "keyboard"))) (value_option (codes "record")))
    (flag (codes "progress"))) (flag (codes "stop-idle"))) (flag (codes "raw"))) (flag (codes "quiet"))

-- own: `[--partial] [--status] [--replay RECORDING] [--pace N] [--system IMAGE] [--out-folder FOLDER].. [--list FILE] [--save FILE]
-- [--from FILE]` after these
abbrev pub with_ending : App → App
with_ending a = with_rule (with_rule (with_rule (with_rule (with_rule (with_rule (with_rule (with_rule (with_rule a
    (flag (codes "partial"))) (flag (codes "status"))) (value_option (codes "replay"))) (count_option (codes "pace")))
    (value_option (codes "system"))) (repeated_option (codes "out-folder"))) (value_option (codes "list")))
    (value_option (codes "save"))) (value_option (codes "from"))

-- own: `com [FILE [TAIL..]] [--z80] [--steps N] [--keys SCRIPT] [--disk IMAGE]..` and the options after these
abbrev pub com_app : App
com_app = with_ending (with_playing (with_rule (with_processor (with_rule (with_rule (new_app (codes "com"))
    (word_left_out (codes "file"))) (words_left_out (codes "tail")))) (repeated_option (codes "disk"))))

-- own: `boot [PLACE..] [--z80] [--steps N] [--keys SCRIPT]` and the options after these
abbrev pub boot_app : App
boot_app = with_ending (with_playing (with_processor (with_rule (new_app (codes "boot")) (words_left_out (codes "place")))))

-- own: `asm SOURCE OUT [--list FILE]`
abbrev pub asm_app : App
asm_app = with_rule (with_rule (with_rule (new_app (codes "asm"))
    (operand (codes "source"))) (operand (codes "out"))) (value_option (codes "list"))

-- `list FILE [--z80]`
abbrev pub list_app : App
list_app = with_rule (with_rule (new_app (codes "list")) (operand (codes "file"))) (flag (codes "z80"))

-- `check IMAGE`
abbrev pub check_app : App
check_app = with_rule (new_app (codes "check")) (operand (codes "image"))

-- own: `run CONFIG [--keyboard NAME] [--record SCRIPT] [--progress] [--stop-idle] [--record-all FOLDER] [--raw]
-- [--within FOLDER].. [--outputs-here] [--pace N] [--replay NAME=FILE].. [--checkpoint N]`
abbrev pub run_app : App
run_app = with_rule (with_rule (with_rule (with_rule (with_rule (with_rule
    (with_rule (with_rule (with_rule (with_rule (with_rule (with_rule (new_app (codes "run"))
    (operand (codes "config"))) (value_option (codes "keyboard"))) (value_option (codes "record"))) (flag (codes "progress")))
    (flag (codes "stop-idle"))) (value_option (codes "record-all"))) (flag (codes "raw"))) (repeated_option (codes "within")))
    (flag (codes "outputs-here"))) (count_option (codes "pace"))) (repeated_option (codes "replay")))
    (count_option (codes "checkpoint"))

-- own: `debug [FILE] [--z80] [--list FILE] [--from FILE] [--system IMAGE]`
abbrev pub debug_app : App
debug_app = with_rule (with_rule (with_rule (with_rule (with_rule (new_app (codes "debug"))
    (word_left_out (codes "file"))) (flag (codes "z80"))) (value_option (codes "list"))) (value_option (codes "from"))) (value_option (codes "system"))

-- own: `serve [--system IMAGE] [--frames N] [--folder FOLDER] [--journal FILE] [--resume FILE] [--compact]`
abbrev pub serve_app : App
serve_app = with_rule (with_rule (with_rule (with_rule (with_rule (with_rule (new_app (codes "serve"))
    (value_option (codes "system"))) (count_option (codes "frames"))) (value_option (codes "folder")))
    (value_option (codes "journal"))) (value_option (codes "resume"))) (flag (codes "compact"))

-- own: `saved FILE`
abbrev pub saved_app : App
saved_app = with_rule (new_app (codes "saved")) (operand (codes "file"))

-- a command without its subcommands: it wants one, and has no command `help` of clap's
abbrev pub top_app : List ℕ → App
top_app name = record (new_app name) {
  top = record (new_app name).top {
    subcommand_required = true;
    disable_help_subcommand = true;
  };
}

-- the program's command, but for `disk`, which has commands of its own
abbrev pub host_app : App
host_app = with_subcommand (with_subcommand (with_subcommand (with_subcommand (with_subcommand (with_subcommand (with_subcommand (with_subcommand
    (with_subcommand (top_app (codes "cpmhost")) com_app.top) boot_app.top) asm_app.top) list_app.top) check_app.top) run_app.top) debug_app.top)
    serve_app.top) saved_app.top

-- an argument of clap with this rule, which is the command's own
pub record IsArgumentOf (r : Rule) (a : Arg) : Type 0 where
  pub rule : rule_of a ≡ r
  pub own : a.global ≡ false

-- a command of clap with these rules, and no argument that its subcommands share
pub record IsCommandOf (a : App) (c : Command) : Type 0 where
  pub app : app_of c ≡ a
  pub globals : (out-Command c).has_globals ≡ false

-- ---- the task of a subcommand's entries

-- the text is a number of `u64` as `parse` reads it
pub record ReadsCount (text : Option Text) (n : ℕ) : Type 0 where
  pub digits : Text
  pub given : text ≡ Some digits
  pub numeral : IsNumeral 10 (without_leading_plus digits)
  pub value : n ≡ digits_value 10 (without_leading_plus digits)

-- own: the text is such a number, or both are left out
abbrev pub ReadsCountIfAny : Option Text → Option ℕ → Type 0
ReadsCountIfAny text None = text ≡ None
ReadsCountIfAny text (Some n) = ReadsCount text n

-- own: the texts are the words, of which there is none where they are left out
abbrev pub ReadsWordsIfAny : Option (List Text) → List (Bor Text) → Type 0
ReadsWordsIfAny texts words = unwrap_or texts [] ≡ map (λ w. w.now) words

-- what the entry of `--z80` has for each processor: the flag was given, or was not
abbrev pub flag_text : Cpu → Text
flag_text I8080 = codes "false"
flag_text Z80 = codes "true"

-- own: the task has what the entries that `com` and `boot` have in common give
abbrev pub HasPlayEntries : List Row → PlayTask → Type 0
HasPlayEntries rows task =
    (one_of (codes "z80") rows ≡ Some (flag_text task.cpu))
    × ReadsCountIfAny (one_of (codes "steps") rows) task.steps
    × (first_of (codes "keys") rows ≡ option_map (λ t. t.now) task.keys)
    × ReadsWordsIfAny (all_of (codes "out-disk") rows) task.outs.items
    × (first_of (codes "record") rows ≡ option_map (λ t. t.now) task.«record»)
    × (one_of (codes "progress") rows ≡ Some (bool_text task.has_progress))
    × (one_of (codes "stop-idle") rows ≡ Some (bool_text task.stops_idle))
    × (one_of (codes "raw") rows ≡ Some (bool_text task.is_raw))
    × (one_of (codes "quiet") rows ≡ Some (bool_text task.is_quiet))
    × (one_of (codes "partial") rows ≡ Some (bool_text task.is_partial))
    × (one_of (codes "status") rows ≡ Some (bool_text task.has_status))
    × (first_of (codes "replay") rows ≡ option_map (λ t. t.now) task.replay)
    × ReadsCountIfAny (one_of (codes "pace") rows) task.pace
    × (first_of (codes "system") rows ≡ option_map (λ t. t.now) task.system)
    × ReadsWordsIfAny (all_of (codes "out-folder") rows) task.out_folders.items
    × (first_of (codes "list") rows ≡ option_map (λ t. t.now) task.list)
    × (first_of (codes "save") rows ≡ option_map (λ t. t.now) task.save)
    × (first_of (codes "from") rows ≡ option_map (λ t. t.now) task.from)

-- own: the keys of `boot` are typed where `--keyboard` is given, and where neither `--keys` nor `--replay` is
pub record IsTyped (rows : List Row) (is_live : Bool) : Type 0 where
  pub asked : Bool
  pub given : one_of (codes "keyboard") rows ≡ Some (bool_text asked)
  pub live : is_live ≡ (asked || not (is_some (first_of (codes "keys") rows) || is_some (first_of (codes "replay") rows)))

-- the task has what the entries of the subcommand of this name give
abbrev pub HasEntriesOf : Text × List Row → Task → Type 0
HasEntriesOf given (Com task) =
    (given.0 ≡ codes "com") × (first_of (codes "file") given.1 ≡ option_map (λ t. t.now) task.file)
    × ReadsWordsIfAny (all_of (codes "tail") given.1) task.tail.items
    × ReadsWordsIfAny (all_of (codes "disk") given.1) task.drives.items
    × (one_of (codes "keyboard") given.1 ≡ Some (bool_text task.is_live))
    × HasPlayEntries given.1 task
HasEntriesOf given (Boot task) =
    (given.0 ≡ codes "boot") × (task.file ≡ None) × (task.tail.items ≡ [])
    × ReadsWordsIfAny (all_of (codes "place") given.1) task.drives.items
    × IsTyped given.1 task.is_live
    × HasPlayEntries given.1 task
HasEntriesOf given (Asm source out list) =
    (given.0 ≡ codes "asm") × (first_of (codes "source") given.1 ≡ Some source.now)
    × (first_of (codes "out") given.1 ≡ Some out.now)
    × (first_of (codes "list") given.1 ≡ option_map (λ t. t.now) list)
HasEntriesOf given (Listing file cpu) =
    (given.0 ≡ codes "list") × (first_of (codes "file") given.1 ≡ Some file.now)
    × (one_of (codes "z80") given.1 ≡ Some (flag_text cpu))
HasEntriesOf given (Check image) =
    (given.0 ≡ codes "check") × (first_of (codes "image") given.1 ≡ Some image.now)
HasEntriesOf given (Run task) =
    (given.0 ≡ codes "run") × (first_of (codes "config") given.1 ≡ Some task.config.now)
    × (first_of (codes "keyboard") given.1 ≡ option_map (λ t. t.now) task.keyboard)
    × (first_of (codes "record") given.1 ≡ option_map (λ t. t.now) task.«record»)
    × (one_of (codes "progress") given.1 ≡ Some (bool_text task.has_progress))
    × (one_of (codes "stop-idle") given.1 ≡ Some (bool_text task.stops_idle))
    × (first_of (codes "record-all") given.1 ≡ option_map (λ t. t.now) task.scripts)
    × (one_of (codes "raw") given.1 ≡ Some (bool_text task.is_raw))
    × ReadsWordsIfAny (all_of (codes "within") given.1) task.folders.items
    × (one_of (codes "outputs-here") given.1 ≡ Some (bool_text task.has_outputs_here))
    × ReadsCountIfAny (one_of (codes "pace") given.1) task.pace
    × ReadsWordsIfAny (all_of (codes "replay") given.1) task.replays.items
    × ReadsCountIfAny (one_of (codes "checkpoint") given.1) task.checkpoint
HasEntriesOf given (Debug task) =
    (given.0 ≡ codes "debug") × (first_of (codes "file") given.1 ≡ option_map (λ t. t.now) task.file)
    × (one_of (codes "z80") given.1 ≡ Some (flag_text task.cpu))
    × (first_of (codes "list") given.1 ≡ option_map (λ t. t.now) task.list)
    × (first_of (codes "from") given.1 ≡ option_map (λ t. t.now) task.from)
    × (first_of (codes "system") given.1 ≡ option_map (λ t. t.now) task.system)
HasEntriesOf given (Serve task) =
    (given.0 ≡ codes "serve") × (first_of (codes "system") given.1 ≡ option_map (λ t. t.now) task.system)
    × ReadsCountIfAny (one_of (codes "frames") given.1) task.frames
    × (first_of (codes "folder") given.1 ≡ option_map (λ t. t.now) task.folder)
    × (first_of (codes "journal") given.1 ≡ option_map (λ t. t.now) task.journal)
    × (first_of (codes "resume") given.1 ≡ option_map (λ t. t.now) task.resume)
    × (one_of (codes "compact") given.1 ≡ Some (bool_text task.is_compact))
HasEntriesOf given (Saved file) =
    (given.0 ≡ codes "saved") × (first_of (codes "file") given.1 ≡ Some file.now)
HasEntriesOf given (Disk task) = ⊥
HasEntriesOf given (Help page) = ⊥

-- ---- entries that make a task

-- the entry of a flag stands there, which picks a processor
pub record IsPick (text : Option Text) : Type 0 where
  pub cpu : Cpu
  pub given : text ≡ Some (flag_text cpu)

-- own: the entry of a flag stands there
pub record IsFlag (text : Option Text) : Type 0 where
  pub value : Bool
  pub given : text ≡ Some (bool_text value)

-- a number of `u64` stands there
pub record IsCount (text : Option Text) : Type 0 where
  pub digits : Text
  pub given : text ≡ Some digits
  pub numeral : IsNumeral 10 (without_leading_plus digits)
  pub fits : digits_value 10 (without_leading_plus digits) < 2 ^ 64

-- own: a number of `u64` stands there, or nothing
abbrev pub IsCountIfAny : Option Text → Type 0
IsCountIfAny text = (text ≡ None) ⊎ IsCount text

-- own: the entries of `com` or of `boot` are whole
pub record IsWholePlay (rows : List Row) : Type 0 where
  pub z80 : IsPick (one_of (codes "z80") rows)
  pub steps : IsCountIfAny (one_of (codes "steps") rows)
  pub keyboard : IsFlag (one_of (codes "keyboard") rows)
  pub progress : IsFlag (one_of (codes "progress") rows)
  pub idle : IsFlag (one_of (codes "stop-idle") rows)
  pub raw : IsFlag (one_of (codes "raw") rows)
  pub quiet : IsFlag (one_of (codes "quiet") rows)
  pub partial : IsFlag (one_of (codes "partial") rows)
  pub status : IsFlag (one_of (codes "status") rows)
  pub pace : IsCountIfAny (one_of (codes "pace") rows)

-- the entries of `asm` are whole
pub record IsWholeAsm (rows : List Row) : Type 0 where
  pub source : IsSome (first_of (codes "source") rows)
  pub out : IsSome (first_of (codes "out") rows)

-- the entries of `list` are whole
pub record IsWholeList (rows : List Row) : Type 0 where
  pub file : IsSome (first_of (codes "file") rows)
  pub z80 : IsPick (one_of (codes "z80") rows)

-- the entries of `check` are whole
pub record IsWholeCheck (rows : List Row) : Type 0 where
  pub image : IsSome (first_of (codes "image") rows)

-- the entries of `run` are whole
pub record IsWholeRun (rows : List Row) : Type 0 where
  pub config : IsSome (first_of (codes "config") rows)
  pub progress : IsFlag (one_of (codes "progress") rows)
  pub idle : IsFlag (one_of (codes "stop-idle") rows)
  pub raw : IsFlag (one_of (codes "raw") rows)
  pub here : IsFlag (one_of (codes "outputs-here") rows)
  pub pace : IsCountIfAny (one_of (codes "pace") rows)
  pub checkpoint : IsCountIfAny (one_of (codes "checkpoint") rows)

-- the entries of `debug` are whole
pub record IsWholeDebug (rows : List Row) : Type 0 where
  pub z80 : IsPick (one_of (codes "z80") rows)

-- own: the entries of `serve` are whole
pub record IsWholeServe (rows : List Row) : Type 0 where
  pub frames : IsCountIfAny (one_of (codes "frames") rows)
  pub compact : IsFlag (one_of (codes "compact") rows)

-- own: the entries of `saved` are whole
pub record IsWholeSaved (rows : List Row) : Type 0 where
  pub file : IsSome (first_of (codes "file") rows)

-- the entries are whole as those of the subcommand of this name
abbrev pub IsWholeOf : Text × List Row → Type 0
IsWholeOf p = ((p.0 ≡ codes "com") × IsWholePlay p.1) ⊎ ((p.0 ≡ codes "boot") × IsWholePlay p.1) ⊎ ((p.0 ≡ codes "asm") × IsWholeAsm p.1)
    ⊎ ((p.0 ≡ codes "list") × IsWholeList p.1) ⊎ ((p.0 ≡ codes "check") × IsWholeCheck p.1)
    ⊎ ((p.0 ≡ codes "run") × IsWholeRun p.1) ⊎ ((p.0 ≡ codes "debug") × IsWholeDebug p.1)
    ⊎ ((p.0 ≡ codes "serve") × IsWholeServe p.1) ⊎ ((p.0 ≡ codes "saved") × IsWholeSaved p.1)

-- the subcommand is one of the program's, and its entries are whole
abbrev pub IsWhole : Option (Text × List Row) → Type 0
IsWhole given = IsSomeAnd given IsWholeOf
