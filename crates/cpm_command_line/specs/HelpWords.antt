-- The pages of the help: which names ask for one, which a line has, and which words ask for the version.
use Rattle.std.specs.Prelude.{◌≡◌, ◌&&◌, ◌||◌, ◌++◌, if◌then◌else◌, Bool, false, chars, List, [], ◌∷◌, Option, Some, None}
use Rattle.std.specs.Prelude.{Result, MatchResult, codes, unwrap_or}
use Rattle.std.specs.Str.{bytes_eq}
use Rattle.clap.specs.Words.{Text}
use Rattle.cpm_shown.specs.Shown.{shown_of}
use Rattle.cpm_command_line.specs.declared.fault.UsageFault.{UsageFault}
use Rattle.cpm_command_line.specs.declared.fault.UsageFault.TheVariants as fault
use Rattle.cpm_command_line.specs.declared.fault.UsageRefusal.{UsageRefusal}
use Rattle.cpm_command_line.specs.declared.boot_page.TheConstants as boot_text
use Rattle.cpm_command_line.specs.declared.disk_pages.TheConstants as disk_text
use Rattle.cpm_command_line.specs.declared.pages.TheConstants as text
use Rattle.cpm_command_line.specs.declared.serve_page.TheConstants as serve_text
use Rattle.cpm_command_line.specs.declared.usage.Page.{Page}
use Rattle.cpm_command_line.specs.declared.usage.Page.TheVariants as page

-- own: the names of the commands but for `disk`, with their pages
abbrev pub command_pages : List (Text × Page)
command_pages =
    (codes "com", page.Com) ∷ (codes "boot", page.Boot) ∷ (codes "asm", page.Asm) ∷ (codes "list", page.List)
    ∷ (codes "check", page.Check) ∷ (codes "run", page.Run) ∷ (codes "debug", page.Debug) ∷ (codes "serve", page.Serve)
    ∷ (codes "saved", page.Saved) ∷ []

-- own: the names of the commands of `disk`, with their pages
abbrev pub disk_pages : List (Text × Page)
disk_pages =
    (codes "new", page.DiskNew) ∷ (codes "list", page.DiskList) ∷ (codes "put", page.DiskPut) ∷ (codes "get", page.DiskGet)
    ∷ (codes "remove", page.DiskRemove) ∷ (codes "rename", page.DiskRename) ∷ []

-- own: the page beside the word, where it stands there
abbrev pub page_in : List (Text × Page) → Text → Option Page
page_in [] word = None
page_in (row ∷ rows) word = if bytes_eq word row.0 then Some row.1 else page_in rows word

-- `-h` or `--help`
abbrev pub is_help_flag : Text → Bool
is_help_flag word = bytes_eq word (codes "-h") || bytes_eq word (codes "--help")

-- the first word is `help`
abbrev pub begins_with_help : List Text → Bool
begins_with_help [] = false
begins_with_help (word ∷ rest) = bytes_eq word (codes "help")

-- own: the names behind `help`, but for `disk`, with their pages
abbrev pub topic_pages : List (Text × Page)
topic_pages = (codes "help", page.Overview) ∷ (codes "status", page.Status) ∷ command_pages

-- own: what names behind `help` come to: a page; or a word that names no command, or that is one too many, with the
-- page of the names before it
pub data Naming : Type 0 where
  known_page : Page → Naming
  unknown_name : Text → Page → Naming
  extra_name : Text → Page → Naming

-- own: a flag for help asks for the page of the names before it
abbrev pub unless_flag : Text → Page → Naming → Naming
unless_flag word p naming = if is_help_flag word then known_page p else naming

-- own: no word follows the names, or a flag for help
abbrev pub ended_by : Page → List Text → Naming
ended_by p [] = known_page p
ended_by p (word ∷ rest) = unless_flag word p (extra_name word p)

-- own: a word names a page, and no further one follows
abbrev pub named_or_unknown : Option Page → Page → Text → List Text → Naming
named_or_unknown None above word rest = unless_flag word above (unknown_name word above)
named_or_unknown (Some p) above word rest = ended_by p rest

-- own: after `help disk` or `disk help`: the page of a command of `disk`, or of `disk` itself where no name follows
abbrev pub named_of_disk : List Text → Naming
named_of_disk [] = known_page page.Disk
named_of_disk (word ∷ rest) = named_or_unknown (page_in disk_pages word) page.Disk word rest

-- own: after `help`: the page of a command or of the statuses, or the overview where no name follows
abbrev pub named : List Text → Naming
named [] = known_page page.Overview
named (word ∷ rest) =
    if bytes_eq word (codes "disk") then named_of_disk rest
    else named_or_unknown (page_in topic_pages word) page.Overview word rest

-- own: behind the program's name: `help`, or `disk help`
abbrev pub is_help_line : List Text → Bool
is_help_line (name ∷ word ∷ rest) =
    bytes_eq word (codes "help") || (bytes_eq word (codes "disk") && begins_with_help rest)
is_help_line _ = false

-- own: behind `disk`: the names behind the word `help`
abbrev pub named_behind_disk : List Text → Naming
named_behind_disk [] = known_page page.Disk
named_behind_disk (word ∷ names) = named_of_disk names

-- own: what the names on such a line come to
abbrev pub named_by : List Text → Naming
named_by (name ∷ word ∷ rest) = if bytes_eq word (codes "help") then named rest else named_behind_disk rest
named_by _ = known_page page.Overview

-- own: the page that names ask for, where they are right
abbrev pub page_of_naming : Naming → Option Page
page_of_naming (known_page p) = Some p
page_of_naming _ = None

-- own: the word is said to name no command
abbrev pub SaysUnknown : Text → UsageFault → Type 0
SaysUnknown word (fault.UnknownCommand said) = said.bytes ≡ shown_of (chars word)
SaysUnknown word _ = ⊥

-- own: the word is said to be one too many
abbrev pub SaysExtra : Text → UsageFault → Type 0
SaysExtra word (fault.UnexpectedArgument said) = said.bytes ≡ shown_of (chars word)
SaysExtra word _ = ⊥

-- own: the refusal of names that ask for no page: it says which word is wrong, and points to the page of those before it
abbrev pub IsNamingRefusal : Naming → UsageRefusal → Type 0
IsNamingRefusal (known_page p) e = ⊥
IsNamingRefusal (unknown_name word p) e = SaysUnknown word e.fault × (e.page ≡ p)
IsNamingRefusal (extra_name word p) e = SaysExtra word e.fault × (e.page ≡ p)

-- own: the page that names ask for, or their refusal
abbrev pub IsNaming : Naming → Result Page UsageRefusal → Type 0
IsNaming naming r = MatchResult r (λ p. page_of_naming naming ≡ Some p) (IsNamingRefusal naming)

-- own: behind `disk`: the page of the command of it that is named, or else its own
abbrev pub page_of_disk_words : List Text → Page
page_of_disk_words [] = page.Disk
page_of_disk_words (word ∷ rest) = unwrap_or (page_in disk_pages word) page.Disk

-- own: the page of the command that the line names, or else the overview
abbrev pub page_of_line : List Text → Page
page_of_line (name ∷ word ∷ rest) =
    if bytes_eq word (codes "disk") then page_of_disk_words rest
    else unwrap_or (page_in command_pages word) page.Overview
page_of_line _ = page.Overview

-- own: the text of a page
abbrev pub text_of_page : Page → Text
text_of_page page.Overview = text.OVERVIEW_PAGE.now
text_of_page page.Com = text.COM_PAGE.now
text_of_page page.Boot = boot_text.BOOT_PAGE.now
text_of_page page.Asm = text.ASM_PAGE.now
text_of_page page.List = text.LIST_PAGE.now
text_of_page page.Check = text.CHECK_PAGE.now
text_of_page page.Run = text.RUN_PAGE.now
text_of_page page.Debug = text.DEBUG_PAGE.now
text_of_page page.Serve = serve_text.SERVE_PAGE.now
text_of_page page.Saved = text.SAVED_PAGE.now
text_of_page page.Disk = disk_text.DISK_PAGE.now
text_of_page page.DiskNew = disk_text.DISK_NEW_PAGE.now
text_of_page page.DiskList = disk_text.DISK_LIST_PAGE.now
text_of_page page.DiskPut = disk_text.DISK_PUT_PAGE.now
text_of_page page.DiskGet = disk_text.DISK_GET_PAGE.now
text_of_page page.DiskRemove = disk_text.DISK_REMOVE_PAGE.now
text_of_page page.DiskRename = disk_text.DISK_RENAME_PAGE.now
text_of_page page.Status = text.STATUS_PAGE.now

-- own: the words of a line that prints a page
abbrev pub line_of_page : Page → List Text
line_of_page page.Overview = codes "cpmhost" ∷ codes "--help" ∷ []
line_of_page page.Com = codes "cpmhost" ∷ codes "help" ∷ codes "com" ∷ []
line_of_page page.Boot = codes "cpmhost" ∷ codes "help" ∷ codes "boot" ∷ []
line_of_page page.Asm = codes "cpmhost" ∷ codes "help" ∷ codes "asm" ∷ []
line_of_page page.List = codes "cpmhost" ∷ codes "help" ∷ codes "list" ∷ []
line_of_page page.Check = codes "cpmhost" ∷ codes "help" ∷ codes "check" ∷ []
line_of_page page.Run = codes "cpmhost" ∷ codes "help" ∷ codes "run" ∷ []
line_of_page page.Debug = codes "cpmhost" ∷ codes "help" ∷ codes "debug" ∷ []
line_of_page page.Serve = codes "cpmhost" ∷ codes "help" ∷ codes "serve" ∷ []
line_of_page page.Saved = codes "cpmhost" ∷ codes "help" ∷ codes "saved" ∷ []
line_of_page page.Disk = codes "cpmhost" ∷ codes "help" ∷ codes "disk" ∷ []
line_of_page page.DiskNew = codes "cpmhost" ∷ codes "help" ∷ codes "disk" ∷ codes "new" ∷ []
line_of_page page.DiskList = codes "cpmhost" ∷ codes "help" ∷ codes "disk" ∷ codes "list" ∷ []
line_of_page page.DiskPut = codes "cpmhost" ∷ codes "help" ∷ codes "disk" ∷ codes "put" ∷ []
line_of_page page.DiskGet = codes "cpmhost" ∷ codes "help" ∷ codes "disk" ∷ codes "get" ∷ []
line_of_page page.DiskRemove = codes "cpmhost" ∷ codes "help" ∷ codes "disk" ∷ codes "remove" ∷ []
line_of_page page.DiskRename = codes "cpmhost" ∷ codes "help" ∷ codes "disk" ∷ codes "rename" ∷ []
line_of_page page.Status = codes "cpmhost" ∷ codes "help" ∷ codes "status" ∷ []

-- own: words with a blank (32) between each two
abbrev pub joined_by_spaces : List Text → Text
joined_by_spaces [] = []
joined_by_spaces (word ∷ []) = word
joined_by_spaces (word ∷ next ∷ rest) = word ++ 0x20 ∷ joined_by_spaces (next ∷ rest)

-- own: after the program's name stands one word, which asks for the version
abbrev pub asks_version : List Text → Bool
asks_version (name ∷ word ∷ []) = bytes_eq word (codes "--version") || bytes_eq word (codes "-V")
asks_version _ = false
