-- A program, or the prompt of CP/M, that is played by its script or typed at: what it runs with, what it shows and leaves, and when it is refused.
-- All of it is own.
use Rattle.std.specs.Prelude.{⊤, ◌≡◌, ◌<◌, ◌≤◌, ◌⊎◌, ℕ, Bool, true, false, List, [], ◌∷◌, length, map, chars, option_map, Option, Some, None, Ok, Err, Vec}
use Rattle.std.specs.Io.KnownBytes.{Appends}
use Rattle.std.specs.declared.alloc.Global.{Global}
use Rattle.cpm_batch.specs.declared.error.ReadError.TheVariants as read
use Rattle.cpm_shown.specs.Shown.{shown_of}
use Rattle.cpm_drives.specs.Disks.{images_of}
use Rattle.cpm_flags.specs.declared.regs.Cpu.{Cpu}
use Rattle.cpm_geom.specs.Disk.{Disk, blank_disk}
use Rattle.cpm_geom.specs.declared.format.Format.TheVariants.{Ibm3740}
use Rattle.cpm_script.specs.Cues.{cues}
use Rattle.cpm_script.specs.Recording.{recorded, recording}
use Rattle.cpm_script.specs.Script.{script, most_keys}
use Rattle.cpm_script.specs.declared.cue.Cue.{Cue}
use Rattle.cpm_script.specs.declared.cue.Cue.TheVariants.{Key as Timed}
use Rattle.cpm_script.specs.declared.script.Key.{Key}
use Rattle.cpm_script.specs.declared.fault.ScriptError.{ScriptError}
use Rattle.cpm_script.specs.declared.fault.ScriptError.TheVariants.{Line}
use Rattle.cpm_script.specs.declared.fault.ScriptError.TheVariants as script_error
use Rattle.cpm_machine.specs.MachineState.{MachineState, opened_machine, opened_with, with_tail}
use Rattle.cpm_machine.specs.Opening.{most_program, opening_fault, program_fault}
use Rattle.cpm_machine.specs.Saving.{Saving}
use Rattle.cpm_machine.specs.Serve.{look_of}
use Rattle.cpm_machine.specs.declared.opening.OpenError.{OpenError}
use Rattle.cpm_machine.specs.declared.opening.OpenError.TheVariants.{BadDrives}
use Rattle.cpm_machine.specs.declared.opening.Opening.{Opening}
use Rattle.cpm_play.specs.Cued.{AreAscii, HasEndedCued, IsCued, IsCutOff, key_count}
use Rattle.cpm_play.specs.Live.{AreGiven}
use Rattle.cpm_play.specs.Playing.{alone_by, waits_at, state_left}
use Rattle.cpm_play.specs.Sitting.{IsPlayCut, IsTypedPlay, sitting}
use Rattle.cpm_play.specs.declared.cued.CuedKeys.{CuedKeys}
use Rattle.cpm_play.specs.declared.live.LiveError.{LiveError}
use Rattle.cpm_play.specs.declared.live.LivePlay.{LivePlay}
use Rattle.cpm_play.specs.declared.live.PlayEnd.{PlayEnd}
use Rattle.cpm_run.specs.Ending.{ending_of}
use Rattle.cpm_run.specs.Settled.{AreUntouched, Streams}
use Rattle.cpm_store.specs.Files.{StoreName}
use Rattle.cpm_run.specs.declared.error.RunError.TheVariants.{FileRefused}
use Rattle.cpm_host.specs.Refusals.{host_error_of_live}
use Rattle.cpm_batch.specs.Savings.{saving_view}
use Rattle.cpm_host.specs.Saved.{is_of_system, saved_if}
use Rattle.cpm_host.specs.declared.error.HostError.{HostError}
use Rattle.cpm_host.specs.declared.error.HostError.TheVariants.{OpeningRefused, OutOfMemory, ProgramTooLong, RunRefused, SavedElsewhere}
use Rattle.cpm_host.specs.declared.program.ProgramPlay.{ProgramPlay}
use Rattle.cpm_host.specs.declared.start.ProgramStart.{ProgramStart}
use Rattle.cpm_host.specs.declared.program.Source.{Source}
use Rattle.cpm_host.specs.declared.program.Source.TheVariants.{Cues, Typed}

-- ---- what a machine begins with

pub record ProgramInput : Type 0 where
  pub cpu : Cpu
  -- without one the machine begins at the prompt
  pub program : Option (List ℕ)
  -- the tail of its command, where one is left in the memory
  pub tail : Option (List ℕ)
  pub drives : List Disk
  pub system : Option Disk
  -- a saved machine, which goes on in place of one that begins
  pub saved : Option Saving

abbrev pub program_given : ProgramStart → ProgramInput
program_given start = record {
  cpu = start.cpu;
  program = option_map (λ p. p.items) start.program;
  tail = start.tail;
  drives = start.drives.items;
  system = start.system;
  saved = option_map (λ s. saving_view s.value) start.saved;
}

-- no byte where there is no program
abbrev pub program_bytes : Option (List ℕ) → List ℕ
program_bytes None = []
program_bytes (Some bytes) = bytes

abbrev pub program_length : ProgramInput → ℕ
program_length g = length (program_bytes g.program)

-- one blank drive where there is none
abbrev pub drives_or_blank : List Disk → List Disk
drives_or_blank [] = blank_disk Ibm3740 ∷ []
drives_or_blank (d ∷ ds) = d ∷ ds

-- a blank one where there is none
abbrev pub disk_or_blank : Option Disk → Disk
disk_or_blank None = blank_disk Ibm3740
disk_or_blank (Some d) = d

-- the system drive
abbrev pub system_disk : ProgramInput → Disk
system_disk g = disk_or_blank g.system

-- a tail is left as the command processor leaves it; without one the memory is as at an opening
abbrev pub with_tail_if_any : Option (List ℕ) → MachineState → MachineState
with_tail_if_any None s = s
with_tail_if_any (Some tail) s = with_tail tail s

-- a machine that may write all pages: it begins the program, or without one at the prompt, where no tail is left
abbrev pub machine_begun : Cpu → List Disk → (program tail : Option (List ℕ)) → MachineState
machine_begun cpu drives None tail = opened_machine cpu 256 drives
machine_begun cpu drives (Some program) tail = with_tail_if_any tail (opened_with cpu drives program)

-- the saved machine, if there is one
abbrev pub saved_or : Option Saving → MachineState → MachineState
saved_or None s = s
saved_or (Some x) s = x.state

-- the machine that begins so, or that goes on
abbrev pub machine_of : ProgramInput → MachineState
machine_of g = saved_or g.saved (machine_begun g.cpu (drives_or_blank g.drives) g.program g.tail)

-- a machine goes on over the system drive over which it was saved
abbrev pub goes_over : Disk → Option Saving → Bool
goes_over system None = true
goes_over system (Some x) = is_of_system x.system_digest system

-- what a machine takes
pub record IsProgramFit (g : ProgramInput) : Type 0 where
  pub short : program_length g ≤ most_program
  pub few : length g.drives ≤ 4
  pub over : goes_over (system_disk g) g.saved ≡ true

-- why none is made that begins a program, or at the prompt
abbrev pub begin_fault : Opening → Option (List ℕ) → Option OpenError
begin_fault o None = opening_fault o
begin_fault o (Some program) = program_fault o program

-- how the machine is refused: its program is too long, then there are too many drives, then it was saved over another system drive; or memory is refused
abbrev pub IsProgramRefusal : ProgramInput → HostError → Type 0
IsProgramRefusal g (ProgramTooLong count) = (most_program < program_length g) × (count ≡ program_length g)
IsProgramRefusal g (OpeningRefused fault) = (program_length g ≤ most_program) × (4 < length g.drives) × (fault ≡ BadDrives)
IsProgramRefusal g SavedElsewhere = (program_length g ≤ most_program) × (length g.drives ≤ 4) × (goes_over (system_disk g) g.saved ≡ false)
IsProgramRefusal g OutOfMemory = (program_length g ≤ most_program) × (length g.drives ≤ 4)
IsProgramRefusal g _ = ⊥

-- ---- its script

-- a machine takes the keys of a script
pub record AreFit (cues : List Cue) : Type 0 where
  pub ascii : AreAscii cues

-- what is told of a script that is refused, in the file of this name
abbrev pub IsScriptTold : StoreName → ScriptError → HostError → Type 0
IsScriptTold name (Line number fault) (RunRefused (FileRefused (read.Script shown line told))) =
    (shown.bytes ≡ shown_of (chars name)) × (line ≡ number) × (told ≡ fault)
IsScriptTold name (Line number fault) _ = ⊥
IsScriptTold name script_error.OutOfMemory e = e ≡ OutOfMemory

-- how a script is refused: for its first line with a fault, with the name of its file as it is shown
abbrev pub IsCueRefusal : StoreName → (text : List ℕ) → HostError → Type 0
IsCueRefusal name text (RunRefused (FileRefused (read.Script shown line fault))) =
    (shown.bytes ≡ shown_of (chars name)) × (cues text ≡ Err (line, fault))
IsCueRefusal name text OutOfMemory = ⊤
IsCueRefusal name text _ = ⊥

-- a recording has these keys, each at its count
abbrev pub AreRecorded : (text : List ℕ) → List Cue → Type 0
AreRecorded text said = (keys : List Key) × (recording text ≡ Ok keys) × (said ≡ map Timed keys)

-- how one is refused: for its first line with a fault, with the name of its file as it is shown
abbrev pub IsRecordingRefusal : StoreName → (text : List ℕ) → HostError → Type 0
IsRecordingRefusal name text (RunRefused (FileRefused (read.Script shown line fault))) =
    (shown.bytes ≡ shown_of (chars name)) × (recording text ≡ Err (line, fault))
IsRecordingRefusal name text OutOfMemory = ⊤
IsRecordingRefusal name text _ = ⊥

-- ---- what it shows and leaves

-- the console bytes of a machine from which none was taken
abbrev pub console_text : MachineState → List ℕ
console_text s = s.session.console.screen

-- the list bytes of one from which none was taken
abbrev pub printer_text : MachineState → List ℕ
printer_text s = s.session.console.printer

-- what a machine came to that was played so, and its bytes, if it is saved
abbrev pub play_of : MachineState → LivePlay → Option PlayEnd → Option (Vec ℕ Global) → ProgramPlay
play_of s live end saved = record {
  ending = ending_of s;
  drives = images_of s.session.disks;
  keys = live.keys;
  steps = live.steps;
  waits = (look_of s).waiting;
  end = end;
  saved = saved;
}

-- the machine that was left is saved with the digest of the system drive, if that is asked for
pub record HasSaved (is_saved : Bool) (system : Disk) (start : MachineState) (t : ProgramPlay) : Type 0 where
  pub bytes : option_map (λ v. v.items) t.saved ≡ saved_if is_saved system (state_left system t.keys.items t.steps start)

-- it was played, and memory was refused for its bytes
pub record IsUnsaved (is_saved : Bool) (played : ProgramPlay → Type 0) (e : HostError) : Type 0 where
  pub play : ProgramPlay
  pub is_played : played play
  pub asked : is_saved ≡ true
  pub told : e ≡ OutOfMemory

-- the lines of keys are a recording of just these, and a script of them where it can have so many
pub record GivesKeysAgain (keys : List Key) : Type 0 where
  pub recording : recording (recorded keys) ≡ Ok keys
  pub script : length keys ≤ most_keys → script (recorded keys) ≡ Ok keys

-- A machine was played by a script that may wait: the keys that came are those that the script gives to the machine run alone; what it left is that of the
-- machine run alone by these keys, for so many steps; it ended as a script has it end; and their lines are a recording that gives them again.
pub record IsRehearsed (system : Disk) (start : MachineState) (steps : ℕ) (c : CuedKeys) (t : ProgramPlay) : Type 0 where
  pub within : t.steps ≤ steps
  pub keys : IsCued system start steps c.waits_from c.cues.now t.keys.items
  pub given : AreGiven (key_count c.cues.now) t.steps t.keys.items
  pub ending : t.ending ≡ ending_of (alone_by system t.keys.items t.steps start)
  pub drives : t.drives ≡ images_of (alone_by system t.keys.items t.steps start).session.disks
  pub ends : HasEndedCued system start steps c.waits_from c.stops_idle t.keys.items t.steps (alone_by system t.keys.items t.steps start)
  pub waits : t.waits ≡ waits_at system start t.keys.items t.steps
  pub untyped : t.end ≡ None
  pub replays : GivesKeysAgain t.keys.items

-- and what it showed went to a console, what it printed to a list device, and its keys as lines to a record; nobody was heard
pub record IsPlayedCued (system : Disk) (start : MachineState) (steps : ℕ) (c : CuedKeys) (t : ProgramPlay) (io : Streams) : Type 0 where
  pub rehearsed : IsRehearsed system start steps c t
  pub text : Appends io.before.console io.written.console (console_text (alone_by system t.keys.items t.steps start))
  pub list : Appends io.before.list io.written.list (printer_text (alone_by system t.keys.items t.steps start))
  pub lines : Appends io.unrecorded io.record_now (recorded t.keys.items)
  pub unread : io.left ≡ io.unread

-- A machine was played by a script, or by as much of it as came before who types broke in, and then by keys as they were typed: what it showed, printed and
-- left is that of the machine run alone by these keys, each at the count at which it was accepted, for so many steps; the record got just these keys as lines,
-- and these are a recording that gives them again; and why it ended is said.
pub record IsPlayedLive (system : Disk) (start : MachineState) (steps : ℕ) (cues : List Cue) (t : ProgramPlay) (io : Streams) : Type 0 where
  pub within : t.steps ≤ steps
  pub given : AreGiven (length t.keys.items) t.steps t.keys.items
  pub end : PlayEnd
  pub told : t.end ≡ Some end
  pub played : IsTypedPlay (sitting io.unread.is_patient system start steps cues) io.unread io.left t.keys.items t.steps end
  pub text : Appends io.before.console io.written.console (console_text (alone_by system t.keys.items t.steps start))
  pub list : Appends io.before.list io.written.list (printer_text (alone_by system t.keys.items t.steps start))
  pub ending : t.ending ≡ ending_of (alone_by system t.keys.items t.steps start)
  pub drives : t.drives ≡ images_of (alone_by system t.keys.items t.steps start).session.disks
  pub waits : t.waits ≡ waits_at system start t.keys.items t.steps
  pub lines : Appends io.unrecorded io.record_now (recorded t.keys.items)
  pub replays : GivesKeysAgain t.keys.items

-- ---- where its keys come from

-- a machine takes the keys of its script, if it has one
abbrev pub IsFitSource : Source → Type 0
IsFitSource (Cues c) = AreFit c.cues.now
IsFitSource (Typed cues) = AreFit cues.now

-- it was played so
abbrev pub IsPlayedBy : Source → Disk → MachineState → (steps : ℕ) → ProgramPlay → Streams → Type 0
IsPlayedBy (Cues c) system start steps t io = IsPlayedCued system start steps c t io
IsPlayedBy (Typed cues) system start steps t io = IsPlayedLive system start steps cues.now t io

-- ---- when it is refused

-- it was not played to its end by a script, and this is told of it; nobody was heard
pub record IsCutCued (system : Disk) (start : MachineState) (steps : ℕ) (c : CuedKeys) (io : Streams) (e : HostError) : Type 0 where
  pub error : LiveError
  pub told : e ≡ host_error_of_live error
  pub now : MachineState
  pub short : IsCutOff system steps c.waits_from c.cues.now start now io.before io.written io.unrecorded io.record_now error
  pub unread : io.left ≡ io.unread

-- nor by a script and then by keys that were typed
pub record IsLiveCut (system : Disk) (start : MachineState) (steps : ℕ) (cues : List Cue) (io : Streams) (e : HostError) : Type 0 where
  pub error : LiveError
  pub told : e ≡ host_error_of_live error
  pub now : MachineState
  pub short : IsPlayCut (sitting io.unread.is_patient system start steps cues) now io.before io.written io.unrecorded io.record_now io.unread io.left error

abbrev pub IsCutBy : Source → Disk → MachineState → (steps : ℕ) → Streams → HostError → Type 0
IsCutBy (Cues c) system start steps io e = IsCutCued system start steps c io e
IsCutBy (Typed cues) system start steps io e = IsLiveCut system start steps cues.now io e

-- nobody was heard, and nothing was written, and its machine is refused, or memory for the system drive
pub record IsRefusedUnplayed (g : ProgramInput) (io : Streams) (e : HostError) : Type 0 where
  pub refused : IsProgramRefusal g e
  pub untouched : AreUntouched io

-- or a machine takes it, and it was cut short
pub record IsRefusedInPlay (source : Source) (g : ProgramInput) (steps : ℕ) (io : Streams) (e : HostError) : Type 0 where
  pub fit : IsProgramFit g
  pub cut : IsCutBy source (system_disk g) (machine_of g) steps io e

-- or it was played, and can't be saved
pub record IsRefusedPlayed (is_saved : Bool) (source : Source) (g : ProgramInput) (steps : ℕ) (io : Streams) (e : HostError) : Type 0 where
  pub fit : IsProgramFit g
  pub unsaved : IsUnsaved is_saved (λ t. IsPlayedBy source (system_disk g) (machine_of g) steps t io) e

abbrev pub IsProgramPlayRefusal : (is_saved : Bool) → Source → ProgramInput → (steps : ℕ) → Streams → HostError → Type 0
IsProgramPlayRefusal is_saved source g steps io e =
    IsRefusedUnplayed g io e ⊎ IsRefusedInPlay source g steps io e ⊎ IsRefusedPlayed is_saved source g steps io e
