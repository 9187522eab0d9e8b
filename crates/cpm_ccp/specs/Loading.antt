-- The loader of programs: CP/M 2.2 Operating System Manual, section 1.6, Transient Commands, and section 6.9, Reserved Locations in Page Zero.
use Rattle.std.specs.Prelude.{ℕ, ◌+◌, ◌==◌, nat_lt, List, [], ◌∷◌, ◌++◌, length, Result, Ok, Err, if◌then◌else◌}
use Rattle.cpm_geom.specs.Disk.{Disk}
use Rattle.cpm_volume.specs.declared.fcb.Fcb.{Fcb}
use Rattle.cpm_volume.specs.declared.answer.Fault.{Fault}
use Rattle.cpm_directory.specs.CommandLine.{fcb_named, text_behind_name}
use Rattle.cpm_memory.specs.Contents.{Contents, after_run}
use Rattle.cpm_memory.specs.Layout.{command_processor_address, default_buffer_address, default_fcbs_address, program_address, stack_address, word_bytes}
use Rattle.cpm_drives.specs.Files.{open_file, read_next}
use Rattle.cpm_bdos.specs.StepResult.{StepResult, did}
use Rattle.cpm_bdos.specs.Faults.{faulted}
use Rattle.cpm_bdos.specs.declared.session.Session.{Session}
use Rattle.cpm_bdos.specs.declared.session.CommandPart.TheVariants as part
use Rattle.cpm_bdos.specs.declared.session.Mode.{Mode}
use Rattle.cpm_bdos.specs.declared.session.Mode.TheVariants.{Program, Command}
use Rattle.cpm_bdos.specs.declared.session.Went.TheVariants.{Returned, GoesOn}
use Rattle.cpm_ccp.specs.declared.message.Message.TheVariants.{BadLoad}
use Rattle.cpm_ccp.specs.Words.{first_word, tail_of}
use Rattle.cpm_ccp.specs.Parts.{at_part, finished, says_below, message_told, typed_line, own_record, record_read, command_drive, failed, with_call}

-- own: a first word that no command has is shown as it is, with ?
abbrev pub unknown : Session → Session
unknown s = finished (says_below s (first_word (typed_line s) ++ (0x3F ∷ [])))

abbrev pub after_load_open : Result ℕ Fault → Session → Session
after_load_open (Err which) s = failed which s
after_load_open (Ok code) s = if code == 0xFF then unknown s else at_part s (part.Load program_address)

-- the program's file is opened: function 15
unfoldable pub load_begun : Disk → Fcb → Session → Session
load_begun system file s =
    let c = open_file s.disks system file own_record in after_load_open c.answer (with_call s c)

-- section 5: the first two names of the tail at 005Ch and 006Ch, each by 16 bytes of its file control block
unfoldable pub name_bytes : Fcb → List ℕ
name_bytes file = (file.drive ∷ file.extent.name) ++ (0 ∷ 0 ∷ 0 ∷ 0 ∷ [])

-- and the record that is read next
unfoldable pub default_files : List ℕ → List ℕ
default_files tail = name_bytes (fcb_named tail) ++ (name_bytes (fcb_named (text_behind_name tail)) ++ (0 ∷ []))

-- the tail with its length at 0080h; own: a 0 after it, and E406h at EBFEh, where a program returns to
unfoldable pub memory_started : List ℕ → Contents → Contents
memory_started tail m =
    after_run (after_run (after_run (after_run m default_fcbs_address (default_files tail)) default_buffer_address (length tail ∷ []))
    (default_buffer_address + 1) (tail ++ (0 ∷ []))) stack_address (word_bytes command_processor_address)

-- the program begins at 0100h, with SP at EBFEh; other registers are kept
abbrev pub started : Session → Contents → StepResult
started s m =
    did (record s { regs = record s.regs { sp = stack_address; pc = program_address }; buffer = default_buffer_address; mode = Program })
    (memory_started (tail_of (typed_line s)) m) Returned

-- own: a record is read before it is judged; one that would reach E400h ends the command
abbrev pub record_loaded : ℕ → List ℕ → Session → Contents → StepResult
record_loaded next bytes s m =
    if nat_lt 0xE380 next then did (message_told s BadLoad) m Returned
    else did (at_part s (part.Load (next + 128))) (after_run m next bytes) GoesOn

abbrev pub after_load_read : Result ℕ Fault → ℕ → List ℕ → Session → Contents → StepResult
after_load_read (Err which) next bytes s m = faulted s m which (command_drive s)
after_load_read (Ok code) next bytes s m = if code == 0 then record_loaded next bytes s m else started s m

-- function 20
unfoldable pub load_record : Disk → ℕ → Session → Contents → StepResult
load_record system next s m =
    let c = read_next s.disks system s.file own_record in after_load_read c.answer next (record_read c) (with_call s c) m

-- a step of the loader, where a program is loaded
abbrev pub load_in : Mode → Disk → Session → Contents → StepResult
load_in (Command (part.Load next)) system s m = load_record system next s m
load_in _ system s m = did s m GoesOn

abbrev pub load : Disk → Session → Contents → StepResult
load system s m = load_in s.mode system s m
