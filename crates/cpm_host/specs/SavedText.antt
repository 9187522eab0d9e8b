-- What a saved machine is, as text. All of it is own.
use Rattle.std.specs.Prelude.{⊤, ◌≡◌, ◌++◌, ◌∷◌, [], ℕ, Bool, true, false, ◌==◌, if◌then◌else◌, List, length, Option, Some, None, Err, codes, decimal}
use Rattle.std.specs.Io.KnownBytes.{Appends}
use Rattle.std.specs.List.{concat}
use Rattle.hex.specs.Hex.{encode_lower}
use Rattle.cpm_bdos.specs.Function.{function_of}
use Rattle.cpm_bdos.specs.declared.function.Function.{Function}
use Rattle.cpm_bdos.specs.declared.function.Function.TheVariants.{ReadKey, ReadLine}
use Rattle.cpm_bdos.specs.declared.session.CommandPart.{CommandPart}
use Rattle.cpm_bdos.specs.declared.session.CommandPart.TheVariants as part
use Rattle.cpm_bdos.specs.declared.session.Mode.{Mode}
use Rattle.cpm_bdos.specs.declared.session.Mode.TheVariants.{Program, Text, Line, Hold, Fault, Command}
use Rattle.cpm_bdos.specs.declared.session.Session.{Session}
use Rattle.cpm_directory.specs.Directory.{entries_of}
use Rattle.cpm_directory.specs.WellFormed.{IsChecked}
use Rattle.cpm_directory.specs.declared.fault.DriveFault.{DriveFault}
use Rattle.cpm_disk_commands.specs.Listing.{list_text}
use Rattle.cpm_drives.specs.Disks.{images_of}
use Rattle.cpm_flags.specs.declared.regs.Cpu.{Cpu}
use Rattle.cpm_flags.specs.declared.regs.Cpu.TheVariants.{I8080, Z80}
use Rattle.cpm_flags.specs.declared.regs.Regs.{Regs}
use Rattle.cpm_geom.specs.Disk.{Disk}
use Rattle.cpm_geom.specs.Geometry.{dpb_of}
use Rattle.cpm_image_files.specs.Listing.{IsListed}
use Rattle.cpm_image_files.specs.declared.listing.DiskListing.{DiskListing}
use Rattle.cpm_listing.specs.Registers.{regs_line}
use Rattle.cpm_machine.specs.MachineState.{MachineState}
use Rattle.cpm_machine.specs.Saving.{Saving}
use Rattle.cpm_machine.specs.Serve.{look_of}
use Rattle.cpm_machine.specs.Step.{is_running}
use Rattle.cpm_memory.specs.Contents.{touched_of}
use Rattle.cpm_memory.specs.Layout.{bdos_address, console_input_address}
use Rattle.cpm_run.specs.Ending.{end_word}
use Rattle.cpm_host.specs.declared.error.HostError.{HostError}
use Rattle.cpm_host.specs.declared.error.HostError.TheVariants.{OutOfMemory, OutputUnwritable}

-- the name of a processor
abbrev pub processor_word : Cpu → List ℕ
processor_word I8080 = codes "8080"
processor_word Z80 = codes "Z80"

abbrev pub program_words : Bool → List ℕ
program_words true = codes ", with a program"
program_words false = []

abbrev pub waiting_words : Bool → List ℕ
waiting_words true = codes ", waits for a key"
waiting_words false = []

-- the first lines: the version of the format; its processor, whether it began with a program, how it ended, and whether it waits for a key; its registers and
-- its count; how many pages it has written, and may write; the digest of its system drive
abbrev pub head_text : Saving → List ℕ
head_text x =
    codes "format 1\n" ++ processor_word x.state.cpu ++ program_words x.state.with_program ++ codes ", " ++ end_word x.state.ended
    ++ waiting_words (look_of x.state).waiting ++ codes "\n"
    ++ regs_line x.state.cpu x.state.session.regs x.state.count ++ codes "\n"
    ++ decimal (touched_of x.state.memory) ++ codes " of " ++ decimal x.state.quota ++ codes " pages are written\n"
    ++ codes "system drive " ++ encode_lower x.system_digest ++ codes "\n"

-- what the first step of a call of the BDOS does
abbrev pub call_words : Function → List ℕ
call_words ReadKey = codes "reads a key"
call_words ReadLine = codes "begins to read a line"
call_words _ = codes "is a call of the BDOS"

-- what the next step does in a program, by the place where it is: a call of the BDOS (EC06h), CONIN (FB03h), or else
abbrev pub program_step_words : Regs → List ℕ
program_step_words r =
    if r.pc == bdos_address then call_words (function_of r.c)
    else if r.pc == console_input_address then codes "reads a key" else codes "is at PC"

-- what a part of the command processor does
abbrev pub part_words : CommandPart → List ℕ
part_words part.Line = codes "reads a key of the line after the prompt"
part_words part.Begin = codes "begins the command on the line"
part_words (part.Directory next column) = codes "lists a directory"
part_words part.Answer = codes "reads a key of the answer whether all files are erased"
part_words part.EraseAll = codes "erases all files, if the answer is yes"
part_words (part.Save next left) = codes "saves a record"
part_words part.Close = codes "closes the saved file"
part_words part.Show = codes "shows a record of a file"
part_words (part.Load next) = codes "loads a record of a program"

-- what the next step of a session does, by its mode
abbrev pub step_words : Mode → Regs → List ℕ
step_words Program r = program_step_words r
step_words (Text next) r = codes "shows a character of a text"
step_words Line r = codes "reads a key of a line"
step_words (Hold held) r = codes "reads the key that ends a hold of output"
step_words Fault r = codes "reads the key behind the message of a fault"
step_words (Command part) r = part_words part

-- the line that tells it of a machine that runs; one that has ended makes no step more
abbrev pub step_line : (runs : Bool) → Session → List ℕ
step_line true s = codes "the next step " ++ (step_words s.mode s.regs ++ codes "\n")
step_line false s = []

-- how many keys are pending, and how many bytes of the console and of the list device were not taken
abbrev pub pending_line : (keys screen printer : ℕ) → List ℕ
pending_line keys screen printer =
    codes "pending: " ++ (decimal keys ++ (codes " keys, " ++ (decimal screen ++ (codes " console bytes, " ++ (decimal printer ++ codes " list bytes\n")))))

abbrev pub pending_text : MachineState → List ℕ
pending_text s = pending_line (length s.session.console.keys) (length s.session.console.screen) (length s.session.console.printer)

-- what it is but for its drives: the first lines, what its next step does, and what is pending
abbrev pub machine_text : Saving → List ℕ
machine_text x = head_text x ++ step_line (is_running x.state.ended) x.state.session ++ pending_text x.state

-- the line of a drive, with how many bytes its image has
abbrev pub drive_line : (letter : List ℕ) → Disk → List ℕ
drive_line letter disk = letter ++ codes ": " ++ decimal (length (concat disk.sectors)) ++ codes " bytes\n"

-- a drive: its line, and the list of its files; or that its directory is damaged
pub data IsDriveTold (letter : List ℕ) (disk : Disk) (text : List ℕ) : Type 0 where
  Listed : (listing : DiskListing) → IsListed disk listing → text ≡ drive_line letter disk ++ list_text disk.format None listing → IsDriveTold letter disk text
  Unlisted : (fault : DriveFault) → IsChecked (dpb_of disk.format) (entries_of disk) (Err fault)
      → text ≡ drive_line letter disk ++ codes "its directory is damaged\n" → IsDriveTold letter disk text

-- nothing where there is none
abbrev pub IsDriveToldIfAny : (letter : List ℕ) → Option Disk → (text : List ℕ) → Type 0
IsDriveToldIfAny letter None text = text ≡ []
IsDriveToldIfAny letter (Some disk) text = IsDriveTold letter disk text

-- the drives of these letters, one after another, as far as there are any
abbrev pub AreDrivesToldFrom : (letters : List (List ℕ)) → List (Option Disk) → (text : List ℕ) → Type 0
AreDrivesToldFrom [] drives text = text ≡ []
AreDrivesToldFrom (letter ∷ letters) [] text = text ≡ []
AreDrivesToldFrom (letter ∷ letters) (drive ∷ drives) text =
    (first : List ℕ) × (rest : List ℕ) × (text ≡ first ++ rest) × IsDriveToldIfAny letter drive first × AreDrivesToldFrom letters drives rest

abbrev pub AreDrivesTold : List (Option Disk) → (text : List ℕ) → Type 0
AreDrivesTold drives text = AreDrivesToldFrom (codes "A" ∷ codes "B" ∷ codes "C" ∷ codes "D" ∷ []) drives text

-- all of it
abbrev pub IsSavedTold : Saving → (text : List ℕ) → Type 0
IsSavedTold x text = (rest : List ℕ) × (text ≡ machine_text x ++ rest) × AreDrivesTold (images_of x.state.session.disks) rest

-- a writer got such a text
abbrev pub HasAppended : (before after : Option (List ℕ)) → (List ℕ → Type 0) → Type 0
HasAppended before after IsSuch = (text : List ℕ) × Appends before after text × IsSuch text

-- it can't be written
abbrev pub IsOutputRefused : HostError → Type 0
IsOutputRefused (OutputUnwritable reason) = ⊤
IsOutputRefused _ = ⊥

-- all of it can't be written; or memory was refused, and nothing is
abbrev pub IsUntold : {W : Type 0} → (before after : W) → HostError → Type 0
IsUntold before after OutOfMemory = after ≡ before
IsUntold before after e = IsOutputRefused e
