-- What the command `debug` does. All of it is own.
use Rattle.std.specs.Prelude.{◌≡◌, ◌⊎◌, ℕ, List, [], Option, Some, None, Ok, option_map, true}
use Rattle.cpm_command_line.specs.declared.fault.UsageFault.TheVariants.{NoProgram}
use Rattle.cpm_command_line.specs.declared.task.DebugTask.{DebugTask}
use Rattle.cpm_command_line.specs.declared.usage.Page.TheVariants as page
use Rattle.cpm_debug.specs.Debug.{IsDebugRefusal, IsFailure, IsHeld, debug_system_drive, debugged}
use Rattle.cpm_debug.specs.declared.error.DebugError.{DebugError}
use Rattle.cpm_flags.specs.declared.regs.Cpu.{Cpu}
use Rattle.cpm_flags.specs.declared.regs.Cpu.TheVariants.{I8080}
use Rattle.cpm_geom.specs.Disk.{Disk}
use Rattle.cpm_host.specs.Program.{IsProgramRefusal, ProgramInput, disk_or_blank}
use Rattle.cpm_host.specs.Refusals.{host_error_of_debug}
use Rattle.cpm_host.specs.Saved.{IsSavingRefusal, is_of_system}
use Rattle.cpm_host.specs.declared.error.HostError.{HostError}
use Rattle.cpm_host.specs.declared.error.HostError.TheVariants.{Usage}
use Rattle.cpm_machine.specs.Saving.{Saving, restored}
use Rattle.cpm_store.specs.Files.{StoreName}
use Rattle.cpm_store.specs.Log.{StoreAccess, Gave, Missed}
use Rattle.cpm_commands.specs.Files.{IsUnread}
use Rattle.cpm_commands.specs.Play.{IsSystemRead, IsSystemUnread}

-- the file of a listing gave this text, if one is named; else nothing is read, and there is none
abbrev pub IsListingRead : {F : Type 0} → (F → StoreAccess → F → Type 0) → Option StoreName → F → F → List ℕ → Type 0
IsListingRead {F} does None old new listing = (listing ≡ []) × (new ≡ old)
IsListingRead {F} does (Some name) old new listing = does old (Gave name listing) new

abbrev pub IsListingUnread : {F : Type 0} → (F → StoreAccess → F → Type 0) → Option StoreName → F → F → HostError → Type 0
IsListingUnread {F} does None old new e = ⊥
IsListingUnread {F} does (Some name) old new e = IsUnread name e × does old (Missed name) new

-- the file gave a program, and the other one a listing if it is named
pub record IsDebugRead {F : Type 0} (does : F → StoreAccess → F → Type 0) (file : StoreName) (list : Option StoreName) (old new : F)
    (program listing : List ℕ) : Type 0 where
  pub between : F
  pub read : does old (Gave file program) between
  pub listed : IsListingRead does list between new listing

-- with these the lines of the input were heard, and answered
pub record HasDebugged {F : Type 0} (does : F → StoreAccess → F → Type 0) (file : StoreName) (cpu : Cpu) (list : Option StoreName) (old new : F)
    (unread before printed : Option (List ℕ)) : Type 0 where
  pub program : List ℕ
  pub listing : List ℕ
  pub read : IsDebugRead does file list old new program listing
  pub dialog : IsHeld debug_system_drive cpu listing (debugged cpu program) unread before printed

-- with these the dialog was refused
pub record IsDialogRefused {F W : Type 0} (does : F → StoreAccess → F → Type 0) (file : StoreName) (cpu : Cpu) (list : Option StoreName) (old new : F)
    (unread before printed : Option (List ℕ)) (out out_now : W) (e : HostError) : Type 0 where
  pub program : List ℕ
  pub listing : List ℕ
  pub read : IsDebugRead does file list old new program listing
  pub error : DebugError
  pub told : e ≡ host_error_of_debug error
  pub why : IsDebugRefusal cpu listing program unread before printed out out_now error

-- the program can't be read; or it gave one, but not its listing; and nothing is printed then. Or the dialog was refused
abbrev pub IsDebugRefused : {F W : Type 0} → (F → StoreAccess → F → Type 0) → StoreName → Cpu → Option StoreName → F → F
    → (unread before printed : Option (List ℕ)) → W → W → HostError → Type 0
IsDebugRefused {F} {W} does file cpu list old new unread before printed out out_now e =
    (IsUnread file e × does old (Missed file) new × (out_now ≡ out))
    ⊎ ((program : List ℕ) × (between : F) × does old (Gave file program) between × IsListingUnread does list between new e × (out_now ≡ out))
    ⊎ IsDialogRefused does file cpu list old new unread before printed out out_now e

-- ---- a machine that was saved

-- it goes on over this system drive, or a blank one
abbrev pub going_on : Saving → Option Disk → ProgramInput
going_on saving system = record { cpu = I8080; program = None; tail = None; drives = []; system = system; saved = Some saving }

-- the file gave a saved machine
pub record IsSavingGiven {F : Type 0} (does : F → StoreAccess → F → Type 0) (file : StoreName) (old new : F) (saving : Saving) : Type 0 where
  pub bytes : List ℕ
  pub read : does old (Gave file bytes) new
  pub restores : restored bytes ≡ Ok saving

-- the file gave a saved machine, then another one a system drive if it is named, and then another one a listing if it is named
pub record IsSavedDebugRead {F : Type 0} (does : F → StoreAccess → F → Type 0) (file : StoreName) (system list : Option StoreName) (old new : F)
    (saving : Saving) (disk : Option Disk) (listing : List ℕ) : Type 0 where
  pub given : F
  pub between : F
  pub saved : IsSavingGiven does file old given saving
  pub drive : IsSystemRead does system given between disk
  pub listed : IsListingRead does list between new listing

-- with these the lines of the input were heard, and answered by the machine as it was saved
pub record HasDebuggedSaved {F : Type 0} (does : F → StoreAccess → F → Type 0) (file : StoreName) (system list : Option StoreName) (old new : F)
    (unread before printed : Option (List ℕ)) : Type 0 where
  pub saving : Saving
  pub disk : Option Disk
  pub listing : List ℕ
  pub read : IsSavedDebugRead does file system list old new saving disk listing
  pub over : is_of_system saving.system_digest (disk_or_blank disk) ≡ true
  pub dialog : IsHeld (disk_or_blank disk) saving.state.cpu listing saving.state unread before printed

-- with these the machine doesn't go on, and nothing is printed; or the dialog ended early
pub data IsSavedUndebugged {W : Type 0} (saving : Saving) (disk : Option Disk) (listing : List ℕ) (unread before printed : Option (List ℕ))
    (out out_now : W) (e : HostError) : Type 0 where
  NotBegun : IsProgramRefusal (going_on saving disk) e → out_now ≡ out → IsSavedUndebugged saving disk listing unread before printed out out_now e
  CutShort : (error : DebugError) → e ≡ host_error_of_debug error → is_of_system saving.system_digest (disk_or_blank disk) ≡ true
      → IsFailure (disk_or_blank disk) saving.state.cpu listing saving.state unread before printed error
      → IsSavedUndebugged saving disk listing unread before printed out out_now e

-- how far it came that was refused: up to its dialog nothing is printed
pub data IsSavedDebugRefused {F W : Type 0} (does : F → StoreAccess → F → Type 0) (file : StoreName) (system list : Option StoreName) (old new : F)
    (unread before printed : Option (List ℕ)) (out out_now : W) (e : HostError) : Type 0 where
  -- the file can't be read
  Unread : IsUnread file e → does old (Missed file) new → out_now ≡ out → IsSavedDebugRefused does file system list old new unread before printed out out_now e
  -- it gave bytes that are no saved machine
  NoSaving : (bytes : List ℕ) → does old (Gave file bytes) new → IsSavingRefusal file bytes e → out_now ≡ out
      → IsSavedDebugRefused does file system list old new unread before printed out out_now e
  -- the system drive can't be read, or is none
  NoSystem : (saving : Saving) (given : F) → IsSavingGiven does file old given saving → IsSystemUnread does system given new e → out_now ≡ out
      → IsSavedDebugRefused does file system list old new unread before printed out out_now e
  -- the listing can't be read
  NoListing : (saving : Saving) (disk : Option Disk) (given between : F) → IsSavingGiven does file old given saving
      → IsSystemRead does system given between disk → IsListingUnread does list between new e → out_now ≡ out
      → IsSavedDebugRefused does file system list old new unread before printed out out_now e
  -- all were read
  NotDebugged : (saving : Saving) (disk : Option Disk) (listing : List ℕ) → IsSavedDebugRead does file system list old new saving disk listing
      → IsSavedUndebugged saving disk listing unread before printed out out_now e
      → IsSavedDebugRefused does file system list old new unread before printed out out_now e

-- ---- what a command line names

-- a saved machine, or else a program
abbrev pub IsDebugDoneBy : {F : Type 0} → (F → StoreAccess → F → Type 0) → (from file : Option StoreName) → DebugTask → F → F
    → (unread before printed : Option (List ℕ)) → Type 0
IsDebugDoneBy {F} does (Some from) file task old new unread before printed =
    HasDebuggedSaved does from (option_map (λ n. n.now) task.system) (option_map (λ n. n.now) task.list) old new unread before printed
IsDebugDoneBy {F} does None (Some file) task old new unread before printed =
    HasDebugged does file task.cpu (option_map (λ n. n.now) task.list) old new unread before printed
IsDebugDoneBy {F} does None None task old new unread before printed = ⊥

abbrev pub IsDebugTaskDone : {F : Type 0} → (F → StoreAccess → F → Type 0) → DebugTask → F → F → (unread before printed : Option (List ℕ)) → Type 0
IsDebugTaskDone {F} does task old new unread before printed =
    IsDebugDoneBy does (option_map (λ n. n.now) task.from) (option_map (λ n. n.now) task.file) task old new unread before printed

-- neither of the two is a fault of the command line, for which nothing is read or printed
abbrev pub IsDebugRefusedBy : {F W : Type 0} → (F → StoreAccess → F → Type 0) → (from file : Option StoreName) → DebugTask → F → F
    → (unread before printed : Option (List ℕ)) → W → W → HostError → Type 0
IsDebugRefusedBy {F} {W} does (Some from) file task old new unread before printed out out_now e =
    IsSavedDebugRefused does from (option_map (λ n. n.now) task.system) (option_map (λ n. n.now) task.list) old new unread before printed out out_now e
IsDebugRefusedBy {F} {W} does None (Some file) task old new unread before printed out out_now e =
    IsDebugRefused does file task.cpu (option_map (λ n. n.now) task.list) old new unread before printed out out_now e
IsDebugRefusedBy {F} {W} does None None task old new unread before printed out out_now e =
    (e ≡ Usage (record { fault = NoProgram; page = page.Debug })) × (new ≡ old) × (out_now ≡ out)

abbrev pub IsDebugTaskRefused : {F W : Type 0} → (F → StoreAccess → F → Type 0) → DebugTask → F → F → (unread before printed : Option (List ℕ))
    → W → W → HostError → Type 0
IsDebugTaskRefused {F} {W} does task old new unread before printed out out_now e =
    IsDebugRefusedBy does (option_map (λ n. n.now) task.from) (option_map (λ n. n.now) task.file) task old new unread before printed out out_now e
