-- What the debugger writes, and when it is refused.
use Rattle.std.specs.Prelude.{⊤, ◌≡◌, ◌≢◌, ◌<◌, ◌≤◌, ℕ, List, [], ◌∷◌, ◌++◌, length, Option, IfSome}
use Rattle.std.specs.Io.KnownBytes.{Appends}
use Rattle.cpm_flags.specs.declared.regs.Cpu.{Cpu}
use Rattle.cpm_geom.specs.Disk.{Disk, blank_disk}
use Rattle.cpm_geom.specs.declared.format.Format.TheVariants.{Ibm3740}
use Rattle.cpm_machine.specs.MachineState.{MachineState, opened_with}
use Rattle.cpm_debug.specs.Dialog.{dialog}
use Rattle.cpm_debug.specs.Hearing.{heard}
use Rattle.cpm_debug.specs.declared.error.DebugError.{DebugError}
use Rattle.cpm_debug.specs.declared.error.DebugError.TheVariants.{ProgramTooLong, Unreadable, Unwritable, OutOfMemory}
use Rattle.cpm_machine.specs.Opening.{most_program}

-- A dialog was held with a machine: the writer's known bytes grew by what is answered to some lines. Where the bytes of
-- the reader are known, these are the lines that are heard of them.
pub record IsHeld (system : Disk) (cpu : Cpu) (listing : List ℕ) (s : MachineState) (known before now : Option (List ℕ)) : Type 0 where
  pub lines : List (List ℕ)
  pub heard : IfSome known (λ text. lines ≡ heard text)
  pub written : Appends before now (dialog system cpu listing lines s)

-- The reader failed after some lines, which were answered.
pub record IsDialogCutShort (system : Disk) (cpu : Cpu) (listing : List ℕ) (s : MachineState) (known before now : Option (List ℕ)) : Type 0 where
  pub lines : List (List ℕ)
  pub more : List (List ℕ)
  pub heard : IfSome known (λ text. lines ++ more ≡ heard text)
  pub written : Appends before now (dialog system cpu listing lines s)

-- The writer failed, where there is something to answer to some lines.
pub record IsUnanswered (system : Disk) (cpu : Cpu) (listing : List ℕ) (s : MachineState) (known : Option (List ℕ)) : Type 0 where
  pub lines : List (List ℕ)
  pub more : List (List ℕ)
  pub heard : IfSome known (λ text. lines ++ more ≡ heard text)
  pub some : dialog system cpu listing lines s ≢ []

-- what a failed read comes to
abbrev pub IsReadFailure : DebugError → Type 0
IsReadFailure (Unreadable reason) = ⊤
IsReadFailure OutOfMemory = ⊤
IsReadFailure _ = ⊥

-- when a dialog with a machine ends early
abbrev pub IsFailure : Disk → Cpu → List ℕ → MachineState → Option (List ℕ) → Option (List ℕ) → Option (List ℕ) → DebugError → Type 0
IsFailure system cpu listing s known before now (Unreadable reason) = IsDialogCutShort system cpu listing s known before now
IsFailure system cpu listing s known before now OutOfMemory = IsDialogCutShort system cpu listing s known before now
IsFailure system cpu listing s known before now (Unwritable reason) = IsUnanswered system cpu listing s known
IsFailure system cpu listing s known before now _ = ⊥

-- the system drive, and the machine with a program, a blank drive and all pages
abbrev pub debug_system_drive : Disk
debug_system_drive = blank_disk Ibm3740

abbrev pub debugged : Cpu → List ℕ → MachineState
debugged cpu program = opened_with cpu (blank_disk Ibm3740 ∷ []) program

-- When the debugger of a program is refused: the program is too long, and nothing was written, or the dialog ended early.
abbrev pub IsDebugRefusal : {W : Type 0} → Cpu → List ℕ → List ℕ → Option (List ℕ) → Option (List ℕ) → Option (List ℕ) → W → W → DebugError → Type 0
IsDebugRefusal cpu listing program known before now old new (ProgramTooLong count) = (most_program < length program) × (count ≡ length program) × (new ≡ old)
IsDebugRefusal cpu listing program known before now old new error =
    (length program ≤ most_program) × IsFailure debug_system_drive cpu listing (debugged cpu program) known before now error
