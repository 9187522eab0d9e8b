-- The debugger over what a machine begins with, or goes on from. All of it is own.
use Rattle.std.specs.Prelude.{◌≡◌, ℕ, List, Option}
use Rattle.cpm_debug.specs.Debug.{IsFailure, IsHeld}
use Rattle.cpm_debug.specs.declared.error.DebugError.{DebugError}
use Rattle.cpm_host.specs.Program.{IsProgramFit, IsProgramRefusal, ProgramInput, machine_of, system_disk}
use Rattle.cpm_host.specs.Refusals.{host_error_of_debug}
use Rattle.cpm_host.specs.declared.error.HostError.{HostError}

-- the machine that begins so, or goes on, was debugged over its system drive
pub record IsStartHeld (g : ProgramInput) (listing : List ℕ) (known before now : Option (List ℕ)) : Type 0 where
  pub fit : IsProgramFit g
  pub dialog : IsHeld (system_disk g) (machine_of g).cpu listing (machine_of g) known before now

-- it was refused: there is no such machine, and nothing is written; or its dialog ended early
pub data IsStartUnheld {W : Type 0} (g : ProgramInput) (listing : List ℕ) (known before now : Option (List ℕ)) (old new : W) (e : HostError) : Type 0 where
  NotBegun : IsProgramRefusal g e → new ≡ old → IsStartUnheld g listing known before now old new e
  CutShort : (error : DebugError) → e ≡ host_error_of_debug error → IsProgramFit g
      → IsFailure (system_disk g) (machine_of g).cpu listing (machine_of g) known before now error
      → IsStartUnheld g listing known before now old new e
