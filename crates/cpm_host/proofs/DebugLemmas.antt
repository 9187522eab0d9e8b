-- A dialog with the machine that begins so, or goes on.
use Rattle.std.proofs.Common.{◌≡◌, ℕ, List, Option, Result, Ok, Err, subst}
use Rattle.cpm_debug.specs.Debug.{IsFailure, IsHeld}
use Rattle.cpm_debug.specs.declared.error.DebugError.{DebugError}
use Rattle.cpm_geom.specs.Disk.{Disk}
use Rattle.cpm_machine.specs.MachineState.{MachineState}
use Rattle.cpm_host.specs.Program.{ProgramInput, machine_of, system_disk}

pub held_by : (g : ProgramInput) (s : MachineState) (system : Disk) (listing : List ℕ) (known before now : Option (List ℕ))
    → s ≡ machine_of g → system ≡ system_disk g → IsHeld system s.cpu listing s known before now
    → IsHeld (system_disk g) (machine_of g).cpu listing (machine_of g) known before now
held_by g s system listing known before now made drive held =
    let on_drive = subst (λ (d : Disk). IsHeld d s.cpu listing s known before now) drive held in
    subst (λ (m : MachineState). IsHeld (system_disk g) m.cpu listing m known before now) made on_drive

pub cut_by : (g : ProgramInput) (s : MachineState) (system : Disk) (listing : List ℕ) (known before now : Option (List ℕ)) (e : DebugError)
    → s ≡ machine_of g → system ≡ system_disk g → IsFailure system s.cpu listing s known before now e
    → IsFailure (system_disk g) (machine_of g).cpu listing (machine_of g) known before now e
cut_by g s system listing known before now e made drive failed =
    let on_drive = subst (λ (d : Disk). IsFailure d s.cpu listing s known before now e) drive failed in
    subst (λ (m : MachineState). IsFailure (system_disk g) m.cpu listing m known before now e) made on_drive
