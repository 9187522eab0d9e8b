-- A saved machine that was debugged.
use Rattle.std.proofs.Common.{◌≡◌, ℕ, List, Option, Result, Ok, Err, subst}
use Rattle.std.specs.Prelude.{OnOk, IfErr}
use Rattle.cpm_geom.specs.Disk.{Disk}
use Rattle.cpm_host.specs.Debugged.{IsStartHeld, IsStartUnheld}
use Rattle.cpm_host.specs.Debugged.IsStartUnheld.{CutShort, NotBegun}
use Rattle.cpm_host.specs.Program.{ProgramInput}
use Rattle.cpm_host.specs.declared.error.HostError.{HostError}
use Rattle.cpm_machine.specs.Saving.{Saving}
use Rattle.cpm_store.specs.Files.{StoreName}
use Rattle.cpm_store.specs.Log.{StoreAccess}
use Rattle.cpm_commands.specs.Debug.{HasDebuggedSaved, IsSavedDebugRead, IsSavedDebugRefused, IsSavedUndebugged, going_on}
use Rattle.cpm_commands.specs.Debug.IsSavedDebugRefused.{NotDebugged}
use Rattle.cpm_commands.specs.Debug.IsSavedUndebugged.{CutShort as DialogCut, NotBegun as NotGoingOn}

module _ {F : Type 0} (does : F → StoreAccess → F → Type 0) (file : StoreName) (system list : Option StoreName) (old new : F)
    (saving : Saving) (disk : Option Disk) (listing : List ℕ) (unread before printed : Option (List ℕ))
    (read : IsSavedDebugRead does file system list old new saving disk listing) where
  pub debugged_of : (r : Result (Unit {0}) HostError) (g : ProgramInput) → g ≡ going_on saving disk → OnOk r (IsStartHeld g listing unread before printed)
      → OnOk r (HasDebuggedSaved does file system list old new unread before printed)
  debugged_of (Err e) g is h = tt
  debugged_of (Ok done) g is h =
      let held = subst (λ (x : ProgramInput). IsStartHeld x listing unread before printed) is h in
      record { saving = saving; disk = disk; listing = listing; read = read; over = held.fit.over; dialog = held.dialog }

  module _ {W : Type 0} (out out_now : W) where
    undebugged : (e : HostError) → IsStartUnheld (going_on saving disk) listing unread before printed out out_now e
        → IsSavedUndebugged saving disk listing unread before printed out out_now e
    undebugged e (NotBegun refused same) = NotGoingOn refused same
    undebugged e (CutShort error told fit cut) = DialogCut error told fit.over cut

    pub undebugged_of : (r : Result (Unit {0}) HostError) (g : ProgramInput) → g ≡ going_on saving disk
        → IfErr r (IsStartUnheld g listing unread before printed out out_now)
        → IfErr r (λ e. IsSavedDebugRefused does file system list old new unread before printed out out_now e)
    undebugged_of (Ok done) g is h = tt
    undebugged_of (Err e) g is h =
        NotDebugged saving disk listing read (undebugged e (subst (λ (x : ProgramInput). IsStartUnheld x listing unread before printed out out_now e) is h))
