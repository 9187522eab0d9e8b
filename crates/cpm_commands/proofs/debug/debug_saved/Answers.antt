use Rattle.std.proofs.Common.{◌∙◌, List, ap, refl, subst, sym, ℕ}
use Rattle.std.proofs.lemmas.Result.{err_from_is_err_and}
use Rattle.cpm_host.specs.Program.{program_given}
use Rattle.cpm_batch.specs.Savings.{saving_view}
use Rattle.cpm_host.specs.Saved.{IsSavingRefusal}
use Rattle.cpm_machine.specs.Saving.{restored}
use Rattle.cpm_commands.specs.Debug.IsSavedDebugRefused.{NoListing, NoSaving, NoSystem, Unread}
use Rattle.cpm_commands.proofs.DebugLemmas.{debugged_of, undebugged_of}
use Rattle.cpm_commands.proofs.debug.debug_saved.Goals as goal

pub returns-in_err-bytes-clause-refusal : goal.returns-in_err-bytes-clause-refusal
returns-in_err-bytes-clause-refusal g c =
    let p = err_from_is_err_and c.from_residual.result c.from_residual.ensures.1 in
    rw (p.1, p.2) (Unread c.in_err-bytes.ensures.refusal.0 c.in_err-bytes.ensures.refusal.1 refl)

pub returns-in_err-saved-clause-refusal : goal.returns-in_err-saved-clause-refusal
returns-in_err-saved-clause-refusal g c =
    let p = err_from_is_err_and c.from_residual-in_err-saved.result c.from_residual-in_err-saved.ensures.1 in
    let refused = subst (λ (bytes : List ℕ). IsSavingRefusal c.args.file.now bytes c.in_err-saved.field-0.0) c.as_slice.ensures.value c.in_err-saved.ensures.refusal in
    rw (p.1, p.2) (NoSaving c.in_ok-bytes.bytes.items c.in_ok-bytes.ensures.read refused refl)

pub returns-in_err-system-clause-refusal : goal.returns-in_err-system-clause-refusal
returns-in_err-system-clause-refusal g c =
    let p = err_from_is_err_and c.from_residual-in_err-system.result c.from_residual-in_err-system.ensures.1 in
    let restores = ap restored (sym c.as_slice.ensures.value) ∙ c.in_ok-saved.ensures.read in
    rw (p.1, p.2) (NoSystem (saving_view c.in_ok-saved.saved.value) _ (record { bytes = c.in_ok-bytes.bytes.items; read = c.in_ok-bytes.ensures.read; restores = restores })
    c.in_err-system.ensures.refusal refl)

pub returns-in_err-listing-clause-refusal : goal.returns-in_err-listing-clause-refusal
returns-in_err-listing-clause-refusal g c =
    let p = err_from_is_err_and c.from_residual-in_err-listing.result c.from_residual-in_err-listing.ensures.1 in
    let restores = ap restored (sym c.as_slice.ensures.value) ∙ c.in_ok-saved.ensures.read in
    rw (p.1, p.2) (NoListing (saving_view c.in_ok-saved.saved.value) c.in_ok-system.system _ _
    (record { bytes = c.in_ok-bytes.bytes.items; read = c.in_ok-bytes.ensures.read; restores = restores })
    c.in_ok-system.ensures.read c.in_err-listing.ensures.refusal refl)

pub returns-clause-debugged : goal.returns-clause-debugged
returns-clause-debugged g c =
    let restores = ap restored (sym c.as_slice.ensures.value) ∙ c.in_ok-saved.ensures.read in
    debugged_of _ _ _ _ _ _ (saving_view c.in_ok-saved.saved.value) c.in_ok-system.system c.as_slice-2.result.now _ _ _
    (record {
      given = _;
      between = _;
      saved = record { bytes = c.in_ok-bytes.bytes.items; read = c.in_ok-bytes.ensures.read; restores = restores };
      drive = c.in_ok-system.ensures.read;
      listed = rw c.as_slice-2.ensures.value c.in_ok-listing.ensures.read;
    })
    c.debug_start.result (program_given c.going_on-start.result) c.going_on-start.ensures c.debug_start.ensures.held

pub returns-clause-refusal : goal.returns-clause-refusal
returns-clause-refusal g c =
    let restores = ap restored (sym c.as_slice.ensures.value) ∙ c.in_ok-saved.ensures.read in
    undebugged_of _ _ _ _ _ _ (saving_view c.in_ok-saved.saved.value) c.in_ok-system.system c.as_slice-2.result.now _ _ _
    (record {
      given = _;
      between = _;
      saved = record { bytes = c.in_ok-bytes.bytes.items; read = c.in_ok-bytes.ensures.read; restores = restores };
      drive = c.in_ok-system.ensures.read;
      listed = rw c.as_slice-2.ensures.value c.in_ok-listing.ensures.read;
    })
    c.args.out.now c.debug_start.new.out
    c.debug_start.result (program_given c.going_on-start.result) c.going_on-start.ensures c.debug_start.ensures.refusal
