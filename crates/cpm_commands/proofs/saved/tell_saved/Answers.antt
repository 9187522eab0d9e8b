use Rattle.std.proofs.Common.{◌∙◌, ◌≡◌, List, OnOk, Result, Err, Ok, ap, inr, refl, subst, sym, ℕ}
use Rattle.std.proofs.lemmas.Result.{IfErr-weaker, err_from_is_err_and}
use Rattle.cpm_batch.specs.Savings.{saving_view}
use Rattle.cpm_host.specs.Saved.{IsSavingRefusal}
use Rattle.cpm_host.specs.declared.error.HostError.{HostError}
use Rattle.cpm_machine.specs.Saving.{restored}
use Rattle.cpm_commands.specs.Saved.IsSavingUntold.{NoSaving, NotPrinted}
use Rattle.cpm_commands.proofs.saved.tell_saved.Goals as goal

on_ok : (P Q : Type 0) (r : Result (Unit {0}) HostError) → (P → Q) → OnOk r P → OnOk r Q
on_ok P Q (Ok done) leads h = leads h
on_ok P Q (Err e) leads h = tt

pub returns-in_err-saved-clause-refusal : goal.returns-in_err-saved-clause-refusal
returns-in_err-saved-clause-refusal g c =
    let p = err_from_is_err_and c.from_residual-in_err-saved.result c.from_residual-in_err-saved.ensures.1 in
    let refused = subst (λ (bytes : List ℕ). IsSavingRefusal c.args.file.now bytes c.in_err-saved.field-0.0) c.as_slice.ensures.value c.in_err-saved.ensures.refusal in
    rw (p.1, p.2) (inr (NoSaving c.in_ok-bytes.bytes.items c.in_ok-bytes.ensures.read refused refl))

pub returns-clause-told : goal.returns-clause-told
returns-clause-told g c =
    let read = ap restored (sym c.as_slice.ensures.value) ∙ c.in_ok-saved.ensures.read in
    let restores = subst (λ m. restored c.in_ok-bytes.bytes.items ≡ Ok (saving_view m)) (sym c.into_inner.ensures) read in
    on_ok _ _ c.run_saved.result (λ h. record {
      bytes = c.in_ok-bytes.bytes.items;
      saving = saving_view c.into_inner.result;
      read = c.in_ok-bytes.ensures.read;
      restores = restores;
      text = h;
    }) c.run_saved.ensures.told

pub returns-clause-refusal : goal.returns-clause-refusal
returns-clause-refusal g c =
    let read = ap restored (sym c.as_slice.ensures.value) ∙ c.in_ok-saved.ensures.read in
    let restores = subst (λ m. restored c.in_ok-bytes.bytes.items ≡ Ok (saving_view m)) (sym c.into_inner.ensures) read in
    IfErr-weaker c.run_saved.result _ _
    (λ e h. inr (NotPrinted c.in_ok-bytes.bytes.items (saving_view c.into_inner.result) c.in_ok-bytes.ensures.read restores h)) c.run_saved.ensures.refusal
