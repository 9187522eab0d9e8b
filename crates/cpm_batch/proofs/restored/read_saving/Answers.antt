use Rattle.std.proofs.Common.{◌≡◌, ℕ, List, refl, subst}
use Rattle.std.specs.Prelude.{Ok}
use Rattle.std.proofs.lemmas.Result.{err_from_is_err_and}
use Rattle.cpm_machine.specs.Saving.{restored}
use Rattle.cpm_batch.specs.Inputs.{saving_need}
use Rattle.cpm_batch.specs.Savings.{IsUnreadSaving, names_wanted, saving_view}
use Rattle.cpm_batch.proofs.SavedLemmas.{misnamed_refused, misnamed_stopped, saving_read, unread_stopped}
use Rattle.cpm_batch.proofs.StopLemmas.{stopped_missed}
use Rattle.cpm_batch.proofs.restored.read_saving.Goals as goal

pub returns-in_err-bytes-clause-refused_log : goal.returns-in_err-bytes-clause-refused_log
returns-in_err-bytes-clause-refused_log g c =
    let p = err_from_is_err_and c.from_residual.result c.from_residual.ensures.1 in
    rw (p.1, p.2) (stopped_missed g.S.Store.does (saving_need c.args.session.now c.args.name.now) c.args.name.now _ c.args.store.now c.read_bytes.new.store refl c.in_err-bytes.ensures.refusal
    c.in_err-bytes.ensures.missed)

pub returns-in_err-saved-clause-refused_log : goal.returns-in_err-saved-clause-refused_log
returns-in_err-saved-clause-refused_log g c =
    let p = err_from_is_err_and c.from_residual-in_err-saved.result c.from_residual-in_err-saved.ensures.1 in
    let bytes = c.in_ok-bytes.bytes.items in
    let unread = subst (λ (bs : List ℕ). IsUnreadSaving c.args.name.now bs c.in_err-saved.field-0.0) c.as_slice.ensures.value c.in_err-saved.ensures.refusal in
    rw (p.1, p.2) (unread_stopped g.S.Store.does c.args.session.now c.args.name.now bytes _ c.args.store.now c.read_bytes.new.store c.in_ok-bytes.ensures.gave unread)

pub returns-in_err-check_names-clause-refusal : goal.returns-in_err-check_names-clause-refusal
returns-in_err-check_names-clause-refusal g c =
    let p = err_from_is_err_and c.from_residual-in_err-check_names.result c.from_residual-in_err-check_names.ensures.1 in
    let bytes = c.in_ok-bytes.bytes.items in
    let saving = saving_view c.in_ok-saved.saved in
    let read = subst (λ (bs : List ℕ). restored bs ≡ Ok saving) c.as_slice.ensures.value c.in_ok-saved.ensures.read in
    rw (p.1, p.2) (misnamed_refused (g.S.Store.files c.args.store.now) c.args.session.now c.args.name.now bytes saving _ c.in_ok-bytes.ensures.found read c.in_err-check_names.ensures.refusal)

pub returns-in_err-check_names-clause-refused_log : goal.returns-in_err-check_names-clause-refused_log
returns-in_err-check_names-clause-refused_log g c =
    let p = err_from_is_err_and c.from_residual-in_err-check_names.result c.from_residual-in_err-check_names.ensures.1 in
    let bytes = c.in_ok-bytes.bytes.items in
    let saving = saving_view c.in_ok-saved.saved in
    let read = subst (λ (bs : List ℕ). restored bs ≡ Ok saving) c.as_slice.ensures.value c.in_ok-saved.ensures.read in
    rw (p.1, p.2) (misnamed_stopped g.S.Store.does c.args.session.now c.args.name.now bytes saving _ c.args.store.now c.read_bytes.new.store c.in_ok-bytes.ensures.gave read
    c.in_err-check_names.ensures.refusal)

pub returns-clause-log : goal.returns-clause-log
returns-clause-log g c =
    let bytes = c.in_ok-bytes.bytes.items in
    let saving = saving_view c.in_ok-saved.saved in
    let read = subst (λ (bs : List ℕ). restored bs ≡ Ok saving) c.as_slice.ensures.value c.in_ok-saved.ensures.read in
    saving_read g.S.Store.does c.args.name.now (names_wanted c.args.session.now) bytes saving c.args.store.now c.read_bytes.new.store c.in_ok-bytes.ensures.gave read c.in_ok-check_names.ensures.named
