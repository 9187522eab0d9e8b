use Rattle.std.proofs.Common.{subst, sym}
use Rattle.cpm_batch.specs.Savings.{saving_view}
use Rattle.cpm_host.proofs.SavedTextLemmas.{saved_told}
use Rattle.cpm_host.proofs.saved_text.run_saved.Goals as goal
use Rattle.cpm_host.specs.SavedText.{IsSavedTold}

pub returns-in-Ok-clause-told : goal.returns-in-Ok-clause-told
returns-in-Ok-clause-told g c =
    let x = saving_view c.args.saved in
    saved_told x c.as_slice.result.now _ _ _ (subst (IsSavedTold x) (sym c.as_slice.ensures.value) c.in_ok-text.ensures) c.in_ok-write_text.ensures.written c.flush.ensures.bytes
