use Rattle.std.proofs.Common.{ℕ, List, Some, subst}
use Rattle.cpm_batch.specs.Savings.{saving_view}
use Rattle.cpm_host.proofs.SavedTextLemmas.{told_text}
use Rattle.cpm_host.proofs.saved_text.saved_text.Goals as goal
use Rattle.cpm_host.specs.SavedText.{HasAppended, IsSavedTold}

pub returns-in-Ok : goal.returns-in-Ok
returns-in-Ok c =
    told_text (saving_view c.args.saved) c.tell_machine.new.out.items
    (subst (λ (xs : List ℕ). HasAppended (Some xs) (Some c.tell_machine.new.out.items) (IsSavedTold (saving_view c.args.saved))) c.new-text.ensures.items c.in-Ok.ensures)
