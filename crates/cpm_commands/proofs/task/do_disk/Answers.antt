use Rattle.std.proofs.Common.{refl, sym}
use Rattle.std.proofs.lemmas.Result.{IfErr-weaker}
use Rattle.cpm_commands.proofs.RunLemmas.{done}
use Rattle.cpm_commands.proofs.task.do_disk.Goals as goal

pub returns-in-New-clause-refusal : goal.returns-in-New-clause-refusal
returns-in-New-clause-refusal g c = IfErr-weaker c.new_disk.result _ _ (λ e h. rw c.in-New.is (h, refl)) c.new_disk.ensures.refusal

pub returns-in-Put-clause-refusal : goal.returns-in-Put-clause-refusal
returns-in-Put-clause-refusal g c =
    IfErr-weaker c.put_files.result _ _ (λ e h. rw c.in-Put.is (rw (sym c.deref.ensures.value) (h, refl))) c.put_files.ensures.refusal

pub returns-in-Remove-clause-refusal : goal.returns-in-Remove-clause-refusal
returns-in-Remove-clause-refusal g c =
    IfErr-weaker c.remove_from_disk.result _ _ (λ e h. rw c.in-Remove.is (rw (sym c.deref-in-Remove.ensures.value) (h, refl))) c.remove_from_disk.ensures.refusal

pub returns-in-Rename-clause-done : goal.returns-in-Rename-clause-done
returns-in-Rename-clause-done g c = done c.rename_on_disk.result _ _ (λ h. rw c.in-Rename.is (h, refl)) c.rename_on_disk.ensures.renamed

pub returns-in-Rename-clause-refusal : goal.returns-in-Rename-clause-refusal
returns-in-Rename-clause-refusal g c = IfErr-weaker c.rename_on_disk.result _ _ (λ e h. rw c.in-Rename.is (h, refl)) c.rename_on_disk.ensures.refusal
