use Rattle.std.proofs.Common.{◌≡◌, ◌∙◌, ℕ, List, ◌++◌, ap}
use Rattle.cpm_saved.specs.Layout.{coded}
use Rattle.cpm_machine.specs.Saving.{restored, bytes_of_saving, saving_with, saving_fields, saving_layout}
use Rattle.cpm_machine.specs.Runner.{state_of}
use Rattle.cpm_memory.specs.Flat.{flat_contents}
use Rattle.cpm_machine.proofs.SavingLaws.{saved_restored}
use Rattle.cpm_machine.proofs.saving.save.Goals as goal

pub returns-clause-saved : goal.returns-clause-saved
unfolding bytes_of_saving
returns-clause-saved c =
    let x = saving_with c.args.digest.now (state_of c.args.runner.now (flat_contents c.args.memory.now)) in
    c.in_ok-append_saving.ensures.appended.bytes ∙ ap (λ (xs : List ℕ). xs ++ coded saving_layout (saving_fields x)) c.new-bytes.ensures.items

pub returns-clause-restores : goal.returns-clause-restores
returns-clause-restores c =
    let x = saving_with c.args.digest.now (state_of c.args.runner.now (flat_contents c.args.memory.now)) in
    ap (λ (xs : List ℕ). restored xs) (returns-clause-saved c)
    ∙ saved_restored x c.in_ok-append_saving.ensures.fits c.requires c.in_ok-append_saving.ensures.appended.fits
