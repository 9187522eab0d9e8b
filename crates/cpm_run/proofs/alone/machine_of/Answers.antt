use Rattle.std.proofs.Common.{◌∙◌, refl, subst}
use Rattle.cpm_batch.specs.Inputs.{Opens, start_view}
use Rattle.cpm_batch.specs.declared.input.Start.{Start}
use Rattle.cpm_machine.specs.declared.opening.Opening.{Opening}
use Rattle.cpm_run.specs.Settling.{IsOpenable}
use Rattle.cpm_run.proofs.alone.machine_of.Goals as goal

pub opened-requires : goal.opened-requires
opened-requires c =
    let o : Opening = record { cpu = c.in-Opened.cpu; quota = c.in-Opened.quota; drives = c.in_ok-copies_of-in-Opened.field-0 } in
    let openable : IsOpenable (Opens c.in-Opened.cpu c.in-Opened.quota c.in-Opened.drives.items) = subst (λ (b : Start). IsOpenable (start_view b)) c.in-Opened.is c.requires.openable in
    openable o (record { cpu = refl; quota = refl; drives = c.in_ok-copies_of-in-Opened.ensures ∙ c.deref.ensures.value })
