use Rattle.std.proofs.Common.{◌∙◌}
use Rattle.cpm_batch.specs.Savings.{saving_view}
use Rattle.cpm_host.proofs.SavedTextLemmas.{machine_told, on_ok}
use Rattle.cpm_host.proofs.saved_text.tell_machine.Goals as goal

pub returns : goal.returns
returns g c =
    on_ok c.tell_drives.result _ _
    (λ told. machine_told (saving_view c.args.saved) c.as_bytes.result.now c.finish-drives.result.drives _ _ _ (c.as_bytes.ensures.value ∙ c.in_ok-text.ensures) c.finish-drives.ensures.drives
    c.in_ok-write_text.ensures.written told) c.tell_drives.ensures
