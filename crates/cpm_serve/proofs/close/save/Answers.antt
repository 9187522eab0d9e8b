use Rattle.std.proofs.Common.{◌∙◌, ℕ, List, ap, length, refl}
use Rattle.cpm_protocol.specs.Replies.{Refused}
use Rattle.cpm_slots.specs.Host.{slot_at}
use Rattle.cpm_slots.specs.HostWithStore.{HostWithStore}
use Rattle.cpm_serve.specs.DriveFiles.{stored_answer}
use Rattle.cpm_serve.specs.Folder.{write_answer}
use Rattle.cpm_serve.specs.Owned.{owned_answer}
use Rattle.cpm_serve.proofs.OutputLemmas.{save-refused, save-served}
use Rattle.cpm_serve.proofs.close.save.Goals as goal

pub returns-in-Ok : goal.returns-in-Ok
returns-in-Ok g c =
    let k = c.in-Ok.ensures.saved in
    save-served g.F.Folder.does c.args.host.now.host c.save.new.self.host c.args.slot c.args.file.now c.in-Ok.bytes.items k.state (write_answer c.write_file.result) (owned_answer c.stored.result)
    c.args.folder.now c.write_file.new.folder k.there k.saving.saved (ap (λ (x : HostWithStore). x.host) c.save.ensures.unchanged) c.write_file.ensures
    (c.stored.ensures ∙ ap (λ (bs : List ℕ). stored_answer (length bs) (write_answer c.write_file.result)) c.as_slice.ensures.value)

pub returns-in-Err : goal.returns-in-Err
returns-in-Err g c =
    save-refused g.F.Folder.does c.args.host.now.host c.save.new.self.host c.args.slot c.args.file.now (slot_at c.args.slot c.args.host.now.host.slots) c.in-Err.error (owned_answer c.refused.result)
    c.args.folder.now refl c.in-Err.ensures.refused (ap (λ (x : HostWithStore). x.host) c.save.ensures.unchanged) (c.refused.ensures ∙ ap (λ w. Refused w) c.save_refusal.ensures)
