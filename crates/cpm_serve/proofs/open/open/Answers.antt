use Rattle.std.proofs.Common.{◌∙◌, ap}
use Rattle.cpm_protocol.specs.Replies.{Refused}
use Rattle.cpm_protocol.specs.Requests.{drive_names_of}
use Rattle.cpm_slots.specs.Drives.{open_fault}
use Rattle.cpm_serve.specs.Owned.{owned_answer}
use Rattle.cpm_serve.proofs.OpenLemmas.{open-read, open-unfit, open-unread}
use Rattle.cpm_serve.proofs.open.open.Goals as goal

pub returns-in-Some : goal.returns-in-Some
returns-in-Some g c =
    open-unfit g.F.Folder.does c.args.host.now.host c.args.cpu c.args.quota (drive_names_of c.args.drives) c.in-Some.fault (owned_answer c.refused.result) c.args.folder.now
    (c.in-Some.ensures ∙ ap (open_fault c.args.host.now.host c.args.quota) c.name_count.ensures) (c.refused.ensures ∙ ap (λ w. Refused w) c.open_refusal.ensures)

pub returns-in-Ok : goal.returns-in-Ok
returns-in-Ok g c =
    open-read g.F.Folder.does c.args.host.now.host c.open_with.new.host.host c.args.cpu c.args.quota (drive_names_of c.args.drives) c.in-Ok.drives.items (owned_answer c.open_with.result)
    c.args.folder.now c.drives_named.new.folder (c.in_default.ensures ∙ ap (open_fault c.args.host.now.host c.args.quota) c.name_count.ensures) c.in-Ok.ensures c.open_with.ensures

pub returns-in-Err : goal.returns-in-Err
returns-in-Err g c =
    open-unread g.F.Folder.does c.args.host.now.host c.args.cpu c.args.quota (drive_names_of c.args.drives) c.in-Err.refusal (owned_answer c.refused-in-Err.result)
    c.args.folder.now c.drives_named.new.folder (c.in_default.ensures ∙ ap (open_fault c.args.host.now.host c.args.quota) c.name_count.ensures) c.in-Err.ensures c.refused-in-Err.ensures
