use Rattle.std.proofs.Common.{◌∙◌, ap}
use Rattle.cpm_protocol.specs.Replies.{Refused}
use Rattle.cpm_slots.specs.HostWithStore.{HostWithStore}
use Rattle.cpm_serve.specs.Owned.{owned_answer}
use Rattle.cpm_serve.proofs.ManyLemmas.{OnErr-weaker}
use Rattle.cpm_serve.proofs.OpenLemmas.{resume-served, resume-unread}
use Rattle.cpm_serve.proofs.open.resume.Goals as goal

pub returns-in-Ok : goal.returns-in-Ok
returns-in-Ok g c =
    let e = c.restore.ensures in
    resume-served g.F.Folder.does c.args.host.now.host c.restore.new.self.host c.args.from.now c.in-Ok.bytes.items c.restore.result (owned_answer c.restored_reply.result)
    c.args.folder.now c.read.new.self c.in-Ok.ensures.did c.restored_reply.ensures (rw c.deref.ensures.value at e.restored) e.number (rw c.deref.ensures.value at e.fits)
    (rw c.deref.ensures.value at e.refused) (OnErr-weaker c.restore.result _ _ (λ same. ap (λ (x : HostWithStore). x.host) same) e.unchanged)

pub returns-in-Err : goal.returns-in-Err
returns-in-Err g c =
    resume-unread g.F.Folder.does c.args.host.now.host c.args.from.now c.in-Err.error (owned_answer c.refused.result) c.args.folder.now c.read.new.self c.in-Err.ensures.did
    (c.refused.ensures ∙ ap (λ w. Refused w) c.read_refusal.ensures)
