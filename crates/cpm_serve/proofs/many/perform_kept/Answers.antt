use Rattle.std.proofs.Common.{subst, sym}
use Rattle.serde_json.specs.View.{view}
use Rattle.cpm_protocol.specs.Requests.{request_seen}
use Rattle.cpm_slots.specs.HostWithStore.{HostWithStore}
use Rattle.cpm_serve.specs.Changes.{unkept_error}
use Rattle.cpm_serve.specs.Lines.{CutEventsLead, KeptEventsLead}
use Rattle.cpm_serve.specs.Owned.{owned_answer}
use Rattle.cpm_serve.specs.Parts.{IsEventCut, IsEventDone}
use Rattle.cpm_serve.specs.declared.folder.ServeError.{ServeError}
use Rattle.cpm_serve.proofs.EventLemmas.{event-done, event-unkept}
use Rattle.cpm_serve.proofs.many.perform_kept.Goals as goal

pub returns-in-Ok-clause-done : goal.returns-in-Ok-clause-done
returns-in-Ok-clause-done g c =
    let d = view c.args.value.now in
    let old = c.args.host.now.host in
    let done = c.perform-reply.new in
    let a = owned_answer c.perform-reply.result in
    subst (λ (h : HostWithStore). IsEventDone (KeptEventsLead g.F.Folder.does old c.args.folder.now c.keep.new.folder) d old h.host a) (sym c.in-Ok.ensures.unchanged)
    (event-done g.F.Folder.does d (request_seen c.args.request) old done.host.host c.args.folder.now done.folder c.keep.new.folder a (sym c.requires.asked) c.perform-reply.ensures c.in-Ok.ensures.kept)

pub returns-in-Err-clause-unkept : goal.returns-in-Err-clause-unkept
returns-in-Err-clause-unkept g c =
    let d = view c.args.value.now in
    let old = c.args.host.now.host in
    let done = c.perform-reply.new in
    let a = owned_answer c.perform-reply.result in
    let new = c.keep.new in
    subst (λ (e : ServeError). IsEventCut (CutEventsLead e g.F.Folder.does old c.args.folder.now new.folder) d old new.host.host) (sym c.unkept.ensures)
    (subst (λ (h : HostWithStore). IsEventCut (CutEventsLead (unkept_error c.in-Err.error) g.F.Folder.does old c.args.folder.now new.folder) d old h.host) (sym c.in-Err.ensures.unchanged)
    (event-unkept g.F.Folder.does d (request_seen c.args.request) old done.host.host c.args.folder.now done.folder new.folder a c.in-Err.error (sym c.requires.asked) c.perform-reply.ensures
    c.in-Err.ensures.kept))
