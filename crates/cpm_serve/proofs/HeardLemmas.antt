-- What lines that were served ask, in order.
use Rattle.std.proofs.Common.{◌≡◌, ◌∙◌, ℕ, List, [], ◌∷◌, ◌++◌, subst, ap}
use Rattle.cpm_slots.specs.Host.{Host}
use Rattle.cpm_serve.specs.Folder.{FolderAccess}
use Rattle.cpm_serve.specs.Laws.{events_in}
use Rattle.cpm_serve.specs.Lines.{AreKept, AreLinesHeard, AreLinesServed, EventsLead, IsLineServed, KeptEventsLead, LineHeard, WireEvent, events_of, host_after_lines, host_served}
use Rattle.cpm_serve.proofs.KeepableLemmas.{AreShallow, line-shallow}
use Rattle.cpm_serve.proofs.ManyLemmas.{kept-append, leads-append}
use Rattle.cpm_serve.proofs.WireLaws.{lines-are-events}

pub shallow-append : (es fs : List WireEvent) → AreShallow es → AreShallow fs → AreShallow (es ++ fs)
shallow-append [] fs p q = q
shallow-append (e ∷ es) fs p q = (p.0, shallow-append es fs p.1 q)

-- lines that were served are so many events, whose changes are kept
pub record AreHeard {F : Type 0} (does : F → FolderAccess → F → Type 0) (lines : List (List ℕ)) (old new : Host) (from to : F) : Type 0 where
  pub heard : List LineHeard
  pub are : AreLinesHeard lines heard
  pub host : new ≡ host_after_lines old heard
  pub leads : EventsLead does old from to (events_in heard)
  pub kept : AreKept (events_in heard)
  pub shallow : AreShallow (events_in heard)

heard-one : {F : Type 0} (does : F → FolderAccess → F → Type 0) (line text : List ℕ) (lines : List (List ℕ)) (old h new : Host) (from mid to : F) →
    IsLineServed (KeptEventsLead does old from mid) line old h text → AreHeard does lines h new mid to → AreHeard does (line ∷ lines) old new from to
heard-one does line text lines old h new from mid to one k = record {
  heard = one.heard ∷ k.heard;
  are = (one.is, k.are);
  host = k.host ∙ ap (λ (g : Host). host_after_lines g k.heard) one.host;
  leads = leads-append does old from mid to (events_of one.heard) (events_in k.heard) one.leads.0
      (subst (λ (g : Host). EventsLead does g mid to (events_in k.heard)) one.host k.leads);
  kept = kept-append (events_of one.heard) (events_in k.heard) one.leads.1 k.kept;
  shallow = shallow-append (events_of one.heard) (events_in k.heard) (line-shallow line one.heard one.is) k.shallow;
}

pub lines-heard : {F : Type 0} (does : F → FolderAccess → F → Type 0) (lines : List (List ℕ)) (old new : Host) (from to : F) (texts : List (List ℕ)) →
    AreLinesServed does lines old new from to texts → AreHeard does lines old new from to
lines-heard does [] old new from to [] e = record { heard = []; are = tt; host = e.0; leads = e.1; kept = tt; shallow = tt }
lines-heard does [] old new from to (text ∷ texts) e = absurd e
lines-heard does (line ∷ lines) old new from to [] e = absurd e
lines-heard does (line ∷ lines) old new from to (text ∷ texts) e =
    heard-one does line text lines old e.0 new from e.1 to e.2 (lines-heard does lines e.0 new e.1 to texts e.3)

pub heard-host : {F : Type 0} (does : F → FolderAccess → F → Type 0) (lines : List (List ℕ)) (old new : Host) (from to : F) (k : AreHeard does lines old new from to) →
    new ≡ host_served old (events_in k.heard)
heard-host does lines old new from to k = k.host ∙ lines-are-events old k.heard
