-- What stands in a journal where the last of what lines asked could not be kept.
use Rattle.std.proofs.Common.{◌≡◌, ◌⊎◌, ◌+◌, ℕ, zero, suc, List, [], ◌∷◌, ◌++◌, length, map, take, Option, Some, None, inl, inr, sym, subst, ap, ◌∙◌, append_assoc, append-nil}
use Rattle.std.proofs.Math.Seq.{take-append-add, take-length}
use Rattle.std.specs.Io.KnownBytes.{Appends}
use Rattle.cpm_slots.specs.Host.{Host}
use Rattle.cpm_journal.specs.Entries.{AreLinesOf}
use Rattle.cpm_journal.specs.Lines.{lines_text}
use Rattle.cpm_protocol.specs.Requests.{request_asked}
use Rattle.cpm_serve.specs.Changes.{keep_accesses}
use Rattle.cpm_serve.specs.Folder.{AccessesLead, FolderAccess, HostChange}
use Rattle.cpm_serve.specs.KeptFolder.{AreChangesKept, AreChangesTrue, IsChangeBegun, IsChangeUnkept, IsKeptAccess, changes_of, change_entry, change_list}
use Rattle.cpm_serve.specs.Laws.{events_in}
use Rattle.cpm_serve.specs.Lines.{AreKept, AreLinesHeard, CutEventsLead, EventsLead, IsEndedBy, IsLastUnkept, IsLineCut, LineHeard, WireEvent, event_change, event_served, events_of, host_served, request_accesses}
use Rattle.cpm_serve.specs.Resumed.{AreLinesBegun, IsLinesEnd}
use Rattle.cpm_serve.specs.declared.folder.FolderError.{FolderError}
use Rattle.cpm_serve.specs.declared.folder.FolderError.TheVariants as fault
use Rattle.cpm_serve.specs.declared.folder.ServeError.{ServeError}
use Rattle.cpm_serve.specs.declared.folder.ServeError.TheVariants as error
use Rattle.cpm_serve.specs.declared.kept.KeptFolder.{KeptFolder}
use Rattle.cpm_serve.proofs.HeardLemmas.{AreHeard, heard-host, lines-heard, shallow-append}
use Rattle.cpm_serve.proofs.KeepableLemmas.{AreShallow, line-shallow}
use Rattle.cpm_serve.proofs.KeptLemmas.{AreQuiet, IsKeptAsSaid, appends-none, event-step, kept-lines, quiet-event, quiet-step}
use Rattle.cpm_serve.proofs.ManyLemmas.{host-append, kept-append, last-append, leads-append}
use Rattle.cpm_serve.proofs.TalkLemmas.{appends_more}

-- ---- changes

-- the lines of these changes were added to a journal, the last perhaps not to its end
pub record AreChangesBegun (changes : List HostChange) (old new : Option (List ℕ)) : Type 0 where
  pub lines : List (List ℕ)
  pub of : AreLinesOf (map change_entry changes) lines
  pub sure : AreChangesTrue changes
  pub count : ℕ
  pub added : Appends old new (take count (lines_text lines))

none-begun : (old new : Option (List ℕ)) → new ≡ old → AreChangesBegun [] old new
none-begun old new same = record { lines = []; of = tt; sure = tt; count = 0; added = subst (λ (o : Option (List ℕ)). Appends old o []) (sym same) (appends-none old) }

all-begun : (changes : List HostChange) (old new : Option (List ℕ)) → AreChangesKept changes old new → AreChangesBegun changes old new
all-begun changes old new k = record {
  lines = k.lines;
  of = k.of;
  sure = k.true;
  count = length (lines_text k.lines);
  added = subst (Appends old new) (sym (take-length (lines_text k.lines))) k.added;
}

line-then : (line rest : List ℕ) (count : ℕ) → (line ++ 0x0A ∷ []) ++ take count rest ≡ take (length (line ++ 0x0A ∷ []) + count) (line ++ 0x0A ∷ rest)
line-then line rest count =
    sym (ap (take (length (line ++ 0x0A ∷ []) + count)) (sym (append_assoc line (0x0A ∷ []) rest)) ∙ take-append-add (line ++ 0x0A ∷ []) rest count)

-- one before others
more-begun : (o : Option HostChange) (changes : List HostChange) (old mid new : Option (List ℕ)) → IsKeptAsSaid o old mid → AreChangesBegun changes mid new →
    AreChangesBegun (change_list o ++ changes) old new
more-begun None changes old mid new one k = subst (λ (x : Option (List ℕ)). AreChangesBegun changes x new) one k
more-begun (Some change) changes old mid new one k = record {
  lines = one.line ∷ k.lines;
  of = (one.of, k.of);
  sure = (one.true, k.sure);
  count = length (one.line ++ 0x0A ∷ []) + k.count;
  added = subst (Appends old new) (line-then one.line (lines_text k.lines) k.count)
      (appends_more old mid new (one.line ++ 0x0A ∷ []) (take k.count (lines_text k.lines)) one.added k.added);
}

-- ---- the last of them

abbrev IsUnkeptAsSaid : FolderError → Option HostChange → (old new : Option (List ℕ)) → Type 0
IsUnkeptAsSaid why None old new = new ≡ old
IsUnkeptAsSaid why (Some change) old new = IsChangeUnkept change why old new

unkept-step : {F J : Type 0} (does : F → FolderAccess → F → Type 0) (contents : J → Option (List ℕ)) (from to : KeptFolder F J) (log : List FolderAccess) (why : FolderError) (o : Option HostChange) →
    AreQuiet log → AccessesLead (IsKeptAccess does contents) from to (log ++ keep_accesses (Some why) o) → IsUnkeptAsSaid why o (contents from.journal) (contents to.journal)
unkept-step does contents from to [] why None q k = ap (λ x. contents x.journal) (sym k)
unkept-step {F} {J} does contents from to [] why (Some change) q k =
    subst (λ (x : KeptFolder F J). IsChangeUnkept change why (contents from.journal) (contents x.journal)) k.2 k.1.1
unkept-step {F} {J} does contents from to (a ∷ log) why o q k =
    subst (λ (x : J). IsUnkeptAsSaid why o (contents x) (contents to.journal)) (quiet-step does contents from a k.0 q.0 k.1) (unkept-step does contents k.0 to log why o q.1 k.2)

-- the change of the last event is not begun, or it is
abbrev IsLastBegun : Option HostChange → (old new : Option (List ℕ)) → Type 0
IsLastBegun o old new = AreChangesBegun [] old new ⊎ AreChangesBegun (change_list o ++ []) old new

change-begun : (change : HostChange) (old new : Option (List ℕ)) → IsChangeBegun change old new → IsLastBegun (Some change) old new
change-begun change old new k =
    inr (record { lines = k.line ∷ []; of = (k.of, tt); sure = (k.true, tt); count = k.added.count; added = k.added.added })

last-one : (why : FolderError) (o : Option HostChange) (old new : Option (List ℕ)) → IsUnkeptAsSaid why o old new → IsLastBegun o old new
last-one why None old new k = inl (none-begun old new k)
last-one fault.OutOfMemory (Some change) old new k = inl (none-begun old new k)
last-one fault.Absent (Some change) old new k = change-begun change old new k
last-one fault.Busy (Some change) old new k = change-begun change old new k
last-one fault.Fault (Some change) old new k = change-begun change old new k

-- ---- events

-- the changes of the first events stand in a journal, the last perhaps not to its end
abbrev pub AreFirstBegun : Host → List WireEvent → (old new : Option (List ℕ)) → Type 0
AreFirstBegun h es old new = (n : ℕ) × AreChangesBegun (changes_of h (take n es)) old new

last-event : (h : Host) (e : WireEvent) (old new : Option (List ℕ)) → IsLastBegun (event_change h e) old new → AreFirstBegun h (e ∷ []) old new
last-event h e old new (inl k) = (zero, k)
last-event h e old new (inr k) = (suc zero, k)

last-begun : {F J : Type 0} (does : F → FolderAccess → F → Type 0) (contents : J → Option (List ℕ)) (h : Host) (from to : KeptFolder F J) (why : FolderError) (es : List WireEvent) →
    EventsLead (IsKeptAccess does contents) h from to es → IsLastUnkept why es → AreFirstBegun h es (contents from.journal) (contents to.journal)
last-begun does contents h from to why [] leads last = absurd last
last-begun {F} {J} does contents h from to why (e ∷ []) leads last =
    let log = request_accesses e h (request_asked e.value) in
    let led : AccessesLead (IsKeptAccess does contents) from leads.0 (log ++ keep_accesses (Some why) (event_change h e)) =
    subst (λ (u : Option FolderError). AccessesLead (IsKeptAccess does contents) from leads.0 (log ++ keep_accesses u (event_change h e))) last leads.2 in
    subst (λ (x : KeptFolder F J). AreFirstBegun h (e ∷ []) (contents from.journal) (contents x.journal)) leads.3
    (last-event h e (contents from.journal) (contents leads.0.journal)
    (last-one why (event_change h e) (contents from.journal) (contents leads.0.journal) (unkept-step does contents from leads.0 log why (event_change h e) (quiet-event e h (request_asked e.value)) led)))
last-begun does contents h from to why (e ∷ f ∷ es) leads last =
    let g = (event_served h e).host in
    let rest = last-begun does contents g leads.0 to why (f ∷ es) leads.3 last.1 in
    let one = event-step does contents from leads.0 (request_accesses e h (request_asked e.value)) e.unkept (event_change h e) last.0 (quiet-event e h (request_asked e.value)) leads.2 in
    (suc rest.0, more-begun (event_change h e) (changes_of g (take rest.0 (f ∷ es))) (contents from.journal) (contents leads.0.journal) (contents to.journal) one rest.1)

-- all that they changed is kept, or that of the last is not
abbrev pub AreEnded : List WireEvent → Type 0
AreEnded es = AreKept es ⊎ ((why : FolderError) × IsLastUnkept why es)

pub ended-begun : {F J : Type 0} (does : F → FolderAccess → F → Type 0) (contents : J → Option (List ℕ)) (h : Host) (from to : KeptFolder F J) (es : List WireEvent) →
    EventsLead (IsKeptAccess does contents) h from to es → AreEnded es → AreFirstBegun h es (contents from.journal) (contents to.journal)
ended-begun does contents h from to es leads (inl kept) =
    let all = kept-lines does contents h from to es leads kept in (
      length es,
      subst (λ xs. AreChangesBegun (changes_of h xs) (contents from.journal) (contents to.journal)) (sym (take-length es))
          (all-begun (changes_of h es) (contents from.journal) (contents to.journal) all),
    )
ended-begun does contents h from to es leads (inr last) = last-begun does contents h from to last.0 es leads last.1

-- ---- lines

ended-behind : (e : ServeError) (es fs : List WireEvent) → AreKept es → IsEndedBy e fs → AreEnded (es ++ fs)
ended-behind error.OutOfMemory es fs a (inl b) = inl (kept-append es fs a b)
ended-behind error.OutOfMemory es fs a (inr b) = inr (b.0, last-append b.0 es fs a b.2)
ended-behind error.Unkept es fs a b = inr (b.0, last-append b.0 es fs a b.2)

-- Of what lines ask, as they were heard, so many requests were done, and led the folder; what they changed is kept, or that of the last is not.
pub record AreHeardBegun {F : Type 0} (does : F → FolderAccess → F → Type 0) (lines : List (List ℕ)) (old new : Host) (from to : F) : Type 0 where
  pub heard : List LineHeard
  pub are : AreLinesHeard lines heard
  pub asked : ℕ
  pub whole : new ≡ host_served old (take asked (events_in heard))
  pub leads : EventsLead does old from to (take asked (events_in heard))
  pub ended : AreEnded (take asked (events_in heard))
  pub shallow : AreShallow (events_in heard)

heard-more : (lines : List (List ℕ)) (line : List ℕ) (xs : List LineHeard) (x : LineHeard) → AreLinesHeard lines xs → AreLinesHeard (line ∷ []) (x ∷ []) →
    AreLinesHeard (lines ++ line ∷ []) (xs ++ x ∷ [])
heard-more [] line [] x a b = b
heard-more [] line (y ∷ ys) x a b = absurd a
heard-more (l ∷ lines) line [] x a b = absurd a
heard-more (l ∷ lines) line (y ∷ ys) x a b = (a.0, heard-more lines line ys x a.1 b)

events-more : (xs : List LineHeard) (x : LineHeard) → events_in (xs ++ x ∷ []) ≡ events_in xs ++ events_of x
events-more [] x = append-nil (events_of x)
events-more (y ∷ ys) x = ap (λ es. events_of y ++ es) (events-more ys x) ∙ sym (append_assoc (events_of y) (events_in ys) (events_of x))

pub shallow-take : (n : ℕ) (es : List WireEvent) → AreShallow es → AreShallow (take n es)
shallow-take zero es p = tt
shallow-take (suc n) [] p = tt
shallow-take (suc n) (e ∷ es) p = (p.0, shallow-take n es p.1)

-- no line was begun behind these
front-begun : {F : Type 0} (does : F → FolderAccess → F → Type 0) (lines : List (List ℕ)) (old new : Host) (from to : F) → AreHeard does lines old new from to → AreHeardBegun does lines old new from to
front-begun does lines old new from to k =
    let es = events_in k.heard in
    let all : es ≡ take (length es) es = sym (take-length es) in
    record {
      heard = k.heard;
      are = k.are;
      asked = length es;
      whole = heard-host does lines old new from to k ∙ ap (host_served old) all;
      leads = subst (EventsLead does old from to) all k.leads;
      ended = subst AreEnded all (inl k.kept);
      shallow = k.shallow;
    }

-- one was, and ended early
one-begun : {F : Type 0} (does : F → FolderAccess → F → Type 0) (front : List (List ℕ)) (line : List ℕ) (old mid new : Host) (from between to : F) (e : ServeError) →
    AreHeard does front old mid from between → IsLineCut (CutEventsLead e does mid between to) line mid new → AreHeardBegun does (front ++ line ∷ []) old new from to
one-begun does front line old mid new from between to e k cut =
    let es = events_in k.heard in
    let fs = take cut.count (events_of cut.heard) in
    let events = events-more k.heard cut.heard in
    let first : es ++ fs ≡ take (length es + cut.count) (events_in (k.heard ++ cut.heard ∷ [])) =
    sym (ap (take (length es + cut.count)) events ∙ take-append-add es (events_of cut.heard) cut.count) in
    let served = heard-host does front old mid from between k in
    record {
      heard = k.heard ++ cut.heard ∷ [];
      are = heard-more front line k.heard cut.heard k.are (cut.is, tt);
      asked = length es + cut.count;
      whole = cut.host ∙ ap (λ (h : Host). host_served h fs) served ∙ sym (host-append old es fs) ∙ ap (host_served old) first;
      leads = subst (EventsLead does old from to) first
          (leads-append does old from between to es fs k.leads (subst (λ (h : Host). EventsLead does h between to fs) served cut.leads.0));
      ended = subst AreEnded first (ended-behind e es fs k.kept cut.leads.1);
      shallow = subst AreShallow (sym events) (shallow-append es (events_of cut.heard) k.shallow (line-shallow line cut.heard cut.is));
    }

end-begun : {F : Type 0} (does : F → FolderAccess → F → Type 0) (front begun : List (List ℕ)) (old mid new : Host) (from between to : F) →
    AreHeard does front old mid from between → IsLinesEnd does begun mid new between to → AreHeardBegun does (front ++ begun) old new from to
end-begun {F} does front [] old mid new from between to k end =
    subst (λ ls. AreHeardBegun does ls old new from to) (sym (append-nil front))
    (subst (λ (h : Host). AreHeardBegun does front old h from to) (sym end.0)
    (subst (λ (f : F). AreHeardBegun does front old mid from f) end.1 (front-begun does front old mid from between k)))
end-begun does front (line ∷ []) old mid new from between to k end = one-begun does front line old mid new from between to end.0 k end.1
end-begun does front (line ∷ more ∷ lines) old mid new from between to k end = absurd end

pub heard-begun : {F : Type 0} (does : F → FolderAccess → F → Type 0) (lines : List (List ℕ)) (old new : Host) (from to : F) → AreLinesBegun does lines old new from to →
    AreHeardBegun does lines old new from to
heard-begun does lines old new from to k =
    subst (λ ls. AreHeardBegun does ls old new from to) (sym k.are)
    (end-begun does k.front k.begun old k.mid new from k.between to (lines-heard does k.front old k.mid from k.between k.texts k.served) k.end)
