-- A request, as an event of its value.
use Rattle.std.proofs.Common.{◌≡◌, ◌∙◌, [], ◌∷◌, ◌++◌, List, Bool, false, Option, Some, None, inr, refl, sym, subst, ap}
use Rattle.std.specs.Prelude.{Result, Ok, Err}
use Rattle.serde_json.specs.Data.{Data}
use Rattle.cpm_slots.specs.Host.{Host}
use Rattle.cpm_protocol.specs.Replies.{Answered, Wrong, reply_json}
use Rattle.cpm_protocol.specs.Requests.{AskedFault, WireAsked, request_asked}
use Rattle.cpm_serve.specs.Changes.{kept_change, keep_accesses, unkept_error}
use Rattle.cpm_serve.specs.DriveFiles.{no_work}
use Rattle.cpm_serve.specs.Folder.{AccessesLead, AreNoFolderWrites, FolderAccess}
use Rattle.cpm_serve.specs.Lines.{CutEventsLead, EventsLead, IsEndedBy, IsLastUnkept, IsRequestTrue, KeptEventsLead, WireEvent, event_served, request_accesses, request_change, request_served, tag_shown}
use Rattle.cpm_serve.specs.Parts.{IsEventCut, IsEventDone, IsEventServed, event_of}
use Rattle.cpm_serve.specs.Served.{IsRequestServed, Served, outcome, served_if}
use Rattle.cpm_serve.specs.ServedWith.{IsDiskWork, IsRequestServedWith, accesses_of, served_with_if}
use Rattle.cpm_serve.specs.declared.folder.FolderError.{FolderError}
use Rattle.cpm_serve.specs.declared.folder.FolderError.TheVariants as fault

abbrev pub request_read : WireAsked → Result WireAsked AskedFault
request_read r = Ok r

abbrev pub request_wrong : AskedFault → Result WireAsked AskedFault
request_wrong fault = Err fault

-- a request that needs no file
pub plain-with : {F : Type 0} (does : F → FolderAccess → F → Type 0) (r : WireAsked) (old new : Host) (from : F) (a : Answered) →
    IsRequestServed r old new a → ((lacked : Bool) → served_if lacked old r ≡ served_with_if lacked old [] no_work r) → accesses_of old [] no_work r ≡ [] → IsDiskWork r [] no_work →
    IsRequestServedWith (AccessesLead does from from) r old new a
plain-with does r old new from a k same none work = record {
  lacked = k.lacked;
  answers = [];
  made = no_work;
  work = work;
  served = k.served ∙ same k.lacked;
  leads = subst (AccessesLead does from from) (sym none) refl;
  unwritten = λ e. subst AreNoFolderWrites (sym none) tt;
}

-- the folder goes on by more accesses
pub accesses-append : {F : Type 0} (does : F → FolderAccess → F → Type 0) (from mid to : F) (xs ys : List FolderAccess) →
    AccessesLead does from mid xs → AccessesLead does mid to ys → AccessesLead does from to (xs ++ ys)
accesses-append {F} does from mid to [] ys a b = subst (λ (f : F). AccessesLead does f to ys) (sym a) b
accesses-append {F} does from mid to (x ∷ xs) ys a b = (a.0, a.1, accesses-append does a.0 mid to xs ys a.2 b)

-- it was done, and then kept or not
done-leads : {F : Type 0} (does : F → FolderAccess → F → Type 0) (d : Data) (r : WireAsked) (old new : Host) (from mid to : F) (a : Answered) (unkept : Option FolderError) →
    request_read r ≡ request_asked d → (k : IsRequestServedWith (AccessesLead does from mid) r old new a) →
    AccessesLead does mid to (keep_accesses unkept (kept_change d r (outcome new a))) →
    EventsLead does old from to (event_of d k.lacked k.answers k.made unkept ∷ [])
done-leads does d r old new from mid to a unkept e k kept =
    let event = event_of d k.lacked k.answers k.made unkept in (
      to,
      subst (λ q. IsRequestTrue event old q) e (k.work, k.unwritten),
      subst (λ q. AccessesLead does from to (request_accesses event old q ++ keep_accesses unkept (request_change event old q))) e
          (accesses-append does from mid to (accesses_of old k.answers k.made r) (keep_accesses unkept (kept_change d r (served_with_if k.lacked old k.answers k.made r))) k.leads
          (subst (λ (x : Served). AccessesLead does mid to (keep_accesses unkept (kept_change d r x))) k.served kept)),
      refl,
    )

pub event-done : {F : Type 0} (does : F → FolderAccess → F → Type 0) (d : Data) (r : WireAsked) (old new : Host) (from mid to : F) (a : Answered) →
    request_read r ≡ request_asked d → IsRequestServedWith (AccessesLead does from mid) r old new a →
    AccessesLead does mid to (keep_accesses None (kept_change d r (outcome new a))) → IsEventDone (KeptEventsLead does old from to) d old new a
event-done does d r old new from mid to a e k kept =
    let event = event_of d k.lacked k.answers k.made None in
    record {
      event = event;
      value = refl;
      host = ap (λ (x : Served). x.host) k.served ∙ ap (λ q. (request_served event old q).host) e;
      answered = ap (λ (x : Served). x.reply) k.served ∙ ap (λ q. (request_served event old q).reply) e;
      leads = (done-leads does d r old new from mid to a None e k kept, (refl, tt));
    }

-- a line ends so, where the last of what it asks is not kept
unkept-ended : (why : FolderError) (es : List WireEvent) → IsLastUnkept why es → IsEndedBy (unkept_error why) es
unkept-ended fault.Absent es k = (fault.Absent, refl, k)
unkept-ended fault.Busy es k = (fault.Busy, refl, k)
unkept-ended fault.Fault es k = (fault.Fault, refl, k)
unkept-ended fault.OutOfMemory es k = inr (fault.OutOfMemory, refl, k)

pub event-unkept : {F : Type 0} (does : F → FolderAccess → F → Type 0) (d : Data) (r : WireAsked) (old new : Host) (from mid to : F) (a : Answered) (why : FolderError) →
    request_read r ≡ request_asked d → IsRequestServedWith (AccessesLead does from mid) r old new a →
    AccessesLead does mid to (keep_accesses (Some why) (kept_change d r (outcome new a))) → IsEventCut (CutEventsLead (unkept_error why) does old from to) d old new
event-unkept does d r old new from mid to a why e k kept =
    let event = event_of d k.lacked k.answers k.made (Some why) in
    record {
      event = event;
      value = refl;
      host = ap (λ (x : Served). x.host) k.served ∙ ap (λ q. (request_served event old q).host) e;
      leads = (done-leads does d r old new from mid to a (Some why) e k kept, unkept-ended why (event ∷ []) refl);
    }

pub event-served : (L : List WireEvent → Type 0) (d : Data) (old new : Host) (a : Answered) (reply : Data) → IsEventDone L d old new a → reply ≡ reply_json (tag_shown d) a →
    IsEventServed L d old new reply
event-served L d old new a reply k is = record {
  event = k.event;
  value = k.value;
  host = k.host;
  replied = is ∙ ap (reply_json (tag_shown d)) k.answered ∙ ap (λ (v : Data). reply_json (tag_shown v) (event_served old k.event).reply) (sym k.value);
  leads = k.leads;
}

pub event-wrong : {F : Type 0} (does : F → FolderAccess → F → Type 0) (d : Data) (fault : AskedFault) (old : Host) (from : F) (reply : Data) →
    request_wrong fault ≡ request_asked d → reply ≡ reply_json (tag_shown d) (Wrong fault) → IsEventServed (KeptEventsLead does old from from) d old old reply
event-wrong does d fault old from reply e is =
    let event = event_of d false [] no_work None in
    record {
      event = event;
      value = refl;
      host = ap (λ q. (request_served event old q).host) e;
      replied = is ∙ ap (reply_json (tag_shown d)) (ap (λ q. (request_served event old q).reply) e);
      leads = (
        (
          from,
          subst (λ q. IsRequestTrue event old q) e tt,
          subst (λ q. AccessesLead does from from (request_accesses event old q ++ keep_accesses None (request_change event old q))) e refl,
          refl,
        ),
        (refl, tt),
      );
    }
