-- Requests, one after another.
use Rattle.std.proofs.Common.{◌≡◌, ◌<◌, ◌+◌, ℕ, List, [], ◌∷◌, ◌++◌, length, map, take, drop, get_or, false, None, inl, inr, refl, sym, subst, ap, ap₂, ◌∙◌, add-one, append_assoc}
use Rattle.std.proofs.lemmas.List.{map-append, take-append-drop}
use Rattle.std.proofs.Math.Seq.{take-append_seam, take-suc}
use Rattle.std.specs.Prelude.{IfErr, IfOk, OnErr, Result, Ok, Err}
use Rattle.serde_json.specs.Data.{Data}
use Rattle.cpm_slots.specs.Host.{Host}
use Rattle.cpm_serve.specs.DriveFiles.{no_work}
use Rattle.cpm_serve.specs.Folder.{FolderAccess}
use Rattle.cpm_serve.specs.Lines.{AreKept, CutEventsLead, EventsLead, IsEndedBy, IsEndedUnkept, IsLastUnkept, KeptEventsLead, WireEvent, event_reply, event_served, host_served, replies_served}
use Rattle.cpm_serve.specs.Parts.{AreServed, AreServedUpTo, IsEventCut, IsEventServed, IsValueCut, event_of}
use Rattle.cpm_serve.specs.declared.folder.FolderError.{FolderError}
use Rattle.cpm_serve.specs.declared.folder.ServeError.{ServeError}
use Rattle.cpm_serve.specs.declared.folder.ServeError.TheVariants as error

abbrev value_of : WireEvent → Data
value_of e = e.value

pub host-append : (h : Host) (es fs : List WireEvent) → host_served h (es ++ fs) ≡ host_served (host_served h es) fs
host-append h [] fs = refl
host-append h (e ∷ es) fs = host-append (event_served h e).host es fs

pub replies-append : (h : Host) (es fs : List WireEvent) → replies_served h (es ++ fs) ≡ replies_served h es ++ replies_served (host_served h es) fs
replies-append h [] fs = refl
replies-append h (e ∷ es) fs = ap (λ rs. event_reply h e ∷ rs) (replies-append (event_served h e).host es fs)

-- the folder goes on by more events
pub leads-append : {F : Type 0} (does : F → FolderAccess → F → Type 0) (h : Host) (from mid to : F) (es fs : List WireEvent) →
    EventsLead does h from mid es → EventsLead does (host_served h es) mid to fs → EventsLead does h from to (es ++ fs)
leads-append {F} does h from mid to [] fs a b = subst (λ (f : F). EventsLead does h f to fs) (sym a) b
leads-append {F} does h from mid to (e ∷ es) fs a b = (a.0, a.1, a.2, leads-append does (event_served h e).host a.0 mid to es fs a.3 b)

-- what changed is kept of both
pub kept-append : (es fs : List WireEvent) → AreKept es → AreKept fs → AreKept (es ++ fs)
kept-append [] fs a b = b
kept-append (e ∷ es) fs a b = (a.0, kept-append es fs a.1 b)

-- it is not of one more
pub last-append : (why : FolderError) (es fs : List WireEvent) → AreKept es → IsLastUnkept why fs → IsLastUnkept why (es ++ fs)
last-append why [] fs a b = b
last-append why (x ∷ []) [] a b = absurd b
last-append why (x ∷ []) (f ∷ fs) a b = (a.0, b)
last-append why (x ∷ y ∷ es) fs a b = (a.0, last-append why (y ∷ es) fs a.1 b)

unkept-append : (by : ServeError) (es fs : List WireEvent) → AreKept es → IsEndedUnkept by fs → IsEndedUnkept by (es ++ fs)
unkept-append by es fs a (why, is, b) = (why, is, last-append why es fs a b)

ended-append : (by : ServeError) (es : List WireEvent) (e : WireEvent) → AreKept es → IsEndedBy by (e ∷ []) → IsEndedBy by (es ++ e ∷ [])
ended-append error.OutOfMemory es e a (inl b) = inl (kept-append es (e ∷ []) a b)
ended-append error.OutOfMemory es e a (inr b) = inr (unkept-append error.OutOfMemory es (e ∷ []) a b)
ended-append error.Unkept es e a b = unkept-append error.Unkept es (e ∷ []) a b

-- events that no memory was refused to
abbrev plain : List Data → List WireEvent
plain ds = map (λ d. event_of d false [] no_work None) ds

plain-values : (ds : List Data) → map value_of (plain ds) ≡ ds
plain-values [] = refl
plain-values (d ∷ ds) = ap (λ xs. d ∷ xs) (plain-values ds)

-- none was served
pub served-none : (L : List WireEvent → Type 0) (h : Host) → L [] → AreServed L [] h h []
served-none L h none = record { events = []; values = refl; host = refl; replies = refl; leads = none }

one-more_values : (ds : List Data) (d : Data) (events : List WireEvent) (event : WireEvent) → map value_of events ≡ ds → event.value ≡ d → map value_of (events ++ event ∷ []) ≡ ds ++ d ∷ []
one-more_values ds d events event before one =
    map-append value_of events (event ∷ []) ∙ ap₂ (λ (xs : List Data) (x : Data). xs ++ x ∷ []) before one

-- one more was served
pub served-more : {F : Type 0} (does : F → FolderAccess → F → Type 0) (from mid to : F) (ds all : List Data) (d : Data) (rs : List Data) (r : Data) (old h new : Host) →
    AreServed (KeptEventsLead does old from mid) ds old h rs → IsEventServed (KeptEventsLead does h mid to) d h new r → all ≡ ds ++ d ∷ [] →
    AreServed (KeptEventsLead does old from to) all old new (rs ++ r ∷ [])
served-more does from mid to ds all d rs r old h new k one e =
    let event = one.event in
    record {
      events = k.events ++ event ∷ [];
      values = one-more_values ds d k.events event k.values one.value ∙ sym e;
      host = one.host ∙ ap (λ (g : Host). (event_served g event).host) k.host ∙ sym (host-append old k.events (event ∷ []));
      replies = ap₂ (λ (xs : List Data) (x : Data). xs ++ x ∷ []) k.replies (one.replied ∙ ap (λ (g : Host). event_reply g event) k.host) ∙ sym (replies-append old k.events (event ∷ []));
      leads = (
        leads-append does old from mid to k.events (event ∷ []) k.leads.0 (subst (λ (g : Host). EventsLead does g mid to (event ∷ [])) k.host one.leads.0),
        kept-append k.events (event ∷ []) k.leads.1 one.leads.1,
      );
    }

-- one more was served, and then the line ended early
pub cut-at : {F : Type 0} (does : F → FolderAccess → F → Type 0) (by : ServeError) (from mid to : F) (ds all : List Data) (d : Data) (rest rs : List Data) (old h new : Host) →
    AreServed (KeptEventsLead does old from mid) ds old h rs → IsEventCut (CutEventsLead by does h mid to) d h new → all ≡ ds ++ d ∷ rest →
    AreServedUpTo (CutEventsLead by does old from to) all old new
cut-at does by from mid to ds all d rest rs old h new k one e =
    let event = one.event in
    let done = k.events ++ event ∷ [] in
    record {
      events = done ++ plain rest;
      values = map-append value_of done (plain rest) ∙ ap₂ (λ (xs ys : List Data). xs ++ ys) (one-more_values ds d k.events event k.values one.value) (plain-values rest)
          ∙ append_assoc ds (d ∷ []) rest ∙ sym e;
      count = length done;
      host = one.host ∙ ap (λ (g : Host). (event_served g event).host) k.host ∙ sym (host-append old k.events (event ∷ [])) ∙ ap (host_served old) (sym (take-append_seam done (plain rest)));
      leads = subst (CutEventsLead by does old from to) (sym (take-append_seam done (plain rest))) (
        leads-append does old from mid to k.events (event ∷ []) k.leads.0 (subst (λ (g : Host). EventsLead does g mid to (event ∷ [])) k.host one.leads.0),
        ended-append by k.events event k.leads.1 one.leads.1,
      );
    }

pub cut-served : (L : List WireEvent → Type 0) (d r : Data) (h new : Host) → IsEventServed L d h new r → IsEventCut L d h new
cut-served L d r h new k = record { event = k.event; value = k.value; host = k.host; leads = k.leads }

-- the values up to one, it, and those behind it
pub up-to : {A : Type 0} (view : A → Data) (xs : List A) (i : ℕ) (x : A) → i < length xs → x ≡ get_or xs i x → map view (take (i + 1) xs) ≡ map view (take i xs) ++ view x ∷ []
up-to view xs i x within is =
    ap (λ n. map view (take n xs)) (add-one i) ∙ ap (map view) (take-suc xs i x within ∙ ap (λ y. take i xs ++ y ∷ []) (sym is)) ∙ map-append view (take i xs) (x ∷ [])

pub all-values : {A : Type 0} (view : A → Data) (xs : List A) (i : ℕ) (x : A) → i < length xs → x ≡ get_or xs i x → map view xs ≡ map view (take i xs) ++ view x ∷ map view (drop (i + 1) xs)
all-values view xs i x within is =
    ap (map view) (sym (take-append-drop (i + 1) xs)) ∙ map-append view (take (i + 1) xs) (drop (i + 1) xs)
    ∙ ap (λ ds. ds ++ map view (drop (i + 1) xs)) (up-to view xs i x within is)
    ∙ append_assoc (map view (take i xs)) (view x ∷ []) (map view (drop (i + 1) xs))

-- ---- outcomes

-- what was served to its end, where there is no memory for the reply
pub lacked-event : {F : Type 0} (does : F → FolderAccess → F → Type 0) (from to : F) (d : Data) (old new : Host) → IsEventCut (KeptEventsLead does old from to) d old new →
    IsEventCut (CutEventsLead error.OutOfMemory does old from to) d old new
lacked-event does from to d old new k = record { event = k.event; value = k.value; host = k.host; leads = (k.leads.0, inl k.leads.1) }

pub lacked-value : {F : Type 0} (does : F → FolderAccess → F → Type 0) (from to : F) (d : Data) (old new : Host) → IsValueCut (KeptEventsLead does old from to) d old new →
    IsValueCut (CutEventsLead error.OutOfMemory does old from to) d old new
lacked-value does from to d old new k = record { events = k.events; asked = k.asked; count = k.count; host = k.host; leads = (k.leads.0, inl k.leads.1) }

-- what is so where memory is lacking, where nothing else is
pub lacked-cut : {A : Type 0} (r : Result A ServeError) (P : ServeError → Type 0) → IfErr r (λ e. e ≡ error.OutOfMemory) → P error.OutOfMemory → IfErr r P
lacked-cut (Ok x) P is p = tt
lacked-cut (Err e) P is p = subst P (sym is) p

-- what is so of a value that was made
pub made-as : {A E G : Type 0} (r : Result A G) (o : Result A E) (P : A → Type 0) → IfOk r (λ x. o ≡ Ok x) → IfOk o P → IfOk r P
made-as (Ok x) o P is k = subst (λ q. IfOk q P) is k
made-as (Err e) o P is k = tt

pub OnErr-weaker : {A E : Type 0} (r : Result A E) (P Q : Type 0) → (P → Q) → OnErr r P → OnErr r Q
OnErr-weaker (Ok x) P Q f p = tt
OnErr-weaker (Err e) P Q f p = f p
