-- A line, by its value.
use Rattle.std.proofs.Common.{◌≡◌, ◌<◌, ◌≤◌, ◌||◌, ℕ, List, [], ◌∷◌, length, map, take, false, Option, Some, None, refl, sym, subst, ap, ◌∙◌}
use Rattle.std.specs.Prelude.{IsUtf8, Result, Ok, Err}
use Rattle.serde_json.specs.Data.{Data, Items}
use Rattle.serde_json.specs.Read.{read}
use Rattle.serde_json.specs.View.{items_of, items_view, view}
use Rattle.serde_json.specs.Written.{compact_text, has_float, items_have_float}
use Rattle.serde_json.specs.declared.value.Value.{Value}
use Rattle.cpm_slots.specs.Host.{Host}
use Rattle.cpm_protocol.proofs.FlatLemmas.{reply-no_float}
use Rattle.cpm_protocol.specs.Replies.{Wrong, many_json, reply_json}
use Rattle.cpm_protocol.specs.Requests.{AskedFault, AskedTag, IsLineRefusal, NumberTag, TextTag, LineAsked, Many, One, WireAsked, line_asked}
use Rattle.cpm_protocol.specs.declared.fault.LineError.{LineError}
use Rattle.cpm_protocol.specs.declared.fault.LineError.TheVariants as unread
use Rattle.cpm_serve.specs.Lines.{Asks, Broken, Long, Unread, IsLineCut, IsLineServed, WireEvent, event_reply, event_served, host_served, line_reply, most_line, only_reply, replies_served}
use Rattle.cpm_serve.specs.Lines.{tag_shown, values_asked, values_of}
use Rattle.cpm_serve.specs.Parts.{AreServed, AreServedUpTo, IsEventCut, IsEventServed, IsTextServed, IsValueCut, IsValueServed, unread_answer}

abbrev pub asked_as : LineAsked → Result LineAsked AskedFault
asked_as x = Ok x

abbrev pub wrong_as : AskedFault → Result LineAsked AskedFault
wrong_as fault = Err fault

-- ---- one request

pub one-served : (L : List WireEvent → Type 0) (d : Data) (r : WireAsked) (old new : Host) (made : Data) → asked_as (One r) ≡ line_asked d → IsEventServed L d old new made → IsValueServed L d old new made
one-served L d r old new made e k =
    let event = k.event in
    record {
      events = event ∷ [];
      asked = ap (λ (x : Data). x ∷ []) k.value ∙ ap (values_asked d) e;
      host = k.host;
      leads = k.leads;
      reply = k.replied ∙ ap (λ q. line_reply d q (event_reply old event ∷ [])) e;
    }

pub one-cut : (L : List WireEvent → Type 0) (d : Data) (r : WireAsked) (old new : Host) → asked_as (One r) ≡ line_asked d → IsEventCut L d old new → IsValueCut L d old new
one-cut L d r old new e k = record {
  events = k.event ∷ [];
  asked = ap (λ (x : Data). x ∷ []) k.value ∙ ap (values_asked d) e;
  count = 1;
  host = k.host;
  leads = k.leads;
}

-- ---- many

values-viewed : (vs : List Value) → values_of (items_view vs) ≡ map view vs
values-viewed [] = refl
values-viewed (v ∷ vs) = ap (λ ds. view v ∷ ds) (values-viewed vs)

many-asked : (d : Data) (vs : List Value) (events : List WireEvent) → asked_as (Many (items_view vs)) ≡ line_asked d → map (λ e. e.value) events ≡ map view vs → map (λ e. e.value) events ≡ values_asked d (line_asked d)
many-asked d vs events e same = same ∙ sym (values-viewed vs) ∙ ap (values_asked d) e

pub many-served : (L : List WireEvent → Type 0) (d : Data) (vs rs : List Value) (old new : Host) (made : Data) → asked_as (Many (items_view vs)) ≡ line_asked d → AreServed L (map view vs) old new (map view rs) →
    made ≡ many_json (tag_shown d) (items_view rs) → IsValueServed L d old new made
many-served L d vs rs old new made e k is = record {
  events = k.events;
  asked = many-asked d vs k.events e k.values;
  host = k.host;
  leads = k.leads;
  reply = is ∙ ap (λ ds. many_json (tag_shown d) (items_of ds)) k.replies ∙ ap (λ q. line_reply d q (replies_served old k.events)) e;
}

pub many-cut : (L : List WireEvent → Type 0) (d : Data) (vs : List Value) (old new : Host) → asked_as (Many (items_view vs)) ≡ line_asked d → AreServedUpTo L (map view vs) old new → IsValueCut L d old new
many-cut L d vs old new e k = record { events = k.events; asked = many-asked d vs k.events e k.values; count = k.count; host = k.host; leads = k.leads }

take-whole : (es : List WireEvent) → take (length es) es ≡ es
take-whole [] = refl
take-whole (e ∷ es) = ap (λ xs. e ∷ xs) (take-whole es)

pub many-kept : (L : List WireEvent → Type 0) (d : Data) (vs rs : List Value) (old new : Host) → asked_as (Many (items_view vs)) ≡ line_asked d → AreServed L (map view vs) old new (map view rs) → IsValueCut L d old new
many-kept L d vs rs old new e k = record {
  events = k.events;
  asked = many-asked d vs k.events e k.values;
  count = length k.events;
  host = k.host ∙ ap (host_served old) (sym (take-whole k.events));
  leads = subst L (sym (take-whole k.events)) k.leads;
}

-- ---- a wrong one

pub wrong-served : (L : List WireEvent → Type 0) → L [] → (d : Data) (fault : AskedFault) (old : Host) (made : Data) → wrong_as fault ≡ line_asked d → made ≡ reply_json (tag_shown d) (Wrong fault) → IsValueServed L d old old made
wrong-served L none d fault old made e is = record { events = []; asked = ap (values_asked d) e; host = refl; leads = none; reply = is ∙ ap (λ q. line_reply d q []) e }

pub wrong-cut : (L : List WireEvent → Type 0) → L [] → (d : Data) (fault : AskedFault) (old : Host) → wrong_as fault ≡ line_asked d → IsValueCut L d old old
wrong-cut L none d fault old e = record { events = []; asked = ap (values_asked d) e; count = 0; host = refl; leads = none }

-- ---- texts

replies-no_float : (h : Host) (es : List WireEvent) → items_have_float (items_of (replies_served h es)) ≡ false
replies-no_float h [] = refl
replies-no_float h (e ∷ es) =
    ap (λ b. b || items_have_float (items_of (replies_served (event_served h e).host es))) (reply-no_float (tag_shown e.value) (event_served h e).reply)
    ∙ replies-no_float (event_served h e).host es

many-no_float : (tag : Option AskedTag) (items : Items) → items_have_float items ≡ false → has_float (many_json tag items) ≡ false
many-no_float None items h = ap (λ b. b || false) h
many-no_float (Some (NumberTag n)) items h = ap (λ b. b || false) h
many-no_float (Some (TextTag t)) items h = ap (λ b. b || false) h

only-no_float : (h : Host) (es : List WireEvent) → has_float (only_reply (replies_served h es)) ≡ false
only-no_float h [] = refl
only-no_float h (e ∷ es) = reply-no_float (tag_shown e.value) (event_served h e).reply

line-no_float : (d : Data) (q : Result LineAsked AskedFault) (h : Host) (es : List WireEvent) → has_float (line_reply d q (replies_served h es)) ≡ false
line-no_float d (Ok (One r)) h es = only-no_float h es
line-no_float d (Ok (Many items)) h es = many-no_float (tag_shown d) (items_of (replies_served h es)) (replies-no_float h es)
line-no_float d (Err fault) h es = reply-no_float (tag_shown d) (Wrong fault)

pub served-text : (L : List WireEvent → Type 0) (d made : Data) (text : List ℕ) (old new : Host) → IsValueServed L d old new made → (has_float made ≡ false → text ≡ compact_text made) → IsTextServed L d old new text
served-text L d made text old new k said = record {
  events = k.events;
  asked = k.asked;
  host = k.host;
  leads = k.leads;
  reply = said (ap has_float k.reply ∙ line-no_float d (line_asked d) old k.events) ∙ ap compact_text k.reply;
}

-- a value that was served, and for whose text there was no memory
pub kept-value : (L : List WireEvent → Type 0) (d made : Data) (old new : Host) → IsValueServed L d old new made → IsValueCut L d old new
kept-value L d made old new k = record { events = k.events; asked = k.asked; count = length k.events; host = k.host ∙ ap (host_served old) (sym (take-whole k.events)); leads = subst L (sym (take-whole k.events)) k.leads }

-- ---- a line of bytes

pub served-line : (L : List WireEvent → Type 0) (line : List ℕ) (d : Data) (text : List ℕ) (old new : Host) → length line ≤ most_line → IsUtf8 line × (read line ≡ Some d) → IsTextServed L d old new text → IsLineServed L line old new text
served-line L line d text old new few is k = record { heard = Asks d k.events; is = (few, is.0, is.1, k.asked); host = k.host; reply = k.reply; leads = k.leads }

pub cut-line : (L : List WireEvent → Type 0) (line : List ℕ) (d : Data) (old new : Host) → length line ≤ most_line → IsUtf8 line × (read line ≡ Some d) → IsValueCut L d old new → IsLineCut L line old new
cut-line L line d old new few is k = record { heard = Asks d k.events; is = (few, is.0, is.1, k.asked); count = k.count; host = k.host; leads = k.leads }

pub unread-served : (L : List WireEvent → Type 0) → L [] → (line : List ℕ) (error : LineError) (text : List ℕ) (old : Host) → length line ≤ most_line → IsLineRefusal line error → text ≡ compact_text (reply_json None (unread_answer error)) → IsLineServed L line old old text
unread-served L none line (unread.NoJson at) text old few is e = record { heard = Broken at; is = (few, is); host = refl; reply = e; leads = none }
unread-served L none line unread.OutOfMemory text old few is e = record { heard = Unread; is = (few, is); host = refl; reply = e; leads = none }

pub long-cut : (L : List WireEvent → Type 0) → L [] → (line : List ℕ) (old : Host) → most_line < length line → IsLineCut L line old old
long-cut L none line old many = record { heard = Long; is = many; count = 0; host = refl; leads = none }

pub unread-cut : (L : List WireEvent → Type 0) → L [] → (line : List ℕ) (error : LineError) (old : Host) → length line ≤ most_line → IsLineRefusal line error → IsLineCut L line old old
unread-cut L none line (unread.NoJson at) old few is = record { heard = Broken at; is = (few, is); count = 0; host = refl; leads = none }
unread-cut L none line unread.OutOfMemory old few is = record { heard = Unread; is = (few, is); count = 0; host = refl; leads = none }
