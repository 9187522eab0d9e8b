-- The laws of the wire.
use Rattle.std.proofs.Common.{subst, ◌≡◌, ◌<◌, ◌≤◌, ℕ, List, [], ◌∷◌, ◌++◌, true, false, Bool, Option, Some, None, refl, sym, ap, ap₂, ◌∙◌, arith, if◌then◌else◌, length, map}
use Rattle.std.specs.Prelude.{Result, Ok, Err}
use Rattle.std.proofs.lemmas.Bool.{eqb-true}
use Rattle.serde_json.specs.Data.{Data}
use Rattle.serde_json.specs.Written.{compact_text}
use Rattle.cpm_flags.specs.declared.regs.Cpu.{Cpu}
use Rattle.cpm_geom.specs.Disk.{Disk}
use Rattle.cpm_machine.specs.MachineState.{MachineState, opened_machine}
use Rattle.cpm_machine.specs.declared.opening.OpenError.{OpenError}
use Rattle.cpm_slots.specs.Account.{slot_after}
use Rattle.cpm_slots.specs.Host.{AllBelow, Host, new_host, slot_at, after_ask, with_added}
use Rattle.cpm_slots.specs.Serving.{Ask, serve_slot}
use Rattle.cpm_slots.proofs.SlotLaws.{AllBelow-added, AllBelow-with, slot_at-new}
use Rattle.cpm_protocol.specs.Replies.{Opened, reply_json}
use Rattle.cpm_protocol.specs.Requests.{AskedFault, FourNames, Open, WireAsked, request_asked}
use Rattle.cpm_slots.specs.Drives.{open_fault}
use Rattle.cpm_protocol.specs.declared.word.WireRefusal.{WireRefusal}
use Rattle.cpm_serve.specs.Changes.{keep_accesses}
use Rattle.cpm_serve.specs.DriveFiles.{DiskWork}
use Rattle.cpm_serve.specs.Drives.{drives_read, name_count}
use Rattle.cpm_serve.specs.Folder.{FolderAccess, FolderAnswer}
use Rattle.cpm_serve.specs.Laws.{AnswersAlone, IsFold, LinesAreEvents, own_texts, Transcripts, TwoTranscripts, WireAlone, WireIsolation, WrongLines, WrongRequests, events_in}
use Rattle.cpm_serve.specs.Lines.{Asks, Broken, EventsLead, IsLineServed, KeptEventsLead, Long, Unread, WireEvent, event_reply, event_served, events_of, host_after_line, host_after_lines, host_served, replies_to_lines, request_accesses, request_change, request_served, tag_shown, values_asked}
use Rattle.cpm_serve.specs.Own.{OwnRequest, asks_slot, is_own, own_asked, own_replies, own_requests, session_after, session_answer, session_asks, session_replies, unnumbered}
use Rattle.cpm_serve.specs.Served.{Served, added_if, after_asks}
use Rattle.cpm_serve.specs.ServedWith.{opened_if_fit, opened_read, served_with_if}
use Rattle.cpm_serve.specs.Slot.{slot_named}
use Rattle.cpm_serve.proofs.ManyLemmas.{host-append, leads-append}
use Rattle.cpm_serve.proofs.OwnLemmas.{asked-host, asked-reply, asks-openings, not-asked, own-slot, served_if-is}
use Rattle.cpm_serve.proofs.TurnLemmas.{asks-system}

-- ---- what changes nothing

no-events : (xs : List WireEvent) → map (λ e. e.value) xs ≡ [] → xs ≡ []
no-events [] e = refl
no-events (x ∷ xs) e = cc

pub wrong-lines : WrongLines
wrong-lines h Long w = refl
wrong-lines h (Broken column) w = refl
wrong-lines h Unread w = refl
wrong-lines h (Asks value events) w =
    let none : map (λ (e : WireEvent). e.value) events ≡ [] = w.2 ∙ ap (values_asked value) w.1 in
    ap (host_served h) (no-events events none)

pub wrong-requests : WrongRequests
wrong-requests h e fault wrong =
    (ap (λ r. (request_served e h r).host) wrong, ap (λ r. request_accesses e h r ++ keep_accesses e.unkept (request_change e h r)) wrong)

-- ---- lines and events

pub lines-are-events : LinesAreEvents
lines-are-events h [] = refl
lines-are-events h (x ∷ xs) = lines-are-events (host_after_line h x) xs ∙ sym (host-append h (events_of x) (events_in xs))

transcripts-one : {F : Type 0} (does : F → FolderAccess → F → Type 0) (line text : List ℕ) (lines texts : List (List ℕ)) (old h new : Host) (from mid to : F) →
    IsLineServed (KeptEventsLead does old from mid) line old h text → IsFold does lines h new mid to texts → IsFold does (line ∷ lines) old new from to (text ∷ texts)
transcripts-one does line text lines texts old h new from mid to one k = record {
  heard = one.heard ∷ k.heard;
  are = (one.is, k.are);
  host = k.host ∙ ap (λ (g : Host). host_after_lines g k.heard) one.host;
  replies = ap₂ (λ (t : List ℕ) (ts : List (List ℕ)). t ∷ ts) one.reply (k.replies ∙ ap (λ (g : Host). replies_to_lines g k.heard) one.host);
  leads = leads-append does old from mid to (events_of one.heard) (events_in k.heard) one.leads.0
      (subst (λ (g : Host). EventsLead does g mid to (events_in k.heard)) one.host k.leads);
}

pub transcripts : {F : Type 0} (does : F → FolderAccess → F → Type 0) → Transcripts does
transcripts does [] old new from to [] e = record { heard = []; are = tt; host = e.0; replies = refl; leads = e.1 }
transcripts does [] old new from to (text ∷ texts) e = absurd e
transcripts does (line ∷ lines) old new from to [] e = absurd e
transcripts does (line ∷ lines) old new from to (text ∷ texts) e =
    transcripts-one does line text lines texts old e.0 new from e.1 to e.2 (transcripts does lines e.0 new e.1 to texts e.3)

-- ---- one event

-- what an event may do to a host
event-is : (h : Host) (e : WireEvent) (r : Result WireAsked AskedFault) (P : Host → Type 0) → P h → ((s : MachineState) → P (with_added h s)) → ((id : ℕ) (asks : List Ask) → P (after_asks id asks h)) →
    P (request_served e h r).host
event-is h e (Ok r) P same more asked = served_if-is h e.lacked e.answers e.made r P same more (λ id asks is. asked id asks)
event-is h e (Err fault) P same more asked = same

event-system : (h : Host) (e : WireEvent) → (event_served h e).host.system ≡ h.system
event-system h e = event-is h e (request_asked e.value) (λ g. g.system ≡ h.system) refl (λ s. refl) (λ id asks. asks-system id asks h)

event-openings : (h : Host) (e : WireEvent) → h.openings ≤ (event_served h e).host.openings
event-openings h e =
    event-is h e (request_asked e.value) (λ g. h.openings ≤ g.openings) (omega arith) (λ s. omega arith)
    (λ id asks. let same = asks-openings id asks h in omega (arith, same))

-- an event of another slot leaves this one
other-event : (id : ℕ) (h : Host) (e : WireEvent) (r : Result WireAsked AskedFault) → id < h.openings → is_own id r ≡ false → slot_at id (request_served e h r).host.slots ≡ slot_at id h.slots
other-event id h e (Ok r) below other = not-asked id h e.lacked e.answers e.made r below other
other-event id h e (Err fault) below other = refl

asked-of : (id : ℕ) (o : Option ℕ) → asks_slot id o ≡ true → o ≡ Some id
asked-of id None e = cc
asked-of id (Some slot) e = ap Some (eqb-true slot id e)

-- the request that an own event is
abbrev own_request : WireEvent → WireAsked → OwnRequest
own_request e r = record { tag = tag_shown e.value; lacked = e.lacked; answers = e.answers; asked = unnumbered r }

-- the state of the slot behind an own event, and its reply, are those of the session by itself
own-state : (id : ℕ) (h : Host) (e : WireEvent) (r : WireAsked) → slot_named r ≡ Some id →
    slot_at id (served_with_if e.lacked h e.answers e.made r).host.slots ≡ slot_after h.system (session_asks h.system (own_request e r) (slot_at id h.slots)) (slot_at id h.slots)
own-state id h e r of =
    ap (λ (g : Host). slot_at id g.slots) (asked-host h e.lacked e.answers e.made r id of) ∙ own-slot id (session_asks h.system (own_request e r) (slot_at id h.slots)) h

-- ---- isolation

abbrev IsIsolated : ℕ → Host → List WireEvent → Type 0
IsIsolated id h events =
    (own_replies id h events ≡ session_replies h.system (own_requests id events) (slot_at id h.slots))
    × (slot_at id (host_served h events).slots ≡ session_after h.system (own_requests id events) (slot_at id h.slots))

isolated-more : (id : ℕ) (h : Host) (e : WireEvent) (es : List WireEvent) (r : Result WireAsked AskedFault) (own : Bool) → request_asked e.value ≡ r → is_own id r ≡ own → id < h.openings →
    IsIsolated id (event_served h e).host es →
    ((if own then event_reply h e ∷ [] else []) ++ own_replies id (event_served h e).host es ≡ session_replies h.system ((if own then own_asked e r else []) ++ own_requests id es) (slot_at id h.slots))
    × (slot_at id (host_served (event_served h e).host es).slots ≡ session_after h.system ((if own then own_asked e r else []) ++ own_requests id es) (slot_at id h.slots))
isolated-more id h e es r false is other below k =
    let g = (event_served h e).host in
    let system = event-system h e in
    let same : slot_at id g.slots ≡ slot_at id h.slots = ap (λ q. slot_at id (request_served e h q).host.slots) is ∙ other-event id h e r below other in (
      k.0 ∙ ap₂ (λ (d : Disk) (o : Option MachineState). session_replies d (own_requests id es) o) system same,
      k.1 ∙ ap₂ (λ (d : Disk) (o : Option MachineState). session_after d (own_requests id es) o) system same,
    )
isolated-more id h e es (Err fault) true is own below k = absurd cc
isolated-more id h e es (Ok r) true is own below k =
    let g = (event_served h e).host in
    let o = slot_at id h.slots in
    let x = own_request e r in
    let system = event-system h e in
    let of = asked-of id (slot_named r) own in
    let now : slot_at id g.slots ≡ slot_after h.system (session_asks h.system x o) o = ap (λ q. slot_at id (request_served e h q).host.slots) is ∙ own-state id h e r of in
    let first : event_reply h e ≡ reply_json x.tag (session_answer h.system x o) =
    ap (reply_json (tag_shown e.value)) (ap (λ q. (request_served e h q).reply) is ∙ asked-reply h e.lacked e.answers e.made r id of) in (
      ap₂ (λ (d : Data) (ds : List Data). d ∷ ds) first (k.0 ∙ ap₂ (λ (d : Disk) (p : Option MachineState). session_replies d (own_requests id es) p) system now),
      k.1 ∙ ap₂ (λ (d : Disk) (p : Option MachineState). session_after d (own_requests id es) p) system now,
    )

pub wire-isolation : WireIsolation
wire-isolation h [] id below = (refl, refl)
wire-isolation h (e ∷ es) id below =
    let more = event-openings h e in
    isolated-more id h e es (request_asked e.value) (is_own id (request_asked e.value)) refl refl below (wire-isolation (event_served h e).host es id (omega (arith, below, more)))

pub two-transcripts : TwoTranscripts
two-transcripts h g i j xs ys hi gj system slot asks =
    ap (map compact_text) ((wire-isolation h (events_in xs) i hi).0 ∙ rw (system, slot, asks) (sym (wire-isolation g (events_in ys) j gj).0))

-- ---- the headline

AllBelow-asks : (id : ℕ) (asks : List Ask) (h : Host) → AllBelow h.openings h.slots → AllBelow (after_asks id asks h).openings (after_asks id asks h).slots
AllBelow-asks id [] h b = b
AllBelow-asks id (x ∷ xs) h b = AllBelow-asks id xs (after_ask h id x) (AllBelow-with h.openings id (serve_slot h.system x (slot_at id h.slots)).slot h.slots b)

AllBelow-event : (h : Host) (e : WireEvent) → AllBelow h.openings h.slots → AllBelow (event_served h e).host.openings (event_served h e).host.slots
AllBelow-event h e b =
    event-is h e (request_asked e.value) (λ g. AllBelow g.openings g.slots) b (λ s. AllBelow-added h.openings s h.slots b) (λ id asks. AllBelow-asks id asks h b)

pub AllBelow-events : (h : Host) (events : List WireEvent) → AllBelow h.openings h.slots → AllBelow (host_served h events).openings (host_served h events).slots
AllBelow-events h [] b = b
AllBelow-events h (e ∷ es) b = AllBelow-events (event_served h e).host es (AllBelow-event h e b)

pub system-served : (h : Host) (events : List WireEvent) → (host_served h events).system ≡ h.system
system-served h [] = refl
system-served h (e ∷ es) = system-served (event_served h e).host es ∙ event-system h e

asks-frames : (id : ℕ) (asks : List Ask) (h : Host) → (after_asks id asks h).frames ≡ h.frames
asks-frames id [] h = refl
asks-frames id (x ∷ xs) h = asks-frames id xs (after_ask h id x)

event-frames : (h : Host) (e : WireEvent) → (event_served h e).host.frames ≡ h.frames
event-frames h e = event-is h e (request_asked e.value) (λ g. g.frames ≡ h.frames) refl (λ s. refl) (λ id asks. asks-frames id asks h)

pub frames-served : (h : Host) (events : List WireEvent) → (host_served h events).frames ≡ h.frames
frames-served h [] = refl
frames-served h (e ∷ es) = frames-served (event_served h e).host es ∙ event-frames h e

-- an opening that is replied a number is of known disks, and adds its slot
opened-by_fault : (h : Host) (fault : Option OpenError) (s : MachineState) (id : ℕ) (behind : List WireEvent) → AllBelow h.openings h.slots → (added_if fault h s).reply ≡ Opened id →
    own_replies id (added_if fault h s).host behind ≡ session_replies h.system (own_requests id behind) (Some s)
opened-by_fault h None s id behind below said =
    let number : h.openings ≡ id = cc in
    subst (λ n. own_replies n (with_added h s) behind ≡ session_replies h.system (own_requests n behind) (Some s)) number
    ((wire-isolation (with_added h s) behind h.openings (omega arith)).0
    ∙ ap (session_replies h.system (own_requests h.openings behind)) (slot_at-new h.openings s h.slots below))
opened-by_fault h (Some fault) s id behind below said = absurd cc

opened-by_read : (h : Host) (cpu : Cpu) (quota : ℕ) (names : FourNames) (answers : List FolderAnswer) (r : Result (List Disk) WireRefusal) (id : ℕ) (behind : List WireEvent) →
    (drives_read names answers).drives ≡ r → AllBelow h.openings h.slots → (opened_read h cpu quota r).reply ≡ Opened id →
    AnswersAlone h.system cpu quota names answers (own_requests id behind) (own_texts id (opened_read h cpu quota r).host behind)
opened-by_read h cpu quota names answers (Err why) id behind is below said = absurd cc
opened-by_read h cpu quota names answers (Ok disks) id behind is below said = record {
  disks = disks;
  named = is;
  replied = ap (map compact_text) (opened-by_fault h (open_fault h quota (length disks)) (opened_machine cpu quota disks) id behind below said);
}

opened-by_fit : (h : Host) (f : Option OpenError) (cpu : Cpu) (quota : ℕ) (names : FourNames) (answers : List FolderAnswer) (id : ℕ) (behind : List WireEvent) → AllBelow h.openings h.slots →
    (opened_if_fit f h cpu quota (drives_read names answers)).reply ≡ Opened id →
    AnswersAlone h.system cpu quota names answers (own_requests id behind) (own_texts id (opened_if_fit f h cpu quota (drives_read names answers)).host behind)
opened-by_fit h None cpu quota names answers id behind below said =
    opened-by_read h cpu quota names answers (drives_read names answers).drives id behind refl below said
opened-by_fit h (Some fault) cpu quota names answers id behind below said = absurd cc

opened-by_event : (h : Host) (lacked : Bool) (answers : List FolderAnswer) (made : DiskWork) (cpu : Cpu) (quota : ℕ) (names : FourNames) (id : ℕ) (behind : List WireEvent) → AllBelow h.openings h.slots →
    (served_with_if lacked h answers made (Open cpu quota names)).reply ≡ Opened id →
    AnswersAlone h.system cpu quota names answers (own_requests id behind) (own_texts id (served_with_if lacked h answers made (Open cpu quota names)).host behind)
opened-by_event h true answers made cpu quota names id behind below said = absurd cc
opened-by_event h false answers made cpu quota names id behind below said =
    opened-by_fit h (open_fault h quota (name_count names)) cpu quota names answers id behind below said

pub wire-alone : WireAlone
wire-alone system frames before opening behind cpu quota names id asked said =
    let new = new_host system frames in
    let h = host_served new before in
    let lacked = opening.lacked in
    let answers = opening.answers in
    let is : request_served opening h (request_asked opening.value) ≡ served_with_if lacked h answers opening.made (Open cpu quota names) = ap (request_served opening h) asked in
    let reply : (served_with_if lacked h answers opening.made (Open cpu quota names)).reply ≡ Opened id = ap (λ (x : Served). x.reply) (sym is) ∙ said in
    let below = AllBelow-events new before tt in
    subst (λ (d : Disk). AnswersAlone d cpu quota names answers (own_requests id behind) (own_texts id (event_served h opening).host behind)) (system-served new before)
    (subst (λ (x : Served). AnswersAlone h.system cpu quota names answers (own_requests id behind) (own_texts id x.host behind)) (sym is)
    (opened-by_event h lacked answers opening.made cpu quota names id behind below reply))
