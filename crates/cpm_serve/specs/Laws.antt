-- The laws of the wire, for every list of lines. All of it is own.
use Rattle.std.specs.Prelude.{⊤, ◌≡◌, ◌<◌, ℕ, List, map, [], ◌∷◌, ◌++◌, Some, Ok, Err}
use Rattle.serde_json.specs.Written.{compact_text}
use Rattle.cpm_flags.specs.declared.regs.Cpu.{Cpu}
use Rattle.cpm_geom.specs.Disk.{Disk}
use Rattle.cpm_machine.specs.MachineState.{MachineState, opened_machine}
use Rattle.cpm_slots.specs.Host.{Host, new_host, slot_at}
use Rattle.cpm_protocol.specs.Replies.{Accepted, Answered, Granted, Opened, Looked, Refused, Text, TurnAnswer, Turned}
use Rattle.cpm_protocol.specs.Requests.{AskedFault, FourNames, Open, WireAsked, Grant, Key, ListTake, Look, Take, Turn, line_asked, request_asked}
use Rattle.cpm_protocol.specs.declared.reply.SessionLook.{SessionLook}
use Rattle.cpm_protocol.specs.declared.request.GrantGoal.TheVariants as goal
use Rattle.cpm_protocol.specs.declared.word.WireRefusal.{WireRefusal}
use Rattle.cpm_serve.specs.Lines.{Asks, Broken, EventsLead, LineHeard, Long, Unread, WireEvent, event_accesses, event_served, events_of}
use Rattle.cpm_serve.specs.Lines.{host_after_line, host_after_lines, host_served}
use Rattle.cpm_serve.specs.Lines.{AreLinesHeard, AreLinesServed, replies_to_lines}
use Rattle.cpm_serve.specs.Own.{OwnRequest, own_replies, own_requests, session_after, session_replies}
use Rattle.cpm_serve.specs.Parts.{AreAskedBy}
use Rattle.cpm_serve.specs.Drives.{drives_read}
use Rattle.cpm_serve.specs.Folder.{FolderAccess, FolderAnswer}
use Rattle.cpm_serve.specs.Served.{served}
use Rattle.cpm_serve.specs.Slot.{turn_bytes}

-- ---- what changes nothing

-- a line that is no request
abbrev pub IsWrongLine : LineHeard → Type 0
IsWrongLine Long = ⊤
IsWrongLine (Broken column) = ⊤
IsWrongLine Unread = ⊤
IsWrongLine (Asks value events) = (fault : AskedFault) × (line_asked value ≡ Err fault) × AreAskedBy value events

abbrev pub WrongLines : Type 0
WrongLines = (h : Host) (x : LineHeard) → IsWrongLine x → host_after_line h x ≡ h

-- A request that is wrong asks the folder nothing, too. One that is wrong or refused, alone or among many, leaves the host.
abbrev pub WrongRequests : Type 0
WrongRequests = (h : Host) (e : WireEvent) (fault : AskedFault) → request_asked e.value ≡ Err fault → ((event_served h e).host ≡ h) × (event_accesses h e ≡ [])

abbrev pub RefusedRequests : Type 0
RefusedRequests = (h : Host) (e : WireEvent) (why : WireRefusal) → (event_served h e).reply ≡ Refused why → (event_served h e).host ≡ h

-- ---- lines and events

-- the events of lines, in order
abbrev pub events_in : List LineHeard → List WireEvent
events_in [] = []
events_in (x ∷ xs) = events_of x ++ events_in xs

-- a host is served lines as it is served their events, however they stand in lines
abbrev pub LinesAreEvents : Type 0
LinesAreEvents = (h : Host) (lines : List LineHeard) → host_after_lines h lines ≡ host_served h (events_in lines)

-- What lines leave of a host, and the texts of their replies, are those of the fold over what each turns out to be. A line more is one step more. The folder
-- went so, by the accesses of all their requests, in order.
pub record IsFold {F : Type 0} (does : F → FolderAccess → F → Type 0) (lines : List (List ℕ)) (old new : Host) (from to : F)
    (texts : List (List ℕ)) : Type 0 where
  pub heard : List LineHeard
  pub are : AreLinesHeard lines heard
  pub host : new ≡ host_after_lines old heard
  pub replies : texts ≡ replies_to_lines old heard
  pub leads : EventsLead does old from to (events_in heard)

abbrev pub Transcripts : {F : Type 0} → (F → FolderAccess → F → Type 0) → Type 0
Transcripts {F} does =
    (lines : List (List ℕ)) (old new : Host) (from to : F) (texts : List (List ℕ)) → AreLinesServed does lines old new from to texts
    → IsFold does lines old new from to texts

-- ---- turns

-- the parts of a turn, as requests
abbrev pub turn_parts : (slot : ℕ) (keys : List ℕ) (steps : ℕ) → List WireAsked
turn_parts slot keys steps = Key slot keys ∷ Grant slot steps goal.Wait ∷ Take slot turn_bytes ∷ ListTake slot turn_bytes ∷ Look slot ∷ []

-- the host after requests, one after another, and their replies
abbrev pub host_behind : Host → List WireAsked → Host
host_behind h [] = h
host_behind h (r ∷ rs) = host_behind (served h r).host rs

abbrev pub answers_of : Host → List WireAsked → List Answered
answers_of h [] = []
answers_of h (r ∷ rs) = (served h r).reply ∷ answers_of (served h r).host rs

-- the reply to a turn, of the members of these
pub record AreTurnParts (t : TurnAnswer) (answers : List Answered) : Type 0 where
  pub look : SessionLook
  pub are : answers ≡ Accepted t.accepted ∷ Granted t.executed t.why ∷ Text t.text ∷ Text t.list ∷ Looked look ∷ []
  pub waiting : look.waiting ≡ t.waiting
  pub end : look.end ≡ t.end

-- a turn of a slot that is open is its parts, one after another
pub record IsTurnOfParts (h : Host) (slot : ℕ) (keys : List ℕ) (steps : ℕ) : Type 0 where
  pub turn : TurnAnswer
  pub reply : (served h (Turn slot keys steps)).reply ≡ Turned turn
  pub parts : AreTurnParts turn (answers_of h (turn_parts slot keys steps))
  pub host : (served h (Turn slot keys steps)).host ≡ host_behind h (turn_parts slot keys steps)

abbrev pub TurnsAreParts : Type 0
TurnsAreParts = (h : Host) (slot : ℕ) (keys : List ℕ) (steps : ℕ) (s : MachineState) → slot_at slot h.slots ≡ Some s → IsTurnOfParts h slot keys steps

-- ---- isolation

-- Whatever is asked on the wire, the replies to a slot's own requests are those of the session by itself, with what the folder answered to these, and so is
-- its state.
abbrev pub WireIsolation : Type 0
WireIsolation = (h : Host) (events : List WireEvent) (id : ℕ) → id < h.openings →
    (own_replies id h events ≡ session_replies h.system (own_requests id events) (slot_at id h.slots))
    × (slot_at id (host_served h events).slots ≡ session_after h.system (own_requests id events) (slot_at id h.slots))

-- the texts of the replies to a slot's own requests
abbrev pub own_texts : ℕ → Host → List WireEvent → List (List ℕ)
own_texts id h events = map compact_text (own_replies id h events)

-- So two transcripts agree on the replies to a slot's own requests, byte for byte, where they agree on those requests, its number left out, on what the folder
-- answered to them, on the slot before and on the system drive: whatever other lines stand between.
abbrev pub TwoTranscripts : Type 0
TwoTranscripts = (h g : Host) (i j : ℕ) (xs ys : List LineHeard) → i < h.openings → j < g.openings → h.system ≡ g.system →
    slot_at i h.slots ≡ slot_at j g.slots → own_requests i (events_in xs) ≡ own_requests j (events_in ys) →
    own_texts i h (events_in xs) ≡ own_texts j g (events_in ys)

-- The replies to a session's own requests are those of the session by itself, from its opening with these drives on: so the folder answered to the opening.
pub record AnswersAlone (system : Disk) (cpu : Cpu) (quota : ℕ) (names : FourNames) (answers : List FolderAnswer) (own : List OwnRequest)
    (texts : List (List ℕ)) : Type 0 where
  pub disks : List Disk
  pub named : (drives_read names answers).drives ≡ Ok disks
  pub replied : texts ≡ map compact_text (session_replies system own (Some (opened_machine cpu quota disks)))

-- The headline. A host is made, and anything is asked; a session is opened, and its number is replied; and anything is asked. The replies to the session's
-- own requests are a function of its opening, these requests, what the folder answered to them, and the system drive.
abbrev pub WireAlone : Type 0
WireAlone = (system : Disk) (frames : ℕ) (before : List WireEvent) (opening : WireEvent) (behind : List WireEvent)
    (cpu : Cpu) (quota : ℕ) (names : FourNames) (id : ℕ) →
    let h = host_served (new_host system frames) before in
    request_asked opening.value ≡ Ok (Open cpu quota names) → (event_served h opening).reply ≡ Opened id →
    AnswersAlone system cpu quota names opening.answers (own_requests id behind) (own_texts id (event_served h opening).host behind)
