-- What a line does to a host, and the text of its reply. All of it is own: docs/PROTOCOL.md.
use Rattle.std.specs.Prelude.{⊤, ◌≡◌, ◌⊎◌, ◌<◌, ◌≤◌, IsUtf8, ℕ, Bool, true, List, [], ◌∷◌, ◌++◌, length, map, take, Option, Some, None, Result, Ok, Err}
use Rattle.serde_json.specs.Data.{Data, null, Items, no_items, item}
use Rattle.serde_json.specs.Read.{read}
use Rattle.serde_json.specs.View.{items_of}
use Rattle.serde_json.specs.Written.{compact_text}
use Rattle.cpm_protocol.specs.Replies.{NoJson, Refused, TooLong, Wrong, many_json, reply_json}
use Rattle.cpm_protocol.specs.Requests.{AskedFault, AskedTag, LineAsked, One, Many, WireAsked, asked_tag, line_asked, request_asked}
use Rattle.cpm_protocol.specs.declared.fault.FieldFault.{FieldFault}
use Rattle.cpm_protocol.specs.declared.word.WireRefusal.TheVariants as refusal
use Rattle.cpm_slots.specs.Host.{Host}
use Rattle.cpm_serve.specs.Changes.{kept_change, keep_accesses, unkept_error}
use Rattle.cpm_serve.specs.DriveFiles.{DiskWork}
use Rattle.cpm_serve.specs.Folder.{AccessesLead, AreNoFolderWrites, FolderAccess, FolderAnswer, HostChange}
use Rattle.cpm_serve.specs.Served.{Served, outcome}
use Rattle.cpm_serve.specs.declared.folder.FolderError.{FolderError}
use Rattle.cpm_serve.specs.declared.folder.ServeError.{ServeError}
use Rattle.cpm_serve.specs.declared.folder.ServeError.TheVariants as error
use Rattle.cpm_serve.specs.ServedWith.{IsDiskWork, accesses_of, served_with_if}

-- ---- a value

-- the value of a request, whether memory was refused to it, what the folder answered, what the work on a disk made, and why it could not be kept
pub record WireEvent : Type 0 where
  pub value : Data
  pub lacked : Bool
  pub answers : List FolderAnswer
  pub made : DiskWork
  pub unkept : Option FolderError

-- a tag that can't be read doesn't come back
abbrev pub tag_kept : Result (Option AskedTag) FieldFault → Option AskedTag
tag_kept (Ok tag) = tag
tag_kept (Err fault) = None

abbrev pub tag_shown : Data → Option AskedTag
tag_shown d = tag_kept (asked_tag d)

-- a value that is no request changes nothing, asks the folder nothing, and is told its fault
abbrev pub request_served : WireEvent → Host → Result WireAsked AskedFault → Served
request_served e h (Ok r) = served_with_if e.lacked h e.answers e.made r
request_served e h (Err fault) = outcome h (Wrong fault)

abbrev pub event_served : Host → WireEvent → Served
event_served h e = request_served e h (request_asked e.value)

-- what is kept of it
abbrev pub request_change : WireEvent → Host → Result WireAsked AskedFault → Option HostChange
request_change e h (Ok r) = kept_change e.value r (served_with_if e.lacked h e.answers e.made r)
request_change e h (Err fault) = None

abbrev pub event_change : Host → WireEvent → Option HostChange
event_change h e = request_change e h (request_asked e.value)

abbrev pub request_accesses : WireEvent → Host → Result WireAsked AskedFault → List FolderAccess
request_accesses e h (Ok r) = accesses_of h e.answers e.made r
request_accesses e h (Err fault) = []

-- what is asked of the folder, and then what it is to keep
abbrev pub event_accesses : Host → WireEvent → List FolderAccess
event_accesses h e = request_accesses e h (request_asked e.value) ++ keep_accesses e.unkept (event_change h e)

-- The work on a disk made what it makes; and where memory was refused, no file was written.
abbrev pub IsRequestTrue : WireEvent → Host → Result WireAsked AskedFault → Type 0
IsRequestTrue e h (Ok r) = IsDiskWork r e.answers e.made × (e.lacked ≡ true → AreNoFolderWrites (accesses_of h e.answers e.made r))
IsRequestTrue e h (Err fault) = ⊤

abbrev pub IsEventTrue : Host → WireEvent → Type 0
IsEventTrue h e = IsRequestTrue e h (request_asked e.value)

-- the reply, with the tag of the request
abbrev pub event_reply : Host → WireEvent → Data
event_reply h e = reply_json (tag_shown e.value) (event_served h e).reply

-- ---- one after another, also behind one that is refused or wrong

abbrev pub host_served : Host → List WireEvent → Host
host_served h [] = h
host_served h (e ∷ es) = host_served (event_served h e).host es

abbrev pub replies_served : Host → List WireEvent → List Data
replies_served h [] = []
replies_served h (e ∷ es) = event_reply h e ∷ replies_served (event_served h e).host es

-- From one state of a folder to another by the accesses of these events and no others, each of which is true; `does` says how an access leads from state
-- to state.
abbrev pub EventsLead : {F : Type 0} → (F → FolderAccess → F → Type 0) → Host → (from to : F) → List WireEvent → Type 0
EventsLead {F} does h from to [] = from ≡ to
EventsLead {F} does h from to (e ∷ es) =
    (next : F) × IsEventTrue h e × AccessesLead does from next (event_accesses h e) × EventsLead does (event_served h e).host next to es

-- all that they changed is kept
abbrev pub AreKept : List WireEvent → Type 0
AreKept [] = ⊤
AreKept (e ∷ es) = (e.unkept ≡ None) × AreKept es

-- the last of them could not be kept, for this reason, and all before it are
abbrev pub IsLastUnkept : FolderError → List WireEvent → Type 0
IsLastUnkept why [] = ⊥
IsLastUnkept why (e ∷ []) = e.unkept ≡ Some why
IsLastUnkept why (e ∷ es) = (e.unkept ≡ None) × IsLastUnkept why es

-- where the serving of a line ended early so, since a change could not be kept
abbrev pub IsEndedUnkept : ServeError → List WireEvent → Type 0
IsEndedUnkept e es = (why : FolderError) × (e ≡ unkept_error why) × IsLastUnkept why es

-- or there was no memory for a reply
abbrev pub IsEndedBy : ServeError → List WireEvent → Type 0
IsEndedBy error.OutOfMemory es = AreKept es ⊎ IsEndedUnkept error.OutOfMemory es
IsEndedBy error.Unkept es = IsEndedUnkept error.Unkept es

-- the folder was led by events, and all that they changed is kept
abbrev pub KeptEventsLead : {F : Type 0} → (F → FolderAccess → F → Type 0) → Host → (from to : F) → List WireEvent → Type 0
KeptEventsLead {F} does h from to es = EventsLead does h from to es × AreKept es

-- or it ended early so
abbrev pub CutEventsLead : {F : Type 0} → ServeError → (F → FolderAccess → F → Type 0) → Host → (from to : F) → List WireEvent → Type 0
CutEventsLead {F} e does h from to es = EventsLead does h from to es × IsEndedBy e es

-- ---- a line

abbrev pub values_of : Items → List Data
values_of no_items = []
values_of (item d ds) = d ∷ values_of ds

-- the values of a line's requests; none where it asks for many and is wrong in that
abbrev pub values_asked : Data → Result LineAsked AskedFault → List Data
values_asked d (Ok (One r)) = d ∷ []
values_asked d (Ok (Many items)) = values_of items
values_asked d (Err fault) = []

abbrev pub only_reply : List Data → Data
only_reply [] = null
only_reply (d ∷ ds) = d

abbrev pub line_reply : Data → Result LineAsked AskedFault → List Data → Data
line_reply d (Ok (One r)) replies = only_reply replies
line_reply d (Ok (Many items)) replies = many_json (tag_shown d) (items_of replies)
line_reply d (Err fault) replies = reply_json (tag_shown d) (Wrong fault)

-- What a line turns out to be: one of more than 1 MiB; one that is no JSON from a column on; one for whose value there is no memory;
-- or a value, and the events that it asks for.
pub data LineHeard : Type 0 where
  Long : LineHeard
  Broken : (column : ℕ) → LineHeard
  Unread : LineHeard
  Asks : (value : Data) (events : List WireEvent) → LineHeard

abbrev pub most_line : ℕ
most_line = 1048576

-- a line of bytes is heard so
abbrev pub IsLineHeard : List ℕ → LineHeard → Type 0
IsLineHeard line Long = most_line < length line
IsLineHeard line (Broken column) = (length line ≤ most_line) × (IsUtf8 line → read line ≡ None)
IsLineHeard line Unread = (length line ≤ most_line) × (0 < length line)
IsLineHeard line (Asks value events) =
    (length line ≤ most_line) × IsUtf8 line × (read line ≡ Some value) × (map (λ e. e.value) events ≡ values_asked value (line_asked value))

abbrev pub events_of : LineHeard → List WireEvent
events_of (Asks value events) = events
events_of _ = []

-- the host after a line
abbrev pub host_after_line : Host → LineHeard → Host
host_after_line h x = host_served h (events_of x)

-- the value of its reply
abbrev pub heard_reply : Host → LineHeard → Data
heard_reply h Long = reply_json None TooLong
heard_reply h (Broken column) = reply_json None (NoJson column)
heard_reply h Unread = reply_json None (Refused refusal.OutOfMemory)
heard_reply h (Asks value events) = line_reply value (line_asked value) (replies_served h events)

-- ---- many lines

abbrev pub host_after_lines : Host → List LineHeard → Host
host_after_lines h [] = h
host_after_lines h (x ∷ xs) = host_after_lines (host_after_line h x) xs

-- the text of each reply
abbrev pub replies_to_lines : Host → List LineHeard → List (List ℕ)
replies_to_lines h [] = []
replies_to_lines h (x ∷ xs) = compact_text (heard_reply h x) ∷ replies_to_lines (host_after_line h x) xs

-- ---- what is promised of a line

-- a host served a line of bytes, and this is the text of the reply; its requests led the folder
pub record IsLineServed (Leads : List WireEvent → Type 0) (line : List ℕ) (old new : Host) (text : List ℕ) : Type 0 where
  pub heard : LineHeard
  pub is : IsLineHeard line heard
  pub host : new ≡ host_after_line old heard
  pub reply : text ≡ compact_text (heard_reply old heard)
  pub leads : Leads (events_of heard)

-- lines of bytes are heard so, each
abbrev pub AreLinesHeard : List (List ℕ) → List LineHeard → Type 0
AreLinesHeard [] [] = ⊤
AreLinesHeard (line ∷ lines) (x ∷ xs) = IsLineHeard line x × AreLinesHeard lines xs
AreLinesHeard _ _ = ⊥

-- lines were served, one after another, and these are the texts of the replies
abbrev pub AreLinesServed : {F : Type 0} → (F → FolderAccess → F → Type 0) → List (List ℕ) → (old new : Host) → (from to : F) → List (List ℕ) → Type 0
AreLinesServed {F} does [] old new from to [] = (new ≡ old) × (from ≡ to)
AreLinesServed {F} does (line ∷ lines) old new from to (text ∷ texts) =
    (h : Host) × (next : F) × IsLineServed (KeptEventsLead does old from next) line old h text × AreLinesServed does lines h new next to texts
AreLinesServed {F} does _ old new from to _ = ⊥

-- the serving of a line ended early: the first requests of the line were served, perhaps all
pub record IsLineCut (Leads : List WireEvent → Type 0) (line : List ℕ) (old new : Host) : Type 0 where
  pub heard : LineHeard
  pub is : IsLineHeard line heard
  pub count : ℕ
  pub host : new ≡ host_served old (take count (events_of heard))
  pub leads : Leads (take count (events_of heard))
