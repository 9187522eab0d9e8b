-- What is promised of the requests of a line. All of it is own.
use Rattle.std.specs.Prelude.{◌≡◌, ⊤, ℕ, Bool, true, List, [], ◌∷◌, map, take, Option}
use Rattle.std.specs.List.{list_all}
use Rattle.serde_json.specs.Data.{Data}
use Rattle.cpm_protocol.specs.Bytes.{is_byte_character}
use Rattle.serde_json.specs.Written.{compact_text}
use Rattle.cpm_protocol.specs.Replies.{Answered, NoJson, Refused}
use Rattle.cpm_protocol.specs.declared.fault.LineError.{LineError}
use Rattle.cpm_protocol.specs.declared.fault.LineError.TheVariants as unread
use Rattle.cpm_protocol.specs.declared.word.WireRefusal.TheVariants as refusal
use Rattle.cpm_protocol.specs.Requests.{WireAsked, Key, Put, Turn, line_asked}
use Rattle.cpm_slots.specs.Host.{Host}
use Rattle.cpm_serve.specs.DriveFiles.{DiskWork}
use Rattle.cpm_serve.specs.Folder.{FolderAnswer}
use Rattle.cpm_serve.specs.declared.folder.FolderError.{FolderError}
use Rattle.cpm_serve.specs.Lines.{WireEvent, event_reply, event_served, host_served, line_reply, replies_served, values_asked}

-- the keys of a request are bytes, and so is a file's text
abbrev pub HasByteKeys : WireAsked → Type 0
HasByteKeys (Key slot keys) = list_all is_byte_character keys ≡ true
HasByteKeys (Turn slot keys steps) = list_all is_byte_character keys ≡ true
HasByteKeys (Put drive name text) = list_all is_byte_character text ≡ true
HasByteKeys _ = ⊤

abbrev pub event_of : Data → Bool → List FolderAnswer → DiskWork → (unkept : Option FolderError) → WireEvent
event_of d lacked answers made unkept = record { value = d; lacked = lacked; answers = answers; made = made; unkept = unkept }

-- In what follows `Leads` says how the folder was led by events.

-- the request that a value is was done, and this is to be replied
pub record IsEventDone (Leads : List WireEvent → Type 0) (d : Data) (old new : Host) (answer : Answered) : Type 0 where
  pub event : WireEvent
  pub value : event.value ≡ d
  pub host : new ≡ (event_served old event).host
  pub answered : answer ≡ (event_served old event).reply
  pub leads : Leads (event ∷ [])

-- the request that a value is was served, and this is the reply
pub record IsEventServed (Leads : List WireEvent → Type 0) (d : Data) (old new : Host) (reply : Data) : Type 0 where
  pub event : WireEvent
  pub value : event.value ≡ d
  pub host : new ≡ (event_served old event).host
  pub replied : reply ≡ event_reply old event
  pub leads : Leads (event ∷ [])

-- and then the line ended early
pub record IsEventCut (Leads : List WireEvent → Type 0) (d : Data) (old new : Host) : Type 0 where
  pub event : WireEvent
  pub value : event.value ≡ d
  pub host : new ≡ (event_served old event).host
  pub leads : Leads (event ∷ [])

-- the requests that values are were served, one after another, and these are the replies
pub record AreServed (Leads : List WireEvent → Type 0) (ds : List Data) (old new : Host) (made : List Data) : Type 0 where
  pub events : List WireEvent
  pub values : map (λ e. e.value) events ≡ ds
  pub host : new ≡ host_served old events
  pub replies : made ≡ replies_served old events
  pub leads : Leads events

-- so many of them were, and then the line ended early
pub record AreServedUpTo (Leads : List WireEvent → Type 0) (ds : List Data) (old new : Host) : Type 0 where
  pub events : List WireEvent
  pub values : map (λ e. e.value) events ≡ ds
  pub count : ℕ
  pub host : new ≡ host_served old (take count events)
  pub leads : Leads (take count events)

-- a value is asked by these events
abbrev pub AreAskedBy : Data → List WireEvent → Type 0
AreAskedBy d events = map (λ e. e.value) events ≡ values_asked d (line_asked d)

-- a line of this value was served, and this is the value of the reply
pub record IsValueServed (Leads : List WireEvent → Type 0) (d : Data) (old new : Host) (made : Data) : Type 0 where
  pub events : List WireEvent
  pub asked : AreAskedBy d events
  pub host : new ≡ host_served old events
  pub reply : made ≡ line_reply d (line_asked d) (replies_served old events)
  pub leads : Leads events

-- and it ended early
pub record IsValueCut (Leads : List WireEvent → Type 0) (d : Data) (old new : Host) : Type 0 where
  pub events : List WireEvent
  pub asked : AreAskedBy d events
  pub count : ℕ
  pub host : new ≡ host_served old (take count events)
  pub leads : Leads (take count events)

-- a line of this value was served, and this is the text of the reply
pub record IsTextServed (Leads : List WireEvent → Type 0) (d : Data) (old new : Host) (text : List ℕ) : Type 0 where
  pub events : List WireEvent
  pub asked : AreAskedBy d events
  pub host : new ≡ host_served old events
  pub reply : text ≡ compact_text (line_reply d (line_asked d) (replies_served old events))
  pub leads : Leads events

-- the reply to a line of which no value was read
abbrev pub unread_answer : LineError → Answered
unread_answer (unread.NoJson at) = NoJson at
unread_answer unread.OutOfMemory = Refused refusal.OutOfMemory
