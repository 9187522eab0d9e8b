-- A reply as a JSON value, and the reply that a value is. All of it is own: docs/PROTOCOL.md.
use Rattle.std.specs.Prelude.{◌≡◌, ℕ, ◌<◌, List, [], ◌∷◌, chars, codes, Bool, if◌then◌else◌, Option, Some, None, option_map}
use Rattle.std.specs.Prelude.{option_and_then}
use Rattle.std.specs.List.{AllByRecursion}
use Rattle.std.specs.Str.{bytes_eq}
use Rattle.serde_json.specs.Data.{Data, boolean, number, unsigned, string, array, object, Items, Members, no_members, put}
use Rattle.serde_json.specs.Find.{as_bool, as_number, as_str, as_u64, get}
use Rattle.cpm_protocol.specs.Bytes.{text_of_bytes}
use Rattle.cpm_protocol.specs.Fields.{request_field_name}
use Rattle.cpm_protocol.specs.Words.{all_endings, all_refusals, all_request_fields, all_stops, ending_word, refusal_why, refusal_word, stop_word}
use Rattle.cpm_protocol.specs.Words.{with_word}
use Rattle.cpm_protocol.specs.Requests.{AskedFault, AskedTag, FaultOf, NumberTag, TextTag, UnknownName, fault_seen}
use Rattle.cpm_protocol.specs.declared.field.RequestField.{RequestField}
use Rattle.cpm_protocol.specs.declared.fault.FieldFault.TheVariants as fault
use Rattle.cpm_protocol.specs.declared.word.GrantStop.{GrantStop}
use Rattle.cpm_protocol.specs.declared.word.WireEnd.{WireEnd}
use Rattle.cpm_protocol.specs.declared.word.WireRefusal.{WireRefusal}
use Rattle.cpm_protocol.specs.declared.reply.SessionLook.{SessionLook}
use Rattle.cpm_protocol.specs.declared.reply.TurnReply.{TurnReply}
use Rattle.cpm_protocol.specs.declared.reply.WireReply.{WireReply}
use Rattle.cpm_protocol.specs.declared.reply.WireReply.TheVariants as code

-- ---- what is replied

-- what became of a turn
pub record TurnAnswer : Type 0 where
  pub accepted : ℕ
  pub executed : ℕ
  pub why : GrantStop
  pub text : List ℕ
  pub list : List ℕ
  pub waiting : Bool
  pub end : WireEnd

pub data Answered : Type 0 where
  Opened : (slot : ℕ) → Answered
  Accepted : (accepted : ℕ) → Answered
  Granted : (executed : ℕ) (why : GrantStop) → Answered
  Text : (bytes : List ℕ) → Answered
  Looked : (look : SessionLook) → Answered
  Written : (bytes : ℕ) → Answered
  Turned : (turn : TurnAnswer) → Answered
  Refused : (refusal : WireRefusal) → Answered
  Wrong : (fault : AskedFault) → Answered
  NoJson : (at : ℕ) → Answered
  TooLong : Answered

-- what the code replies
abbrev pub turn_seen : TurnReply → TurnAnswer
turn_seen t = record { accepted = t.accepted; executed = t.executed; why = t.why; text = t.text.now; list = t.list.now; waiting = t.waiting; end = t.end }

abbrev pub reply_seen : WireReply → Answered
reply_seen (code.Opened slot) = Opened slot
reply_seen (code.Accepted accepted) = Accepted accepted
reply_seen (code.Granted executed why) = Granted executed why
reply_seen (code.Text bytes) = Text bytes.now
reply_seen (code.Looked look) = Looked look
reply_seen (code.Written bytes) = Written bytes
reply_seen (code.Turned turn) = Turned (turn_seen turn)
reply_seen (code.Refused refusal) = Refused refusal
reply_seen (code.Wrong fault) = Wrong (fault_seen fault)
reply_seen (code.NoJson at) = NoJson at
reply_seen code.TooLong = TooLong

-- ---- its members

abbrev pub Member : Type 0
Member = List ℕ × Data

abbrev pub number_data : ℕ → Data
number_data n = number (unsigned n)

abbrev pub bytes_data : List ℕ → Data
bytes_data bytes = string (text_of_bytes bytes)

abbrev pub look_members : SessionLook → List Member
look_members l =
    (codes "af", number_data l.af) ∷ (codes "bc", number_data l.bc) ∷ (codes "de", number_data l.de) ∷ (codes "hl", number_data l.hl)
    ∷ (codes "ix", number_data l.ix) ∷ (codes "iy", number_data l.iy) ∷ (codes "sp", number_data l.sp) ∷ (codes "pc", number_data l.pc)
    ∷ (codes "af'", number_data l.alternate_af) ∷ (codes "bc'", number_data l.alternate_bc)
    ∷ (codes "de'", number_data l.alternate_de) ∷ (codes "hl'", number_data l.alternate_hl)
    ∷ (codes "i", number_data l.interrupt_page) ∷ (codes "r", number_data l.refresh)
    ∷ (codes "iff1", boolean l.iff1) ∷ (codes "iff2", boolean l.iff2)
    ∷ (codes "count", number_data l.count) ∷ (codes "end", string (ending_word l.end)) ∷ (codes "pages", number_data l.pages)
    ∷ (codes "waiting", boolean l.waiting) ∷ (codes "keys", number_data l.keys) ∷ (codes "console", number_data l.console)
    ∷ (codes "list", number_data l.list) ∷ []

abbrev pub turn_members : TurnAnswer → List Member
turn_members t =
    (codes "accepted", number_data t.accepted) ∷ (codes "executed", number_data t.executed) ∷ (codes "why", string (stop_word t.why))
    ∷ (codes "text", bytes_data t.text) ∷ (codes "list", bytes_data t.list) ∷ (codes "waiting", boolean t.waiting)
    ∷ (codes "end", string (ending_word t.end)) ∷ []

abbrev pub fault_members : AskedFault → List Member
fault_members (FaultOf (fault.Missing f)) = (codes "error", string (codes "missing field")) ∷ (codes "field", string (request_field_name f)) ∷ []
fault_members (FaultOf (fault.Wrong f)) = (codes "error", string (codes "wrong field")) ∷ (codes "field", string (request_field_name f)) ∷ []
fault_members (UnknownName name) = (codes "error", string (codes "unknown field")) ∷ (codes "field", string name) ∷ []

abbrev pub reply_members : Answered → List Member
reply_members (Opened slot) = (codes "slot", number_data slot) ∷ []
reply_members (Accepted accepted) = (codes "accepted", number_data accepted) ∷ []
reply_members (Granted executed why) = (codes "executed", number_data executed) ∷ (codes "why", string (stop_word why)) ∷ []
reply_members (Text bytes) = (codes "text", bytes_data bytes) ∷ []
reply_members (Looked look) = look_members look
reply_members (Written bytes) = (codes "bytes", number_data bytes) ∷ []
reply_members (Turned turn) = turn_members turn
reply_members (Refused refusal) = (codes "refused", string (refusal_word refusal)) ∷ (codes "why", string (refusal_why refusal)) ∷ []
reply_members (Wrong fault) = fault_members fault
reply_members (NoJson at) = (codes "error", string (codes "no JSON")) ∷ (codes "at", number_data at) ∷ []
reply_members TooLong = (codes "error", string (codes "line too long")) ∷ []

-- ---- the whole value

-- members in the order of their names, each put in after those before
abbrev pub put_all : List Member → Members → Members
put_all [] ms = ms
put_all (m ∷ rest) ms = put_all rest (put m.0 m.1 ms)

abbrev pub tag_data : AskedTag → Data
tag_data (NumberTag n) = number_data n
tag_data (TextTag t) = string t

abbrev pub tag_members : Option AskedTag → Members
tag_members None = no_members
tag_members (Some t) = put (codes "tag") (tag_data t) no_members

-- a reply, with the tag of its request
abbrev pub reply_json : Option AskedTag → Answered → Data
reply_json tag a = object (put_all (reply_members a) (tag_members tag))

-- the replies to many requests
abbrev pub many_json : Option AskedTag → Items → Data
many_json tag replies = object (put (codes "replies") (array replies) (tag_members tag))

-- ---- the reply that a value is

abbrev pub or_else : {A : Type 0} → Option A → Option A → Option A
or_else (Some x) next = Some x
or_else None next = next

abbrev pub number_field : List ℕ → Data → Option ℕ
number_field name d = option_and_then as_u64 (option_and_then as_number (get name d))

abbrev pub text_field : List ℕ → Data → Option (List ℕ)
text_field name d = option_and_then as_str (get name d)

abbrev pub bytes_field : List ℕ → Data → Option (List ℕ)
bytes_field name d = option_map chars (text_field name d)

abbrev pub truth_field : List ℕ → Data → Option Bool
truth_field name d = option_and_then as_bool (get name d)

abbrev pub stop_field : Data → Option GrantStop
stop_field d = option_and_then (λ w. with_word stop_word w all_stops) (text_field (codes "why") d)

abbrev pub end_field : Data → Option WireEnd
end_field d = option_and_then (λ w. with_word ending_word w all_endings) (text_field (codes "end") d)

infixl 10 ◌>>=◌
abbrev ◌>>=◌ : {A B : Type 0} → Option A → (A → Option B) → Option B
Some x >>= f = f x
None >>= f = None

abbrev pub turn_in : Data → Option TurnAnswer
turn_in d = do
  accepted ← number_field (codes "accepted") d
  executed ← number_field (codes "executed") d
  why ← stop_field d
  text ← bytes_field (codes "text") d
  list ← bytes_field (codes "list") d
  waiting ← truth_field (codes "waiting") d
  end ← end_field d
  Some (record { accepted = accepted; executed = executed; why = why; text = text; list = list; waiting = waiting; end = end })

abbrev pub look_in : Data → Option SessionLook
look_in d = do
  af ← number_field (codes "af") d
  bc ← number_field (codes "bc") d
  de ← number_field (codes "de") d
  hl ← number_field (codes "hl") d
  ix ← number_field (codes "ix") d
  iy ← number_field (codes "iy") d
  sp ← number_field (codes "sp") d
  pc ← number_field (codes "pc") d
  alternate_af ← number_field (codes "af'") d
  alternate_bc ← number_field (codes "bc'") d
  alternate_de ← number_field (codes "de'") d
  alternate_hl ← number_field (codes "hl'") d
  interrupt_page ← number_field (codes "i") d
  refresh ← number_field (codes "r") d
  iff1 ← truth_field (codes "iff1") d
  iff2 ← truth_field (codes "iff2") d
  count ← number_field (codes "count") d
  end ← end_field d
  pages ← number_field (codes "pages") d
  waiting ← truth_field (codes "waiting") d
  keys ← number_field (codes "keys") d
  console ← number_field (codes "console") d
  list ← number_field (codes "list") d
  Some (record {
    af = af;
    bc = bc;
    de = de;
    hl = hl;
    ix = ix;
    iy = iy;
    sp = sp;
    pc = pc;
    alternate_af = alternate_af;
    alternate_bc = alternate_bc;
    alternate_de = alternate_de;
    alternate_hl = alternate_hl;
    interrupt_page = interrupt_page;
    refresh = refresh;
    iff1 = iff1;
    iff2 = iff2;
    count = count;
    end = end;
    pages = pages;
    waiting = waiting;
    keys = keys;
    console = console;
    list = list;
  })

abbrev pub grant_in : Data → Option Answered
grant_in d = do
  executed ← number_field (codes "executed") d
  why ← stop_field d
  Some (Granted executed why)

abbrev pub refused_in : Data → Option Answered
refused_in d = do
  word ← text_field (codes "refused") d
  refusal ← with_word refusal_word word all_refusals
  Some (Refused refusal)

abbrev pub field_named : List ℕ → Option RequestField
field_named name = with_word request_field_name name all_request_fields

-- what is wrong with a field of this name
abbrev pub wrong_in : List ℕ → List ℕ → Option Answered
wrong_in error name =
    if bytes_eq error (codes "missing field") then option_map (λ f. Wrong (FaultOf (fault.Missing f))) (field_named name) else
    if bytes_eq error (codes "wrong field") then option_map (λ f. Wrong (FaultOf (fault.Wrong f))) (field_named name) else
    if bytes_eq error (codes "unknown field") then Some (Wrong (UnknownName name)) else None

abbrev pub error_in : Data → Option Answered
error_in d = do
  error ← text_field (codes "error") d
  or_else (option_and_then (wrong_in error) (text_field (codes "field") d))
      (or_else (option_map NoJson (number_field (codes "at") d)) (if bytes_eq error (codes "line too long") then Some TooLong else None))

-- the reply that a value is
abbrev pub answered_of : Data → Option Answered
answered_of d =
    or_else (option_map Turned (turn_in d)) (or_else (option_map Looked (look_in d)) (or_else (option_map Opened (number_field (codes "slot") d))
    (or_else (grant_in d) (or_else (option_map Accepted (number_field (codes "accepted") d)) (or_else (option_map Text (bytes_field (codes "text") d))
    (or_else (option_map Written (number_field (codes "bytes") d)) (or_else (refused_in d) (error_in d))))))))

-- ---- the law

-- its bytes are bytes
abbrev pub AreBytesIn : Answered → Type 0
AreBytesIn (Text bytes) = AllByRecursion (λ b. b < 256) bytes
AreBytesIn (Turned t) = AllByRecursion (λ b. b < 256) t.text × AllByRecursion (λ b. b < 256) t.list
AreBytesIn _ = Unit {0}

-- a reply's value is that reply, whatever its tag
abbrev pub RepliesBack : Type 0
RepliesBack = (tag : Option AskedTag) (a : Answered) → AreBytesIn a → answered_of (reply_json tag a) ≡ Some a
