-- A request of a JSON value: its fields, in this order, or its first fault. All of it is own: docs/PROTOCOL.md.
use Rattle.std.specs.Prelude.{◌≡◌, ◌<◌, IsUtf8, ℕ, ◌&&◌, List, [], ◌∷◌, length, chars, codes, Bool, false, not, ◌==◌, nat_le, if◌then◌else◌, Option, Some}
use Rattle.std.specs.Prelude.{None, option_map, option_and_then, is_some, Result, Ok, Err}
use Rattle.std.specs.List.{list_all, list_any}
use Rattle.std.specs.Str.{bytes_eq}
use Rattle.std.specs.Borrow.{Bor}
use Rattle.serde_json.specs.Data.{Data, string, Items, Members, no_members, member}
use Rattle.serde_json.specs.Events.{items_len}
use Rattle.serde_json.specs.Find.{as_array, as_number, as_object, as_str, as_u64, at, get}
use Rattle.serde_json.specs.Read.{read}
use Rattle.serde_json.specs.View.{items_view}
use Rattle.cpm_flags.specs.declared.regs.Cpu.{Cpu}
use Rattle.cpm_flags.specs.declared.regs.Cpu.TheVariants.{I8080, Z80}
use Rattle.cpm_protocol.specs.Bytes.{is_byte_text}
use Rattle.cpm_protocol.specs.Fields.{fields_of_kind, kind_named, request_field_name}
use Rattle.cpm_protocol.specs.declared.field.RequestField.{RequestField}
use Rattle.cpm_protocol.specs.declared.field.RequestField.TheVariants as field
use Rattle.cpm_protocol.specs.declared.kind.RequestKind.{RequestKind}
use Rattle.cpm_protocol.specs.declared.kind.RequestKind.TheVariants as kind
use Rattle.cpm_protocol.specs.declared.fault.FieldFault.{FieldFault}
use Rattle.cpm_protocol.specs.declared.fault.FieldFault.TheVariants.{Missing, Wrong}
use Rattle.cpm_protocol.specs.declared.fault.LineError.{LineError}
use Rattle.cpm_protocol.specs.declared.fault.LineError.TheVariants as line_error
use Rattle.cpm_protocol.specs.declared.fault.RequestFault.{RequestFault}
use Rattle.cpm_protocol.specs.declared.fault.RequestFault.TheVariants as fault
use Rattle.cpm_protocol.specs.declared.request.DriveNames.{DriveNames}
use Rattle.cpm_protocol.specs.declared.request.GrantGoal.{GrantGoal}
use Rattle.cpm_protocol.specs.declared.request.GrantGoal.TheVariants as goal
use Rattle.cpm_protocol.specs.declared.request.Tag.{Tag}
use Rattle.cpm_protocol.specs.declared.request.Tag.TheVariants as tag
use Rattle.cpm_protocol.specs.declared.request.WireRequest.{WireRequest}
use Rattle.cpm_protocol.specs.declared.request.WireRequest.TheVariants as code
use Rattle.cpm_protocol.specs.declared.request.LineRequest.{LineRequest}
use Rattle.cpm_protocol.specs.declared.request.LineRequest.TheVariants as code_line

-- ---- what is asked

-- the names for the drives A to D
pub record FourNames : Type 0 where
  pub a : Option (List ℕ)
  pub b : Option (List ℕ)
  pub c : Option (List ℕ)
  pub d : Option (List ℕ)

-- what comes back with a reply
pub data AskedTag : Type 0 where
  NumberTag : (number : ℕ) → AskedTag
  TextTag : (text : List ℕ) → AskedTag

-- a request; keys and texts of files are bytes, names are texts
pub data WireAsked : Type 0 where
  Open : (cpu : Cpu) (quota : ℕ) (drives : FourNames) → WireAsked
  Resume : (from : List ℕ) → WireAsked
  Key : (slot : ℕ) (keys : List ℕ) → WireAsked
  Grant : (slot steps : ℕ) (goal : GrantGoal) → WireAsked
  Take : (slot most : ℕ) → WireAsked
  ListTake : (slot most : ℕ) → WireAsked
  Look : (slot : ℕ) → WireAsked
  Peek : (slot address length : ℕ) → WireAsked
  Fork : (slot : ℕ) → WireAsked
  Save : (slot : ℕ) (file : List ℕ) → WireAsked
  Close : (slot : ℕ) (out : FourNames) → WireAsked
  Turn : (slot : ℕ) (keys : List ℕ) (steps : ℕ) → WireAsked
  Put : (drive name text : List ℕ) → WireAsked
  Get : (drive name : List ℕ) → WireAsked
  Files : (drive : List ℕ) → WireAsked

-- ---- faults

-- the first fault of a field, or what follows
infixl 10 ◌>>=◌
abbrev ◌>>=◌ : {A B : Type 0} → Result A FieldFault → (A → Result B FieldFault) → Result B FieldFault
Ok x >>= f = f x
Err fault >>= f = Err fault

-- why a value is no request: a field, or a name that is the name of none
pub data AskedFault : Type 0 where
  FaultOf : (fault : FieldFault) → AskedFault
  UnknownName : (name : List ℕ) → AskedFault

-- ---- fields

abbrev pub field_at : RequestField → Data → Option Data
field_at f d = get (request_field_name f) d

-- what was wanted, or that the field is otherwise
abbrev pub or_wrong_field : {A : Type 0} → RequestField → Option A → Result A FieldFault
or_wrong_field f (Some x) = Ok x
or_wrong_field f None = Err (Wrong f)

-- what is read of a field that must be there
abbrev pub read_by : {A : Type 0} → (Data → Option A) → RequestField → Option Data → Result A FieldFault
read_by read f (Some d) = or_wrong_field f (read d)
read_by read f None = Err (Missing f)

abbrev pub must_read : {A : Type 0} → (Data → Option A) → RequestField → Data → Result A FieldFault
must_read read f d = read_by read f (field_at f d)

-- what passes a test
abbrev pub passed_by : {A : Type 0} → (A → Bool) → Option A → Option A
passed_by test (Some x) = if test x then Some x else None
passed_by test None = None

-- the most that a number of a request may be: 2^53 - 1
abbrev pub most_number : ℕ
most_number = 9007199254740991

abbrev pub is_number_within : ℕ → ℕ → ℕ → Bool
is_number_within low high n = nat_le low n && nat_le n high

-- a whole number within bounds
abbrev pub number_within : ℕ → ℕ → Data → Option ℕ
number_within low high d = passed_by (is_number_within low high) (option_and_then as_u64 (as_number d))

abbrev pub number_field_at : RequestField → ℕ → ℕ → Data → Result ℕ FieldFault
number_field_at f low high d = must_read (number_within low high) f d

-- 1 to 255 bytes
abbrev pub is_short_text : List ℕ → Bool
is_short_text t = not (length t == 0) && nat_le (length t) 255

abbrev pub is_file_name_byte : ℕ → Bool
is_file_name_byte b = not (b == 0x2F) && not (b == 0)

-- the name of a file in the service's folder: no path, nor a folder's own name
abbrev pub is_file_name : List ℕ → Bool
is_file_name t = is_short_text t && list_all is_file_name_byte t && not (bytes_eq t (codes ".")) && not (bytes_eq t (codes ".."))

abbrev pub text_where : (List ℕ → Bool) → RequestField → Data → Result (List ℕ) FieldFault
text_where test f d = must_read (λ v. passed_by test (as_str v)) f d

-- a text of bytes
abbrev pub bytes_field_at : RequestField → Data → Result (List ℕ) FieldFault
bytes_field_at f d = must_read (λ v. option_map chars (passed_by is_byte_text (as_str v))) f d

abbrev pub cpu_of_name : List ℕ → Option Cpu
cpu_of_name t = if bytes_eq t (codes "8080") then Some I8080 else if bytes_eq t (codes "z80") then Some Z80 else None

abbrev pub cpu_at : Data → Result Cpu FieldFault
cpu_at d = must_read (λ v. option_and_then cpu_of_name (as_str v)) field.Cpu d

-- ---- names for drives

-- a name of a list, if it has so many
abbrev pub item_name : RequestField → Option Data → Result (Option (List ℕ)) FieldFault
item_name f None = Ok None
item_name f (Some d) = or_wrong_field f (option_map Some (passed_by is_file_name (as_str d)))

abbrev pub no_fifth : RequestField → Data → Result (Unit {0}) FieldFault
no_fifth f list = if is_some (at 4 list) then Err (Wrong f) else Ok tt

-- at most four names
unfoldable pub four_names : RequestField → Data → Result FourNames FieldFault
four_names f list = do
  within ← no_fifth f list
  a ← item_name f (at 0 list)
  b ← item_name f (at 1 list)
  c ← item_name f (at 2 list)
  d ← item_name f (at 3 list)
  Ok (record { a = a; b = b; c = c; d = d })

-- the value, if it is a list
abbrev pub list_in : Data → Option Data
list_in d = if is_some (as_array d) then Some d else None

unfoldable pub four_names_at : RequestField → Data → Result FourNames FieldFault
four_names_at f d = must_read list_in f d >>= four_names f

abbrev pub no_drive_names : FourNames
no_drive_names = record { a = None; b = None; c = None; d = None }

-- names that may be left out
abbrev pub four_names_if : RequestField → Data → Result FourNames FieldFault
four_names_if f d = if is_some (field_at f d) then four_names_at f d else Ok no_drive_names

-- ---- each request

-- the word that says that a grant goes to a wait
abbrev pub wait_goal : List ℕ → Option GrantGoal
wait_goal t = if bytes_eq t (codes "wait") then Some goal.Wait else None

-- to an address, or to a wait, or neither
abbrev pub goal_of : Option Data → Option Data → Result GrantGoal FieldFault
goal_of None None = Ok goal.Steps
goal_of None (Some to) = or_wrong_field field.To (option_and_then wait_goal (as_str to))
goal_of (Some until) None = or_wrong_field field.Until (option_map goal.Address (number_within 0 0xFFFF until))
goal_of (Some until) (Some to) = Err (Wrong field.To)

abbrev pub slot_asked : Data → Result ℕ FieldFault
slot_asked d = number_field_at field.Slot 0 most_number d

unfoldable pub open_asked : Data → Result WireAsked FieldFault
open_asked d = do
  cpu ← cpu_at d
  quota ← number_field_at field.Quota 0 0xFFFF d
  drives ← four_names_at field.Drives d
  Ok (Open cpu quota drives)

unfoldable pub resume_asked : Data → Result WireAsked FieldFault
resume_asked d = do
  from ← text_where is_file_name field.From d
  Ok (Resume from)

unfoldable pub key_asked : Data → Result WireAsked FieldFault
key_asked d = do
  slot ← slot_asked d
  keys ← bytes_field_at field.Keys d
  Ok (Key slot keys)

unfoldable pub grant_asked : Data → Result WireAsked FieldFault
grant_asked d = do
  slot ← slot_asked d
  steps ← number_field_at field.Steps 0 most_number d
  goal ← goal_of (field_at field.Until d) (field_at field.To d)
  Ok (Grant slot steps goal)

-- how many bytes are given at most
abbrev pub most_bytes_at : Data → Result ℕ FieldFault
most_bytes_at d = number_field_at field.Most 0 8192 d

unfoldable pub take_asked : Data → Result WireAsked FieldFault
take_asked d = do
  slot ← slot_asked d
  most ← most_bytes_at d
  Ok (Take slot most)

unfoldable pub list_asked : Data → Result WireAsked FieldFault
list_asked d = do
  slot ← slot_asked d
  most ← most_bytes_at d
  Ok (ListTake slot most)

unfoldable pub look_asked : Data → Result WireAsked FieldFault
look_asked d = do
  slot ← slot_asked d
  Ok (Look slot)

unfoldable pub peek_asked : Data → Result WireAsked FieldFault
peek_asked d = do
  slot ← slot_asked d
  address ← number_field_at field.Address 0 0xFFFF d
  length ← number_field_at field.Length 1 256 d
  Ok (Peek slot address length)

unfoldable pub fork_asked : Data → Result WireAsked FieldFault
fork_asked d = do
  slot ← slot_asked d
  Ok (Fork slot)

unfoldable pub save_asked : Data → Result WireAsked FieldFault
save_asked d = do
  slot ← slot_asked d
  file ← text_where is_file_name field.File d
  Ok (Save slot file)

unfoldable pub close_asked : Data → Result WireAsked FieldFault
close_asked d = do
  slot ← slot_asked d
  out ← four_names_if field.Out d
  Ok (Close slot out)

unfoldable pub turn_asked : Data → Result WireAsked FieldFault
turn_asked d = do
  slot ← slot_asked d
  keys ← bytes_field_at field.Keys d
  steps ← number_field_at field.Steps 0 most_number d
  Ok (Turn slot keys steps)

unfoldable pub put_asked : Data → Result WireAsked FieldFault
put_asked d = do
  drive ← text_where is_file_name field.Drive d
  name ← text_where is_short_text field.Name d
  text ← bytes_field_at field.Text d
  Ok (Put drive name text)

unfoldable pub get_asked : Data → Result WireAsked FieldFault
get_asked d = do
  drive ← text_where is_file_name field.Drive d
  name ← text_where is_short_text field.Name d
  Ok (Get drive name)

unfoldable pub files_asked : Data → Result WireAsked FieldFault
files_asked d = do
  drive ← text_where is_file_name field.Drive d
  Ok (Files drive)

abbrev pub asked_as : RequestKind → Data → Result WireAsked FieldFault
asked_as kind.Open d = open_asked d
asked_as kind.Resume d = resume_asked d
asked_as kind.Key d = key_asked d
asked_as kind.Grant d = grant_asked d
asked_as kind.Take d = take_asked d
asked_as kind.List d = list_asked d
asked_as kind.Look d = look_asked d
asked_as kind.Peek d = peek_asked d
asked_as kind.Fork d = fork_asked d
asked_as kind.Save d = save_asked d
asked_as kind.Close d = close_asked d
asked_as kind.Turn d = turn_asked d
asked_as kind.Put d = put_asked d
asked_as kind.Get d = get_asked d
asked_as kind.Files d = files_asked d

-- ---- a whole request

-- a session is opened, or goes on from a saving
abbrev pub kind_from : Bool → RequestKind → RequestKind
kind_from has_from kind.Open = if has_from then kind.Resume else kind.Open
kind_from has_from k = k

unfoldable pub kind_at : Data → Result RequestKind FieldFault
kind_at d =
    must_read (λ v. option_and_then kind_named (as_str v)) field.Do d
    >>= (λ k. Ok (kind_from (is_some (field_at field.From d)) k))

-- a number, or a text of at most 256 bytes
abbrev pub tag_in : Data → Option AskedTag
tag_in (string t) = if nat_le (length t) 256 then Some (TextTag t) else None
tag_in d = option_map NumberTag (option_and_then as_u64 (as_number d))

-- a tag may be left out
abbrev pub tag_if : Option Data → Result (Option AskedTag) FieldFault
tag_if None = Ok None
tag_if (Some d) = or_wrong_field field.Tag (option_map Some (tag_in d))

abbrev pub asked_tag : Data → Result (Option AskedTag) FieldFault
asked_tag d = tag_if (field_at field.Tag d)

-- the first name, in the order of the names, that is none of these, nor `do` or `tag`
abbrev pub is_known_name : List RequestField → List ℕ → Bool
is_known_name fields name = list_any (λ f. bytes_eq name (request_field_name f)) (field.Do ∷ field.Tag ∷ fields)

abbrev pub unknown_member : List RequestField → Members → Option (List ℕ)
unknown_member fields no_members = None
unknown_member fields (member k d ms) = if is_known_name fields k then unknown_member fields ms else Some k

abbrev pub unknown_of : List RequestField → Option Members → Option (List ℕ)
unknown_of fields None = None
unknown_of fields (Some ms) = unknown_member fields ms

abbrev pub unknown_name : List RequestField → Data → Option (List ℕ)
unknown_name fields d = unknown_of fields (as_object d)

-- an unknown name, or what is read of known ones
abbrev pub known_or : {A : Type 0} → Option (List ℕ) → Result A FieldFault → Result A AskedFault
known_or (Some name) r = Err (UnknownName name)
known_or None (Ok x) = Ok x
known_or None (Err fault) = Err (FaultOf fault)

-- the request, behind its tag
abbrev pub tagged_as : Result (Option AskedTag) FieldFault → Result WireAsked FieldFault → Result WireAsked FieldFault
tagged_as tag asked = tag >>= (λ t. asked)

abbrev pub asked_of_kind : Data → Result RequestKind FieldFault → Result WireAsked AskedFault
asked_of_kind d (Err fault) = Err (FaultOf fault)
asked_of_kind d (Ok k) = known_or (unknown_name (fields_of_kind k) d) (tagged_as (asked_tag d) (asked_as k d))

-- the request that a value is
unfoldable pub request_asked : Data → Result WireAsked AskedFault
request_asked d = asked_of_kind d (kind_at d)

-- ---- a line

-- a request, or the values of many
pub data LineAsked : Type 0 where
  One : (asked : WireAsked) → LineAsked
  Many : (requests : Items) → LineAsked

abbrev pub names_many : Option Data → Bool
names_many (Some (string t)) = bytes_eq t (codes "many")
names_many _ = false

-- 1 to 1,000 requests
abbrev pub is_request_count : ℕ → Bool
is_request_count n = not (n == 0) && nat_le n 1000

abbrev pub many_in : Data → Option LineAsked
many_in d = option_map Many (passed_by (λ ds. is_request_count (items_len ds)) (as_array d))

abbrev pub many_after_tag : Data → Result (Option AskedTag) FieldFault → Result LineAsked FieldFault
many_after_tag d tag = tag >>= (λ t. must_read many_in field.Requests d)

abbrev pub many_of : Data → Result LineAsked AskedFault
many_of d = known_or (unknown_name (field.Requests ∷ []) d) (many_after_tag d (asked_tag d))

abbrev pub one_of_asked : Result WireAsked AskedFault → Result LineAsked AskedFault
one_of_asked (Ok asked) = Ok (One asked)
one_of_asked (Err fault) = Err fault

-- what the value of a line asks
unfoldable pub line_asked : Data → Result LineAsked AskedFault
line_asked d = if names_many (field_at field.Do d) then many_of d else one_of_asked (request_asked d)

-- A line is no JSON where it is not UTF-8, or is the text of no value. There may be no memory for the value of one that has a byte.
abbrev pub IsLineRefusal : List ℕ → LineError → Type 0
IsLineRefusal line (line_error.NoJson at) = IsUtf8 line → read line ≡ None
IsLineRefusal line line_error.OutOfMemory = 0 < length line

-- ---- what the code keeps of them

abbrev pub field_map : {A B : Type 0} → (A → B) → Result A FieldFault → Result B FieldFault
field_map f (Ok x) = Ok (f x)
field_map f (Err fault) = Err fault

abbrev pub text_if : Option (Bor (List ℕ)) → Option (List ℕ)
text_if = option_map (λ t. t.now)

abbrev pub drive_names_of : DriveNames → FourNames
drive_names_of n = record { a = text_if n.a; b = text_if n.b; c = text_if n.c; d = text_if n.d }

abbrev pub tag_of_code : Tag → AskedTag
tag_of_code (tag.Number n) = NumberTag n
tag_of_code (tag.Text t) = TextTag t.now

abbrev pub request_seen : WireRequest → WireAsked
request_seen (code.Open cpu quota drives) = Open cpu quota (drive_names_of drives)
request_seen (code.Resume from) = Resume from.now
request_seen (code.Key slot keys) = Key slot (chars keys.now)
request_seen (code.Grant slot steps goal) = Grant slot steps goal
request_seen (code.Take slot most) = Take slot most
request_seen (code.List slot most) = ListTake slot most
request_seen (code.Look slot) = Look slot
request_seen (code.Peek slot address length) = Peek slot address length
request_seen (code.Fork slot) = Fork slot
request_seen (code.Save slot file) = Save slot file.now
request_seen (code.Close slot out) = Close slot (drive_names_of out)
request_seen (code.Turn slot keys steps) = Turn slot (chars keys.now) steps
request_seen (code.Put drive name text) = Put drive.now name.now (chars text.now)
request_seen (code.Get drive name) = Get drive.now name.now
request_seen (code.Files drive) = Files drive.now

abbrev pub fault_seen : RequestFault → AskedFault
fault_seen (fault.Field f) = FaultOf f
fault_seen (fault.Unknown name) = UnknownName name.now

abbrev pub line_seen : LineRequest → LineAsked
line_seen (code_line.One request) = One (request_seen request)
line_seen (code_line.Many requests) = Many (items_view requests.now)

-- what the code answers, seen so
abbrev pub answer_seen : {A B : Type 0} → (A → B) → Result A RequestFault → Result B AskedFault
answer_seen seen (Ok x) = Ok (seen x)
answer_seen seen (Err fault) = Err (fault_seen fault)
