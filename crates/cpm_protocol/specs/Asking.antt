-- A request as a JSON value, as a client writes it. All of it is own: docs/PROTOCOL.md.
use Rattle.std.specs.Prelude.{◌≡◌, ⊤, ◌<◌, ℕ, List, [], ◌∷◌, length, codes, true, nat_le, Option, Some, None, Ok}
use Rattle.std.specs.List.{AllByRecursion}
use Rattle.serde_json.specs.Data.{Data, string, array, object, Items, no_items, item}
use Rattle.cpm_flags.specs.declared.regs.Cpu.{Cpu}
use Rattle.cpm_flags.specs.declared.regs.Cpu.TheVariants.{I8080, Z80}
use Rattle.cpm_protocol.specs.Requests.{WireAsked, Open, Resume, Key, Grant, Take, ListTake, Look, Peek, Fork, Save, Close, Turn, Put, Get, Files}
use Rattle.cpm_protocol.specs.Requests.{AskedTag, FourNames, NumberTag, TextTag, asked_tag, is_file_name, is_short_text, is_number_within}
use Rattle.cpm_protocol.specs.Requests.{most_number, request_asked}
use Rattle.cpm_protocol.specs.Replies.{Member, bytes_data, number_data, put_all, tag_members}
use Rattle.cpm_protocol.specs.declared.request.GrantGoal.{GrantGoal}
use Rattle.cpm_protocol.specs.declared.request.GrantGoal.TheVariants as goal

-- ---- its members

abbrev pub processor_name : Cpu → List ℕ
processor_name I8080 = codes "8080"
processor_name Z80 = codes "z80"

-- a name, and those behind it
abbrev pub name_item : Option (List ℕ) → Items → Items
name_item None rest = no_items
name_item (Some name) rest = item (string name) rest

abbrev pub names_data : FourNames → Data
names_data n = array (name_item n.a (name_item n.b (name_item n.c (name_item n.d no_items))))

abbrev pub goal_members : GrantGoal → List Member
goal_members goal.Steps = []
goal_members (goal.Address address) = (codes "until", number_data address) ∷ []
goal_members goal.Wait = (codes "to", string (codes "wait")) ∷ []

abbrev pub slot_member : ℕ → Member
slot_member slot = (codes "slot", number_data slot)

abbrev pub named_do : List ℕ → List Member → List Member
named_do name rest = (codes "do", string name) ∷ rest

abbrev pub request_members : WireAsked → List Member
request_members (Open cpu quota drives) =
    named_do (codes "open") ((codes "cpu", string (processor_name cpu)) ∷ (codes "quota", number_data quota) ∷ (codes "drives", names_data drives) ∷ [])
request_members (Resume from) = named_do (codes "open") ((codes "from", string from) ∷ [])
request_members (Key slot keys) = named_do (codes "key") (slot_member slot ∷ (codes "keys", bytes_data keys) ∷ [])
request_members (Grant slot steps goal) = named_do (codes "grant") (slot_member slot ∷ (codes "steps", number_data steps) ∷ goal_members goal)
request_members (Take slot most) = named_do (codes "take") (slot_member slot ∷ (codes "most", number_data most) ∷ [])
request_members (ListTake slot most) = named_do (codes "list") (slot_member slot ∷ (codes "most", number_data most) ∷ [])
request_members (Look slot) = named_do (codes "look") (slot_member slot ∷ [])
request_members (Peek slot address length) =
    named_do (codes "peek") (slot_member slot ∷ (codes "address", number_data address) ∷ (codes "length", number_data length) ∷ [])
request_members (Fork slot) = named_do (codes "fork") (slot_member slot ∷ [])
request_members (Save slot file) = named_do (codes "save") (slot_member slot ∷ (codes "file", string file) ∷ [])
request_members (Close slot out) = named_do (codes "close") (slot_member slot ∷ (codes "out", names_data out) ∷ [])
request_members (Turn slot keys steps) =
    named_do (codes "turn") (slot_member slot ∷ (codes "keys", bytes_data keys) ∷ (codes "steps", number_data steps) ∷ [])
request_members (Put drive name text) =
    named_do (codes "put") ((codes "drive", string drive) ∷ (codes "name", string name) ∷ (codes "text", bytes_data text) ∷ [])
request_members (Get drive name) = named_do (codes "get") ((codes "drive", string drive) ∷ (codes "name", string name) ∷ [])
request_members (Files drive) = named_do (codes "files") ((codes "drive", string drive) ∷ [])

-- a request, with its tag
abbrev pub request_json : Option AskedTag → WireAsked → Data
request_json tag r = object (put_all (request_members r) (tag_members tag))

-- ---- what may be asked

-- a name, or none and no more behind it
abbrev pub IsNameBefore : Option (List ℕ) → Option (List ℕ) → Type 0
IsNameBefore None None = ⊤
IsNameBefore None (Some next) = ⊥
IsNameBefore (Some name) next = is_file_name name ≡ true

abbrev pub AreNames : FourNames → Type 0
AreNames n = IsNameBefore n.a n.b × IsNameBefore n.b n.c × IsNameBefore n.c n.d × IsNameBefore n.d None

abbrev pub AreKeyBytes : List ℕ → Type 0
AreKeyBytes = AllByRecursion (λ b. b < 256)

abbrev pub IsSlotNumber : ℕ → Type 0
IsSlotNumber slot = is_number_within 0 most_number slot ≡ true

abbrev pub IsGoal : GrantGoal → Type 0
IsGoal goal.Steps = ⊤
IsGoal (goal.Address address) = is_number_within 0 0xFFFF address ≡ true
IsGoal goal.Wait = ⊤

-- its fields are within their bounds
abbrev pub IsAskable : WireAsked → Type 0
IsAskable (Open cpu quota drives) = (is_number_within 0 0xFFFF quota ≡ true) × AreNames drives
IsAskable (Resume from) = is_file_name from ≡ true
IsAskable (Key slot keys) = IsSlotNumber slot × AreKeyBytes keys
IsAskable (Grant slot steps goal) = IsSlotNumber slot × (is_number_within 0 most_number steps ≡ true) × IsGoal goal
IsAskable (Take slot most) = IsSlotNumber slot × (is_number_within 0 8192 most ≡ true)
IsAskable (ListTake slot most) = IsSlotNumber slot × (is_number_within 0 8192 most ≡ true)
IsAskable (Look slot) = IsSlotNumber slot
IsAskable (Peek slot address length) = IsSlotNumber slot × (is_number_within 0 0xFFFF address ≡ true) × (is_number_within 1 256 length ≡ true)
IsAskable (Fork slot) = IsSlotNumber slot
IsAskable (Save slot file) = IsSlotNumber slot × (is_file_name file ≡ true)
IsAskable (Close slot out) = IsSlotNumber slot × AreNames out
IsAskable (Turn slot keys steps) = IsSlotNumber slot × AreKeyBytes keys × (is_number_within 0 most_number steps ≡ true)
IsAskable (Put drive name text) = (is_file_name drive ≡ true) × (is_short_text name ≡ true) × AreKeyBytes text
IsAskable (Get drive name) = (is_file_name drive ≡ true) × (is_short_text name ≡ true)
IsAskable (Files drive) = is_file_name drive ≡ true

abbrev pub IsTagFit : Option AskedTag → Type 0
IsTagFit None = ⊤
IsTagFit (Some (NumberTag n)) = ⊤
IsTagFit (Some (TextTag t)) = nat_le (length t) 256 ≡ true

-- what a client writes is what is asked, with its tag
abbrev pub RequestsBack : Type 0
RequestsBack = (tag : Option AskedTag) (r : WireAsked) → IsTagFit tag → IsAskable r →
    (request_asked (request_json tag r) ≡ Ok r) × (asked_tag (request_json tag r) ≡ Ok tag)
