-- The entries of a configuration, as its TOML document has them: keys and types. All of it is own.
use Rattle.std.specs.Prelude.{◌≡◌, ℕ, ◌+◌, ℤ, List, [], ◌∷◌, map, Bool, if◌then◌else◌, Option, Some}
use Rattle.std.specs.Prelude.{None, option_map, option_and_then, is_some, Result, Ok, Err, Vec}
use Rattle.std.specs.List.{list_all, list_any}
use Rattle.std.specs.Str.{bytes_eq}
use Rattle.std.specs.Borrow.{Bor}
use Rattle.std.specs.declared.alloc.Global.{Global}
use Rattle.toml.specs.Data.{Data, array, table, Items, no_items, item, Members, no_members, member, as_str, as_integer, get_member}
use Rattle.cpm_config.specs.Fields.{field_name}
use Rattle.cpm_config.specs.declared.field.Field.{Field}
use Rattle.cpm_config.specs.declared.field.Field.TheVariants as field
use Rattle.cpm_config.specs.declared.field.ConfigKey.{ConfigKey}
use Rattle.cpm_config.specs.declared.fault.KeyFault.{KeyFault}
use Rattle.cpm_config.specs.declared.fault.KeyFault.TheVariants.{UnknownAtTop, UnknownInSession, Wanted, Misplaced}
use Rattle.cpm_config.specs.declared.fault.DocumentStop.{DocumentStop}
use Rattle.cpm_config.specs.declared.fault.DocumentStop.TheVariants.{Fault, OutOfMemory}
use Rattle.cpm_config.specs.declared.draft.Draft.{Draft}
use Rattle.cpm_config.specs.declared.draft.SessionDraft.{SessionDraft}
use Rattle.cpm_config.specs.declared.draft.OriginDraft.{OriginDraft}
use Rattle.cpm_config.specs.declared.draft.OriginDraft.TheVariants as draft

abbrev pub Text : Type 0
Text = List ℕ

-- the first fault, or what follows
infixl 10 ◌>>=◌
abbrev pub ◌>>=◌ : {A B : Type 0} → Result A KeyFault → (A → Result B KeyFault) → Result B KeyFault
Ok x >>= f = f x
Err fault >>= f = Err fault

abbrev pub result_map : {A B E : Type 0} → (A → B) → Result A E → Result B E
result_map f (Ok x) = Ok (f x)
result_map f (Err e) = Err e

-- ---- one entry

-- the key at the top, where the session is 0, or of the session with this number
abbrev pub config_key : ℕ → Field → ConfigKey
config_key session f = record { session = session; field = f }

abbrev pub top : ℕ
top = 0

-- what is there, or that something else is wanted at the place
abbrev pub or_wanted : {A : Type 0} → ConfigKey → Option A → Result A KeyFault
or_wanted p (Some x) = Ok x
or_wanted p None = Err (Wanted p)

abbrev pub value_of : Field → Members → Option Data
value_of f ms = get_member (field_name f) ms

-- the key is there
abbrev pub has : Field → Members → Bool
has f ms = is_some (value_of f ms)

abbrev pub text_at : ℕ → Field → Members → Result Text KeyFault
text_at session f ms = or_wanted (config_key session f) (option_and_then as_str (value_of f ms))

abbrev pub number_at : ℕ → Field → Members → Result ℤ KeyFault
number_at session f ms = or_wanted (config_key session f) (option_and_then as_integer (value_of f ms))

-- a text that may be left out
abbrev pub text_if_any : Option Data → Option (Option Text)
text_if_any None = Some None
text_if_any (Some d) = option_map Some (as_str d)

abbrev pub optional_text_at : ℕ → Field → Members → Result (Option Text) KeyFault
optional_text_at session f ms = or_wanted (config_key session f) (text_if_any (value_of f ms))

-- the texts of an array that holds nothing else
abbrev pub texts_of : Items → Option (List Text)
texts_of no_items = Some []
texts_of (item d ds) = option_and_then (λ t. option_map (λ ts. t ∷ ts) (texts_of ds)) (as_str d)

abbrev pub texts_in : Data → Option (List Text)
texts_in (array ds) = texts_of ds
texts_in _ = None

abbrev pub texts_at : ℕ → Field → Members → Result (List Text) KeyFault
texts_at session f ms = or_wanted (config_key session f) (option_and_then texts_in (value_of f ms))

-- an array of texts that may be left out
abbrev pub texts_if_any : Option Data → Option (Option (List Text))
texts_if_any None = Some None
texts_if_any (Some d) = option_map Some (texts_in d)

abbrev pub optional_texts_at : ℕ → Field → Members → Result (Option (List Text)) KeyFault
optional_texts_at session f ms = or_wanted (config_key session f) (texts_if_any (value_of f ms))

abbrev pub member_names : Members → List Text
member_names no_members = []
member_names (member k d ms) = k ∷ member_names ms

-- no key but these
abbrev pub has_only : List Field → Members → Bool
has_only known ms = list_all (λ k. list_any (λ f. bytes_eq k (field_name f)) known) (member_names ms)

-- ---- a session

-- how a session begins: it is opened, or forked from another one, at a count of its steps, or it goes on from the saving in a file
pub data OriginEntries : Type 0 where
  Opens : (cpu : Text) (quota : ℤ) (drives : List Text) → OriginEntries
  Forks : (parent : Text) (at : ℤ) → OriginEntries
  Restores : (saving : Text) → OriginEntries

-- the steps of a session are its whole count: those before the fork are included, or those before the saving
pub record SessionEntries : Type 0 where
  pub name : Text
  pub origin : OriginEntries
  pub steps : ℤ
  pub console : Text
  pub keys : Option Text
  pub list : Option Text
  pub out : Option (List Text)
  -- the file for its own saving
  pub save : Option Text

abbrev pub session_fields : List Field
session_fields = field.Name ∷ field.Cpu ∷ field.Quota ∷ field.Fork ∷ field.At ∷ field.From ∷ field.Steps ∷ field.Drives
    ∷ field.Console ∷ field.Keys ∷ field.List ∷ field.Out ∷ field.Save ∷ []

abbrev pub known_in_session : ℕ → Members → Result (Unit {0}) KeyFault
known_in_session session ms =
    if has_only session_fields ms then Ok tt else Err (UnknownInSession session)

-- the first of these keys that the table has is out of place
abbrev pub misplaced : ℕ → List Field → Members → Result (Unit {0}) KeyFault
misplaced session [] ms = Ok tt
misplaced session (f ∷ fs) ms =
    if has f ms then Err (Misplaced (config_key session f)) else misplaced session fs ms

-- the entries of a session with this name, beginning and count of steps: what it has in any case
unfoldable pub session_with : ℕ → Members → Text → OriginEntries → ℤ → Result SessionEntries KeyFault
session_with n ms name origin steps = do
  console ← text_at n field.Console ms
  keys ← optional_text_at n field.Keys ms
  list ← optional_text_at n field.List ms
  save ← optional_text_at n field.Save ms
  out ← optional_texts_at n field.Out ms
  Ok (record {
    name = name;
    origin = origin;
    steps = steps;
    console = console;
    keys = keys;
    list = list;
    out = out;
    save = save;
  })

-- the entries of an opened session, or its first fault in this order
unfoldable pub opened_of_table : ℕ → Members → Result SessionEntries KeyFault
opened_of_table n ms = do
  known ← known_in_session n ms
  name ← text_at n field.Name ms
  placed ← misplaced n (field.At ∷ []) ms
  cpu ← text_at n field.Cpu ms
  quota ← number_at n field.Quota ms
  steps ← number_at n field.Steps ms
  drives ← texts_at n field.Drives ms
  session_with n ms name (Opens cpu quota drives) steps

-- the entries of a forked session, or its first fault in this order
unfoldable pub forked_of_table : ℕ → Members → Result SessionEntries KeyFault
forked_of_table n ms = do
  known ← known_in_session n ms
  name ← text_at n field.Name ms
  placed ← misplaced n (field.Cpu ∷ field.Quota ∷ field.Drives ∷ []) ms
  parent ← text_at n field.Fork ms
  at ← number_at n field.At ms
  steps ← number_at n field.Steps ms
  session_with n ms name (Forks parent at) steps

-- the entries of a session that goes on from a saving, or its first fault in this order
unfoldable pub restored_of_table : ℕ → Members → Result SessionEntries KeyFault
restored_of_table n ms = do
  known ← known_in_session n ms
  name ← text_at n field.Name ms
  placed ← misplaced n (field.Cpu ∷ field.Quota ∷ field.Fork ∷ field.At ∷ field.Drives ∷ []) ms
  saving ← text_at n field.From ms
  steps ← number_at n field.Steps ms
  session_with n ms name (Restores saving) steps

-- the entries of the table of the session with this number: one that names a saving goes on from that; else one that says what it is forked from is
-- forked
unfoldable pub session_of_table : ℕ → Members → Result SessionEntries KeyFault
session_of_table n ms =
    if has field.From ms then restored_of_table n ms
    else (if has field.Fork ms then forked_of_table n ms else opened_of_table n ms)

abbrev pub session_in : ℕ → Data → Result SessionEntries KeyFault
session_in n (table ms) = session_of_table n ms
session_in n _ = Err (Wanted (config_key top field.Sessions))

-- ---- the sessions, numbered on from n

abbrev pub sessions_of : ℕ → Items → Result (List SessionEntries) KeyFault
sessions_of n no_items = Ok []
sessions_of n (item d ds) =
    session_in n d >>= (λ s. result_map (λ ss. s ∷ ss) (sessions_of (n + 1) ds))

abbrev pub sessions_in : Option Data → Result (List SessionEntries) KeyFault
sessions_in (Some (array ds)) = sessions_of 1 ds
sessions_in _ = Err (Wanted (config_key top field.Sessions))

abbrev pub sessions_at : Members → Result (List SessionEntries) KeyFault
sessions_at ms = sessions_in (value_of field.Sessions ms)

-- ---- the whole

pub record ConfigEntries : Type 0 where
  pub frames : ℤ
  pub quantum : ℤ
  pub system : Text
  pub sessions : List SessionEntries

abbrev pub top_fields : List Field
top_fields = field.Frames ∷ field.Quantum ∷ field.System ∷ field.Sessions ∷ []

abbrev pub known_at_top : Members → Result (Unit {0}) KeyFault
known_at_top ms = if has_only top_fields ms then Ok tt else Err UnknownAtTop

-- the entries of a document, or its first fault in this order
unfoldable pub config_in : Members → Result ConfigEntries KeyFault
config_in ms = do
  known ← known_at_top ms
  frames ← number_at top field.Frames ms
  quantum ← number_at top field.Quantum ms
  system ← text_at top field.System ms
  sessions ← sessions_at ms
  Ok (record { frames = frames; quantum = quantum; system = system; sessions = sessions })

-- ---- what the code keeps of them

abbrev pub texts_view : Vec (Bor Text) Global → List Text
texts_view v = map (λ t. t.now) v.items

abbrev pub text_view : Option (Bor Text) → Option Text
text_view = option_map (λ t. t.now)

abbrev pub origin_draft_view : OriginDraft → OriginEntries
origin_draft_view (draft.Opened cpu quota drives) = Opens cpu.now quota (texts_view drives)
origin_draft_view (draft.Forked parent at) = Forks parent.now at
origin_draft_view (draft.Restored saving) = Restores saving.now

abbrev pub session_draft_view : SessionDraft → SessionEntries
session_draft_view s = record {
  name = s.name.now;
  origin = origin_draft_view s.origin;
  steps = s.steps;
  console = s.console.now;
  keys = text_view s.keys;
  list = text_view s.list;
  out = option_map texts_view s.out;
  save = text_view s.save;
}

abbrev pub draft_view : Draft → ConfigEntries
draft_view d = record {
  frames = d.frames;
  quantum = d.quantum;
  system = d.system.now;
  sessions = map session_draft_view d.sessions.items;
}

-- what was read, unless memory ran out
abbrev pub ReadsEntry : {X Y : Type 0} → (X → Y) → Result X DocumentStop → Result Y KeyFault → Type 0
ReadsEntry view (Ok x) read = read ≡ Ok (view x)
ReadsEntry view (Err (Fault fault)) read = read ≡ Err fault
ReadsEntry view (Err OutOfMemory) read = Unit {0}
