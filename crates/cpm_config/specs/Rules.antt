-- The rules on a configuration's entries, and what is read of a file. All of it is own.
use Rattle.std.specs.Prelude.{⊤, ◌≡◌, ℕ, ◌+◌, ◌^◌, ℤ, pos, int_le, nat_le, List, [], ◌∷◌, ◌++◌, length, map, Bool, true, false, not, ◌==◌}
use Rattle.std.specs.Prelude.{◌&&◌, ◌||◌, if◌then◌else◌, Option, Some, None, option_map, codes, string_bytes, Result, Ok, Err, String, Vec}
use Rattle.std.specs.List.{find, list_all, list_any, position_from}
use Rattle.std.specs.Str.{IsUtf8, bytes_eq}
use Rattle.std.specs.declared.alloc.Global.{Global}
use Rattle.toml.specs.Data.{Members}
use Rattle.toml.specs.Parse.{parse_document}
use Rattle.cpm_flags.specs.declared.regs.Cpu.{Cpu}
use Rattle.cpm_flags.specs.declared.regs.Cpu.TheVariants.{I8080, Z80}
use Rattle.cpm_config.specs.Entries.{ConfigEntries, OriginEntries, Opens, Forks, Restores, SessionEntries, Text, config_in, config_key, top}
use Rattle.cpm_config.specs.Files.{OutputName, output_files}
use Rattle.cpm_config.specs.declared.config.Config.{Config}
use Rattle.cpm_config.specs.declared.config.Origin.{Origin}
use Rattle.cpm_config.specs.declared.config.Origin.TheVariants as origin
use Rattle.cpm_config.specs.declared.config.SessionConfig.{SessionConfig}
use Rattle.cpm_config.specs.declared.fault.ConfigError.{ConfigError}
use Rattle.cpm_config.specs.declared.fault.ConfigError.TheVariants as error
use Rattle.cpm_config.specs.declared.field.Field.{Field}
use Rattle.cpm_config.specs.declared.field.Field.TheVariants as field
use Rattle.cpm_config.specs.declared.field.ConfigKey.{ConfigKey}
use Rattle.cpm_config.specs.declared.names.NameUse.{NameUse}

-- ---- ranges

abbrev pub is_between : ℕ → ℕ → ℤ → Bool
is_between low high z = int_le (pos low) z && int_le z (pos high)

abbrev pub is_length_between : {A : Type 0} → ℕ → ℕ → List A → Bool
is_length_between low high xs = nat_le low (length xs) && nat_le (length xs) high

abbrev is_byte_within : ℕ → ℕ → ℕ → Bool
is_byte_within low high b = nat_le low b && nat_le b high

-- a letter, a digit, - or _
abbrev pub is_name_byte : ℕ → Bool
is_name_byte b = is_byte_within 0x41 0x5A b || is_byte_within 0x61 0x7A b || is_byte_within 0x30 0x39 b || (b == 0x2D) || (b == 0x5F)

abbrev pub is_name : Text → Bool
is_name t = is_length_between 1 16 t && list_all is_name_byte t

abbrev pub cpu_text : Cpu → Text
cpu_text I8080 = codes "8080"
cpu_text Z80 = codes "z80"

abbrev pub is_cpu : Text → Bool
is_cpu t = bytes_eq t (cpu_text I8080) || bytes_eq t (cpu_text Z80)

-- as many names as there are drives, where there are any
abbrev pub is_out : List Text → Option (List Text) → Bool
is_out drives None = true
is_out drives (Some names) = length names == length drives

-- names of 1 to 4 drives, where there are any
abbrev pub is_any_out : Option (List Text) → Bool
is_any_out None = true
is_any_out (Some names) = is_length_between 1 4 names

-- ---- forks

-- a session has this name
abbrev pub is_session_named : Text → SessionEntries → Bool
is_session_named name s = bytes_eq s.name name

-- the first of these sessions that has a name
abbrev pub named_in : List SessionEntries → Text → Option SessionEntries
named_in ss name = find (is_session_named name) ss

-- its place
abbrev pub place_of : Text → List SessionEntries → Option ℕ
place_of name = position_from (is_session_named name) 0

-- a session that begins so is opened, or goes on from a saving: it is not forked
abbrev pub is_opened : OriginEntries → Bool
is_opened (Opens cpu quota drives) = true
is_opened (Forks parent at) = false
is_opened (Restores saving) = true

-- a session that was found, where it is opened
abbrev pub if_opened : Option SessionEntries → Option SessionEntries
if_opened None = None
if_opened (Some s) = if is_opened s.origin then Some s else None

-- the session that a later one is forked from by this name: the first that has it, where it is opened
abbrev pub parent_in : List SessionEntries → Text → Option SessionEntries
parent_in before name = if_opened (named_in before name)

-- both the parent and the forked session come to this count of steps
abbrev pub is_at : ℤ → ℤ → ℤ → Bool
is_at parent_steps steps at = int_le (pos 0) at && (int_le at parent_steps && int_le at steps)

-- the field by which a fork from this session breaks a rule: its name, or the count of steps
abbrev pub at_fault : Option SessionEntries → ℤ → ℤ → Option Field
at_fault None steps at = Some field.Fork
at_fault (Some parent) steps at = if is_at parent.steps steps at then None else Some field.At

-- the field by which a session of this count of steps can't begin so, after those before it
abbrev pub origin_fault : List SessionEntries → ℤ → OriginEntries → Option Field
origin_fault before steps (Opens cpu quota drives) = None
origin_fault before steps (Forks parent at) = at_fault (parent_in before parent) steps at
origin_fault before steps (Restores saving) = None

-- the field by which a session is not forked from one of those before it, if it is forked
abbrev pub fork_field_fault : List SessionEntries → SessionEntries → Option Field
fork_field_fault before s = origin_fault before s.steps s.origin

-- a fault of the session with this number, else what follows
abbrev pub fault_or : ℕ → Option Field → Option ConfigKey → Option ConfigKey
fault_or n (Some f) next = Some (config_key n f)
fault_or n None next = next

-- the first place in the sessions, numbered on from n and after those before them, that has a fault
abbrev pub first_fault : (List SessionEntries → SessionEntries → Option Field) → ℕ → List SessionEntries → List SessionEntries → Option ConfigKey
first_fault fault n before [] = None
first_fault fault n before (s ∷ ss) =
    fault_or n (fault before s) (first_fault fault (n + 1) (before ++ s ∷ []) ss)

-- the first at which a fork breaks a rule
abbrev pub forks_fault : ℕ → List SessionEntries → List SessionEntries → Option ConfigKey
forks_fault = first_fault fork_field_fault

-- names for the drives of a session that is not forked: as many as it has. Those of a saving aren't known before it is read.
abbrev pub is_own_out : OriginEntries → Option (List Text) → Bool
is_own_out (Opens cpu quota drives) out = is_out drives out
is_own_out (Forks parent at) out = is_out [] out
is_own_out (Restores saving) out = is_any_out out

-- of one that was found
abbrev pub is_out_if_any : Option SessionEntries → Option (List Text) → Bool
is_out_if_any None out = is_out [] out
is_out_if_any (Some s) out = is_own_out s.origin out

-- of one that begins so: its own, or its parent's
abbrev pub is_origin_out : List SessionEntries → OriginEntries → Option (List Text) → Bool
is_origin_out before (Opens cpu quota drives) out = is_own_out (Opens cpu quota drives) out
is_origin_out before (Forks parent at) out = is_out_if_any (named_in before parent) out
is_origin_out before (Restores saving) out = is_own_out (Restores saving) out

-- of a session, after those before it
abbrev pub is_session_out : List SessionEntries → SessionEntries → Bool
is_session_out before s = is_origin_out before s.origin s.out

-- ---- sessions

-- a count of steps that a session may have
abbrev pub is_steps : ℤ → Bool
is_steps = is_between 0 1000000000000

-- the first field of a session that is opened with these that breaks a rule
unfoldable pub opened_fault : SessionEntries → Text → ℤ → List Text → Option Field
opened_fault s cpu quota drives =
    if not (is_name s.name) then Some field.Name
    else (if not (is_cpu cpu) then Some field.Cpu
    else (if not (is_between 16 256 quota) then Some field.Quota
    else (if not (is_steps s.steps) then Some field.Steps
    else (if not (is_length_between 1 4 drives) then Some field.Drives
    else (if not (is_out drives s.out) then Some field.Out
    else None)))))

-- the first of two fields that break a rule, where they do
abbrev pub field_or : Option Field → Option Field → Option Field
field_or (Some f) next = Some f
field_or None next = next

-- the first field of a forked session, after those before it, that breaks a rule
unfoldable pub forked_fault : List SessionEntries → SessionEntries → Option Field
forked_fault before s =
    if not (is_name s.name) then Some field.Name
    else (if not (is_steps s.steps) then Some field.Steps
    else field_or (fork_field_fault before s)
    (if not (is_session_out before s) then Some field.Out
    else None))

-- the first field of a session that goes on from a saving that breaks a rule
unfoldable pub restored_fault : SessionEntries → Option Field
restored_fault s =
    if not (is_name s.name) then Some field.Name
    else (if not (is_steps s.steps) then Some field.Steps
    else (if not (is_any_out s.out) then Some field.Out
    else None))

-- the same of a session that begins so
abbrev pub session_origin_fault : List SessionEntries → SessionEntries → OriginEntries → Option Field
session_origin_fault before s (Opens cpu quota drives) = opened_fault s cpu quota drives
session_origin_fault before s (Forks parent at) = forked_fault before s
session_origin_fault before s (Restores saving) = restored_fault s

-- the first field of a session, after those before it, that breaks a rule
abbrev pub session_fault : List SessionEntries → SessionEntries → Option Field
session_fault before s = session_origin_fault before s s.origin

-- the first place in the sessions, numbered on from n and after those before them, that breaks a rule
abbrev pub sessions_fault : ℕ → List SessionEntries → List SessionEntries → Option ConfigKey
sessions_fault = first_fault session_fault

-- the first place that breaks a rule
unfoldable pub range_fault : ConfigEntries → Option ConfigKey
range_fault c =
    if not (is_between 16 16384 c.frames) then Some (config_key top field.Frames)
    else (if not (is_between 1 1000000000 c.quantum) then Some (config_key top field.Quantum)
    else (if not (is_length_between 1 64 c.sessions) then Some (config_key top field.Sessions)
    else sessions_fault 1 [] c.sessions))

-- ---- names

-- a name, and where it stands
abbrev pub PlacedName : Type 0
PlacedName = ConfigKey × Text

abbrev pub session_names : ℕ → List SessionEntries → List PlacedName
session_names n [] = []
session_names n (s ∷ ss) = (config_key n field.Name, s.name) ∷ session_names (n + 1) ss

-- the name of a file of the session with this number
abbrev pub file_placed : ℕ → OutputName → PlacedName
file_placed n f = (config_key n f.key, f.name)

-- the files that a session writes
abbrev pub file_names_of : ℕ → SessionEntries → List PlacedName
file_names_of n s = map (file_placed n) (output_files s)

abbrev pub file_names_of_all : ℕ → List SessionEntries → List PlacedName
file_names_of_all n [] = []
file_names_of_all n (s ∷ ss) = file_names_of n s ++ file_names_of_all (n + 1) ss

-- one of the names is this one
abbrev pub is_among : List PlacedName → Text → Bool
is_among ps t = list_any (λ p. bytes_eq p.1 t) ps

-- the place of the first name that is among those before it, of which these stand further before
abbrev pub repeated_after : List PlacedName → List PlacedName → Option ConfigKey
repeated_after before [] = None
repeated_after before (p ∷ ps) =
    if is_among before p.1 then Some p.0 else repeated_after (before ++ p ∷ []) ps

abbrev pub repeated : List PlacedName → Option ConfigKey
repeated = repeated_after []

abbrev pub name_placed : NameUse → PlacedName
name_placed n = (n.place, n.name.now)

-- the place of the first session that has the name of an earlier one, else of the first file to
-- be written twice
abbrev pub some_or : Option ConfigKey → Option ConfigKey → Option ConfigKey
some_or (Some p) q = Some p
some_or None q = q

abbrev pub twice_fault : ConfigEntries → Option ConfigKey
twice_fault c = some_or (repeated (session_names 1 c.sessions)) (repeated (file_names_of_all 1 c.sessions))

-- ---- the whole

-- a beginning that the code can keep
abbrev pub IsOriginKept : OriginEntries → Type 0
IsOriginKept (Opens cpu quota drives) = (is_cpu cpu ≡ true) × (is_between 0 65535 quota ≡ true)
IsOriginKept (Forks parent at) = is_between 0 (2 ^ 63) at ≡ true
IsOriginKept (Restores saving) = ⊤

abbrev pub texts_of_strings : Vec (String Global) Global → List Text
texts_of_strings v = map string_bytes v.items

abbrev pub origin_view : Origin → OriginEntries
origin_view (origin.Opened cpu quota drives) = Opens (cpu_text cpu) (pos quota) (texts_of_strings drives)
origin_view (origin.Forked parent at) = Forks (string_bytes parent) (pos at)
origin_view (origin.Restored saving) = Restores (string_bytes saving)

abbrev pub session_view : SessionConfig → SessionEntries
session_view s = record {
  name = string_bytes s.name;
  origin = origin_view s.origin;
  steps = pos s.steps;
  console = string_bytes s.console;
  keys = option_map string_bytes s.keys;
  list = option_map string_bytes s.list;
  out = option_map texts_of_strings s.out;
  save = option_map string_bytes s.save;
}

abbrev pub config_view : Config → ConfigEntries
config_view c = record {
  frames = pos c.frames;
  quantum = pos c.quantum;
  system = string_bytes c.system;
  sessions = map session_view c.sessions.items;
}

-- the entries of a document, judged: the first fault of keys and types anywhere, else the first
-- of the rules on values, else the first name that stands twice
abbrev pub IsJudged : Members → Result Config ConfigError → Type 0
IsJudged ms (Ok c) = (config_in ms ≡ Ok (config_view c)) × (range_fault (config_view c) ≡ None)
    × (twice_fault (config_view c) ≡ None)
IsJudged ms (Err (error.Key refusal)) = config_in ms ≡ Err refusal.fault
IsJudged ms (Err (error.Range p)) =
    (c : ConfigEntries) × (config_in ms ≡ Ok c) × (range_fault c ≡ Some p)
IsJudged ms (Err (error.Twice p)) =
    (c : ConfigEntries) × (config_in ms ≡ Ok c) × (range_fault c ≡ None) × (twice_fault c ≡ Some p)
IsJudged ms (Err (error.Text line fault)) = ⊥
IsJudged ms (Err error.OutOfMemory) = Unit {0}

-- what was read of these bytes, unless memory ran out: a fault of the text comes exactly where
-- they are no UTF-8 or no TOML document
abbrev pub IsRead : List ℕ → Result Config ConfigError → Type 0
IsRead bytes (Err (error.Text line fault)) = IsUtf8 bytes → parse_document bytes ≡ None
IsRead bytes (Err error.OutOfMemory) = Unit {0}
IsRead bytes r = IsUtf8 bytes × (ms : Members) × (parse_document bytes ≡ Some ms) × IsJudged ms r

-- where a configuration breaks no rule, no fork of its sessions does
abbrev pub ForkLaw : Type 0
ForkLaw = (c : ConfigEntries) → range_fault c ≡ None → forks_fault 1 [] c.sessions ≡ None
