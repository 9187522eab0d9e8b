-- The entries of a journal: what changed a host. All of it is own: docs/JOURNAL.md.
use Rattle.std.specs.Prelude.{◌≡◌, ◌≤◌, ◌<◌, ◌^◌, ⊤, IsUtf8, ℕ, ◌+◌, ◌==◌, true, false, if◌then◌else◌}
use Rattle.std.specs.Prelude.{List, [], ◌∷◌, ◌++◌, codes, Option, Some, None, option_map, option_and_then, is_some, Result, Ok, Err}
use Rattle.std.specs.List.{AllByRecursion}
use Rattle.hex.specs.Hex.{decode_of, encode_lower}
use Rattle.hex.specs.declared.error.FromHexError.{FromHexError}
use Rattle.serde_json.specs.Data.{Data, object, string, number, unsigned, depth, Members, no_members, member}
use Rattle.serde_json.specs.Find.{as_number, as_object, as_str, as_u64, get}
use Rattle.serde_json.specs.Read.{max_depth, read}
use Rattle.serde_json.specs.View.{view}
use Rattle.serde_json.specs.Written.{compact_text, has_float}
use Rattle.cpm_journal.specs.Lines.{has_line_feed}
use Rattle.cpm_journal.specs.declared.entry.EntryFault.{EntryFault}
use Rattle.cpm_journal.specs.declared.entry.EntryFault.TheVariants as fault
use Rattle.cpm_journal.specs.declared.entry.JournalEntry.{JournalEntry}
use Rattle.cpm_journal.specs.declared.entry.JournalEntry.TheVariants as code

-- a request, just as it was asked; the saving of a session that was opened from files; or the number that the next slot has
pub data KeptEntry : Type 0 where
  KeptRequest : (request : Data) → KeptEntry
  KeptSaving : (bytes : List ℕ) → KeptEntry
  KeptNumber : (next : ℕ) → KeptEntry

-- ---- as values

abbrev pub one_member : (name : List ℕ) → Data → Data
one_member name value = object (member name value no_members)

abbrev pub entry_json : KeptEntry → Data
entry_json (KeptRequest request) = request
entry_json (KeptSaving bytes) = one_member (codes "restore") (string (encode_lower bytes))
entry_json (KeptNumber next) = one_member (codes "number") (number (unsigned next))

-- ---- of values

abbrev pub decoded_or_none : Result (List ℕ) FromHexError → Option (List ℕ)
decoded_or_none (Ok bytes) = Some bytes
decoded_or_none (Err fault) = None

-- the bytes that a value is the hexadecimal text of
abbrev pub hex_bytes_in : Data → Option (List ℕ)
hex_bytes_in d = option_and_then (λ text. decoded_or_none (decode_of text)) (as_str d)

abbrev pub number_in : Data → Option ℕ
number_in d = option_and_then as_u64 (as_number d)

abbrev pub count_members : Members → ℕ
count_members no_members = 0
count_members (member name d ms) = 1 + count_members ms

abbrev pub count_if_any : Option Members → ℕ
count_if_any None = 0
count_if_any (Some ms) = count_members ms

-- how many members an object has
abbrev pub members_in : Data → ℕ
members_in d = count_if_any (as_object d)

-- the entry of an only member, by its name
abbrev pub entry_alone : (restore next : Option Data) → Option KeptEntry
entry_alone (Some d) next = option_map KeptSaving (hex_bytes_in d)
entry_alone None (Some d) = option_map KeptNumber (number_in d)
entry_alone None None = None

-- The entry that a value is. What has a member `do` is a request.
abbrev pub journal_entry_of : Data → Option KeptEntry
journal_entry_of d =
    if is_some (get (codes "do") d) then Some (KeptRequest d) else
    if members_in d == 1 then entry_alone (get (codes "restore") d) (get (codes "number") d) else None

-- ---- what can be kept

-- A request has its name, and nests no deeper than is read; a saving is of bytes; a number has 64 bits.
abbrev pub IsKeepable : KeptEntry → Type 0
IsKeepable (KeptRequest request) = (is_some (get (codes "do") request) ≡ true) × (depth request ≤ max_depth)
IsKeepable (KeptSaving bytes) = AllByRecursion (λ b. b < 256) bytes
IsKeepable (KeptNumber next) = next < 2 ^ 64

-- ---- as lines

-- the entry that a line is
abbrev pub entry_read : List ℕ → Option KeptEntry
entry_read line = option_and_then journal_entry_of (read line)

-- a text is the line of a value: it is one line, what is read of it is the value, and where that has no float it is the text with no space
pub record IsLineOf (d : Data) (text : List ℕ) : Type 0 where
  pub one_line : has_line_feed text ≡ false
  pub back : depth d ≤ max_depth → read text ≡ Some d
  pub compact : has_float d ≡ false → text ≡ compact_text d

-- the line of a value was added to bytes
pub record IsLineAdded (d : Data) (old new : List ℕ) : Type 0 where
  pub line : List ℕ
  pub of : IsLineOf d line
  pub added : new ≡ old ++ (line ++ 0x0A ∷ [])

-- the request that closes a slot and writes no drive
abbrev pub close_json : (slot : ℕ) → Data
close_json slot = object (member (codes "do") (string (codes "close")) (member (codes "slot") (number (unsigned slot)) no_members))

-- ---- what the code reads

abbrev pub journal_entry_seen : JournalEntry → KeptEntry
journal_entry_seen (code.Request value) = KeptRequest (view value)
journal_entry_seen (code.Restore bytes) = KeptSaving bytes.items
journal_entry_seen (code.Number next) = KeptNumber next

-- A line is no entry where it is no JSON, or its value is none. There may be no memory for one that has a byte.
abbrev pub IsEntryRefusal : List ℕ → EntryFault → Type 0
IsEntryRefusal line (fault.NoJson at) = IsUtf8 line → read line ≡ None
IsEntryRefusal line fault.NoEntry = (d : Data) × (read line ≡ Some d) × (journal_entry_of d ≡ None)
IsEntryRefusal line fault.OutOfMemory = ⊤

-- ---- a whole journal behind its head

-- the entries of lines, where each is one
abbrev pub entries_read : List (List ℕ) → Option (List KeptEntry)
entries_read [] = Some []
entries_read (line ∷ lines) = option_and_then (λ e. option_map (λ es. e ∷ es) (entries_read lines)) (entry_read line)

-- each entry, and its line
abbrev pub AreLinesOf : List KeptEntry → List (List ℕ) → Type 0
AreLinesOf [] [] = ⊤
AreLinesOf (e ∷ es) (line ∷ lines) = IsLineOf (entry_json e) line × AreLinesOf es lines
AreLinesOf _ _ = ⊥
