-- The first line of a journal: of which host it is. All of it is own: docs/JOURNAL.md.
use Rattle.std.specs.Prelude.{◌≡◌, ⊤, IsUtf8, ℕ, ◌==◌, not, if◌then◌else◌, List, codes, Option, Some, None, option_and_then, Result, Ok, Err}
use Rattle.std.specs.Str.{bytes_eq}
use Rattle.hex.specs.Hex.{encode_lower}
use Rattle.serde_json.specs.Data.{Data, object, string, number, unsigned, no_members, member}
use Rattle.serde_json.specs.Find.{as_str, get}
use Rattle.serde_json.specs.Read.{read}
use Rattle.cpm_journal.specs.Entries.{members_in, number_in}
use Rattle.cpm_journal.specs.declared.head.HeadFault.{HeadFault}
use Rattle.cpm_journal.specs.declared.head.HeadFault.TheVariants as head
use Rattle.cpm_journal.specs.declared.head.JournalHead.{JournalHead}

-- the number of this form
abbrev pub journal_version : ℕ
journal_version = 1

-- how many frames the host has, the number of the form, and the SHA-256 of the system drive
abbrev pub head_json : JournalHead → Data
head_json h =
    object (member (codes "frames") (number (unsigned h.frames)) (member (codes "journal") (number (unsigned journal_version))
    (member (codes "system") (string (encode_lower h.system)) no_members)))

-- ---- why a value is not the head of a host's journal

abbrev pub frames_fault : (wanted : ℕ) → Option ℕ → Option HeadFault
frames_fault wanted None = Some head.NoJournal
frames_fault wanted (Some n) = if n == wanted then None else Some head.OtherFrames

abbrev pub system_text_fault : (wanted : List ℕ) → Option (List ℕ) → Option HeadFault → Option HeadFault
system_text_fault wanted None others = Some head.NoJournal
system_text_fault wanted (Some text) others = if bytes_eq text wanted then others else Some head.OtherSystem

abbrev pub version_fault : Option ℕ → Option HeadFault → Option HeadFault
version_fault None others = Some head.NoJournal
version_fault (Some n) others = if n == journal_version then others else Some head.OtherVersion

abbrev pub member_number : List ℕ → Data → Option ℕ
member_number name d = option_and_then number_in (get name d)

-- it has no number of the form, or another; other members; another system drive; or another number of frames
abbrev pub head_fault : JournalHead → Data → Option HeadFault
head_fault wanted d =
    version_fault (member_number (codes "journal") d) (
    if not (members_in d == 3) then Some head.NoJournal else
    system_text_fault (encode_lower wanted.system) (option_and_then as_str (get (codes "system") d)) (
    frames_fault wanted.frames (member_number (codes "frames") d)))

-- a line that is no JSON is no head
abbrev pub value_fault : JournalHead → Option Data → Option HeadFault
value_fault wanted None = Some head.NoJournal
value_fault wanted (Some d) = head_fault wanted d

-- why a line is not the head
abbrev pub head_line_fault : JournalHead → List ℕ → Option HeadFault
head_line_fault wanted line = value_fault wanted (read line)

-- The line is the head, or is refused by its fault; or there is no memory to read it. What is not UTF-8 is no journal.
abbrev pub IsHeadRead : JournalHead → List ℕ → Result ⊤ HeadFault → Type 0
IsHeadRead wanted line (Ok done) = IsUtf8 line × (head_line_fault wanted line ≡ None)
IsHeadRead wanted line (Err head.OutOfMemory) = ⊤
IsHeadRead wanted line (Err fault) = IsUtf8 line → head_line_fault wanted line ≡ Some fault
