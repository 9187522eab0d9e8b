-- A journal that a host reads and does again. All of it is own: docs/JOURNAL.md.
use Rattle.std.specs.Prelude.{⊤, ◌≡◌, ◌⊎◌, ◌≤◌, ◌+◌, ℕ, false, List, [], ◌∷◌, ◌++◌, length, take, Option, Some, None, Err}
use Rattle.cpm_machine.specs.SystemDigest.{system_digest}
use Rattle.cpm_slots.specs.Host.{AllBelow, Host}
use Rattle.cpm_journal.specs.Entries.{IsEntryRefusal, KeptEntry, entries_read, entry_read}
use Rattle.cpm_journal.specs.Heads.{IsHeadRead, head_line_fault}
use Rattle.cpm_journal.specs.Lines.{has_line_feed, journal_lines, line_torn}
use Rattle.cpm_journal.specs.declared.head.HeadFault.TheVariants as head
use Rattle.cpm_journal.specs.declared.head.JournalHead.{JournalHead}
use Rattle.cpm_serve.specs.Folder.{FolderAccess}
use Rattle.cpm_serve.specs.KeptFolder.{IsKeptAccess}
use Rattle.cpm_serve.specs.Laws.{events_in}
use Rattle.cpm_serve.specs.Lines.{AreLinesHeard, AreLinesServed, CutEventsLead, EventsLead, IsLineCut, LineHeard, host_served}
use Rattle.cpm_serve.specs.declared.kept.KeptFolder.{KeptFolder}
use Rattle.cpm_serve.specs.Redone.{IsUndone, redone, redone_all}
use Rattle.cpm_serve.specs.declared.folder.ServeError.{ServeError}
use Rattle.cpm_serve.specs.declared.resume.JournalFault.{JournalFault}
use Rattle.cpm_serve.specs.declared.resume.JournalFault.TheVariants as fault

-- the head of a host's journal
abbrev pub host_head : Host → JournalHead
host_head h = record { frames = h.frames; system = system_digest h.system }

-- The lines of a text were done again on a host, each behind those before it, and so much is torn behind them.
pub record AreLinesRedone (text : List ℕ) (old new : Host) (torn : ℕ) : Type 0 where
  pub entries : List KeptEntry
  pub read : entries_read (journal_lines text) ≡ Some entries
  pub done : redone_all old entries ≡ Some new
  pub left : torn ≡ length (line_torn [] text)

-- the first line of a text is a head, and this is left behind it
pub record IsHeadTaken (wanted : JournalHead) (rest : Option (List ℕ)) (text : List ℕ) : Type 0 where
  pub first : List ℕ
  pub behind : List ℕ
  pub free : has_line_feed first ≡ false
  pub whole : text ≡ first ++ 0x0A ∷ behind
  pub left : rest ≡ Some behind
  pub head : head_line_fault wanted first ≡ None

-- A journal was: its first line is the head of the host's journals, and the others were done again.
pub record IsResumed (text : List ℕ) (old new : Host) (torn : ℕ) : Type 0 where
  pub behind : List ℕ
  pub head : IsHeadTaken (host_head old) (Some behind) text
  pub rest : AreLinesRedone behind old new torn

-- the entry that a line is was done again
pub record IsLineRedone (line : List ℕ) (old new : Host) : Type 0 where
  pub entry : KeptEntry
  pub read : entry_read line ≡ Some entry
  pub done : redone old entry ≡ Some new

-- why a line is not done again
abbrev pub IsLineFault : (line : List ℕ) → Host → JournalFault → Type 0
IsLineFault line h (fault.Entry e) = IsEntryRefusal line e
IsLineFault line h (fault.Redo e) = (entry : KeptEntry) × (entry_read line ≡ Some entry) × IsUndone h entry e
IsLineFault line h (fault.Unreadable e) = ⊥
IsLineFault line h (fault.Head e) = ⊥

-- or the next of these
abbrev pub IsNextFault : (lines : List (List ℕ)) → Host → JournalFault → Type 0
IsNextFault lines h (fault.Unreadable e) = ⊤
IsNextFault [] h why = ⊥
IsNextFault (line ∷ lines) h why = IsLineFault line h why

-- The first lines of a text were done again, and the next one was not: it has this number, and why not is told. No line behind it was done.
pub record AreLinesBroken (text : List ℕ) (old new : Host) (number : ℕ) (why : JournalFault) : Type 0 where
  pub front : List (List ℕ)
  pub rest : List (List ℕ)
  pub are : journal_lines text ≡ front ++ rest
  pub entries : List KeptEntry
  pub read : entries_read front ≡ Some entries
  pub done : redone_all old entries ≡ Some new
  pub counted : number ≡ length front + 2
  pub refused : IsNextFault rest new why

-- why the first of these lines is not the head
abbrev pub IsHeadFault : JournalHead → (lines : List (List ℕ)) → JournalFault → Type 0
IsHeadFault wanted [] (fault.Head e) = e ≡ head.NoJournal
IsHeadFault wanted (line ∷ lines) (fault.Head e) = IsHeadRead wanted line (Err e)
IsHeadFault wanted lines (fault.Unreadable e) = ⊤
IsHeadFault wanted lines why = ⊥

-- A journal was not done again, or not to its end: its first line is refused, and nothing was changed; or another line.
abbrev pub IsUnresumed : (text : List ℕ) → (old new : Host) → (number : ℕ) → JournalFault → Type 0
IsUnresumed text old new number why =
    ((number ≡ 1) × IsHeadFault (host_head old) (journal_lines text) why × (new ≡ old))
    ⊎ ((behind : List ℕ) × IsHeadTaken (host_head old) (Some behind) text × AreLinesBroken behind old new number why)

-- ---- the laws

-- What a served host has kept in a journal that began with its head is done again as that host, with nothing torn.
abbrev pub WireResumed : {F J : Type 0} → (F → FolderAccess → F → Type 0) → (J → Option (List ℕ)) → Type 0
WireResumed {F} {J} does contents =
    (lines : List (List ℕ)) (old new : Host) (from to : KeptFolder F J) (texts : List (List ℕ)) (text : List ℕ) →
    AreLinesServed (IsKeptAccess does contents) lines old new from to texts → AllBelow old.openings old.slots → contents from.journal ≡ Some text →
    (behind : List ℕ) × (contents to.journal ≡ Some (text ++ behind)) × AreLinesRedone behind old new 0

-- no line was begun; or one was, and ended early
abbrev pub IsLinesEnd : {F : Type 0} → (F → FolderAccess → F → Type 0) → (begun : List (List ℕ)) → (mid new : Host) → (between to : F) → Type 0
IsLinesEnd {F} does [] mid new between to = (new ≡ mid) × (between ≡ to)
IsLinesEnd {F} does (line ∷ []) mid new between to = (e : ServeError) × IsLineCut (CutEventsLead e does mid between to) line mid new
IsLinesEnd {F} does _ mid new between to = ⊥

-- Lines were served, and the last perhaps not to its end, as a talk that ended early leaves it.
pub record AreLinesBegun {F : Type 0} (does : F → FolderAccess → F → Type 0) (lines : List (List ℕ)) (old new : Host) (from to : F) : Type 0 where
  pub front : List (List ℕ)
  pub begun : List (List ℕ)
  pub are : lines ≡ front ++ begun
  pub texts : List (List ℕ)
  pub mid : Host
  pub between : F
  pub served : AreLinesServed does front old mid from between texts
  pub end : IsLinesEnd does begun mid new between to

-- Of what lines ask, as they were heard, so many requests were done, in order; they led the folder. A host between is served the first of these.
pub record IsServedInPart {F : Type 0} (does : F → FolderAccess → F → Type 0) (lines : List (List ℕ)) (old between new : Host) (from to : F) : Type 0 where
  pub heard : List LineHeard
  pub are : AreLinesHeard lines heard
  pub asked : ℕ
  pub leads : EventsLead does old from to (take asked (events_in heard))
  pub whole : new ≡ host_served old (take asked (events_in heard))
  pub count : ℕ
  pub within : count ≤ asked
  pub part : between ≡ host_served old (take count (events_in heard))

-- The journal, cut off, is done again as a host between.
pub record IsResumedInPart {F : Type 0} (does : F → FolderAccess → F → Type 0) (text : List ℕ) (lines : List (List ℕ)) (old mid new : Host)
    (from to : F) : Type 0 where
  pub between : Host
  pub part : IsServedInPart does lines mid between new from to
  pub torn : ℕ
  pub redone : AreLinesRedone text old between torn

-- Lines were served, and then others, the last perhaps not to its end: there was no memory for it, or the journal could not be written. Cut off anywhere
-- behind what the first changed, the journal is done again as the host after all of the first and the first of what the others ask.
abbrev pub WireCutOff : {F J : Type 0} → (F → FolderAccess → F → Type 0) → (J → Option (List ℕ)) → Type 0
WireCutOff {F} {J} does contents =
    (first others : List (List ℕ)) (old mid new : Host) (from between to : KeptFolder F J) (texts : List (List ℕ)) (text kept : List ℕ) (count : ℕ) →
    AreLinesServed (IsKeptAccess does contents) first old mid from between texts →
    AreLinesBegun (IsKeptAccess does contents) others mid new between to →
    AllBelow old.openings old.slots → contents from.journal ≡ Some text → contents between.journal ≡ Some (text ++ kept) → length kept ≤ count →
    (behind : List ℕ) × (contents to.journal ≡ Some (text ++ behind))
    × IsResumedInPart (IsKeptAccess does contents) (take count behind) others old mid new between to
