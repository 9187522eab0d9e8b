-- A folder with a journal. All of it is own: docs/JOURNAL.md.
use Rattle.std.specs.Prelude.{⊤, ◌≡◌, ℕ, List, [], ◌∷◌, ◌++◌, map, Option, Some, None, Result, Ok}
use Rattle.std.specs.declared.alloc.AllocError.{AllocError}
use Rattle.std.specs.Io.KnownBytes.{Appends}
use Rattle.cpm_machine.specs.Saving.{bytes_of_saving, restored}
use Rattle.cpm_slots.specs.Host.{Host}
use Rattle.cpm_journal.specs.Entries.{AreLinesOf, IsKeepable, IsLineOf, KeptEntry, KeptRequest, KeptSaving, close_json, entry_json}
use Rattle.cpm_journal.specs.Lines.{lines_text}
use Rattle.cpm_serve.specs.Folder.{FolderAccess, HostChange, AsAsked, AsClosed, AsSaved, Kept, Unkept}
use Rattle.cpm_serve.specs.Lines.{AreKept, EventsLead, WireEvent, event_change, event_served}
use Rattle.cpm_serve.specs.Written.{AppendsFirst}
use Rattle.cpm_serve.specs.declared.folder.FolderError.{FolderError}
use Rattle.cpm_serve.specs.declared.folder.FolderError.TheVariants as error
use Rattle.cpm_serve.specs.declared.kept.KeptFolder.{KeptFolder}

-- the entry of a change
abbrev pub change_entry : HostChange → KeptEntry
change_entry (AsAsked d) = KeptRequest d
change_entry (AsSaved x) = KeptSaving (bytes_of_saving x)
change_entry (AsClosed slot) = KeptRequest (close_json slot)

-- a saving that is kept can be read, and what is restored of it is the state that was saved
abbrev pub IsChangeTrue : HostChange → Type 0
IsChangeTrue (AsSaved x) = IsKeepable (KeptSaving (bytes_of_saving x)) × (restored (bytes_of_saving x) ≡ Ok x)
IsChangeTrue change = ⊤

-- a change was kept: the line of its entry was added
pub record IsChangeKept (change : HostChange) (old new : Option (List ℕ)) : Type 0 where
  pub line : List ℕ
  pub of : IsLineOf (entry_json (change_entry change)) line
  pub true : IsChangeTrue change
  pub added : Appends old new (line ++ 0x0A ∷ [])

-- a change was not kept, since its line was not written to its end: a beginning of it was added, which may be nothing or all of it
pub record IsChangeBegun (change : HostChange) (old new : Option (List ℕ)) : Type 0 where
  pub line : List ℕ
  pub of : IsLineOf (entry_json (change_entry change)) line
  pub true : IsChangeTrue change
  pub added : AppendsFirst old new (line ++ 0x0A ∷ [])

-- or there was no memory for its line: nothing was added
abbrev pub IsChangeUnkept : HostChange → FolderError → (old new : Option (List ℕ)) → Type 0
IsChangeUnkept change error.OutOfMemory old new = new ≡ old
IsChangeUnkept change why old new = IsChangeBegun change old new

-- an access to a folder with a journal: a change goes into that, and all else to the folder
abbrev pub IsKeptAccess : {F J : Type 0} → (F → FolderAccess → F → Type 0) → (J → Option (List ℕ)) → KeptFolder F J → FolderAccess → KeptFolder F J → Type 0
IsKeptAccess does contents s (Kept change) t = (t.folder ≡ s.folder) × IsChangeKept change (contents s.journal) (contents t.journal)
IsKeptAccess does contents s (Unkept change why) t = (t.folder ≡ s.folder) × IsChangeUnkept change why (contents s.journal) (contents t.journal)
IsKeptAccess does contents s a t = does s.folder a t.folder × (t.journal ≡ s.journal)

-- why the code did not keep a line, which was made or not: there was no memory for it, and nothing was added; or it was made, and a beginning of it was added
abbrev pub IsLineUnkept : Result ⊤ AllocError → (old new : Option (List ℕ)) → (line : List ℕ) → FolderError → Type 0
IsLineUnkept outcome old new line error.OutOfMemory = new ≡ old
IsLineUnkept outcome old new line why = (outcome ≡ Ok tt) × AppendsFirst old new line

-- ---- of many events

abbrev pub change_list : Option HostChange → List HostChange
change_list None = []
change_list (Some change) = change ∷ []

-- what events change, in order
abbrev pub changes_of : Host → List WireEvent → List HostChange
changes_of h [] = []
changes_of h (e ∷ es) = change_list (event_change h e) ++ changes_of (event_served h e).host es

abbrev pub AreChangesTrue : List HostChange → Type 0
AreChangesTrue [] = ⊤
AreChangesTrue (change ∷ changes) = IsChangeTrue change × AreChangesTrue changes

-- the lines of these changes were added to a journal
pub record AreChangesKept (changes : List HostChange) (old new : Option (List ℕ)) : Type 0 where
  pub lines : List (List ℕ)
  pub of : AreLinesOf (map change_entry changes) lines
  pub true : AreChangesTrue changes
  pub added : Appends old new (lines_text lines)

-- What events change stands in the journal, a line each, in order, and nothing else.
abbrev pub KeptLines : {F J : Type 0} → (F → FolderAccess → F → Type 0) → (J → Option (List ℕ)) → Type 0
KeptLines {F} {J} does contents =
    (h : Host) (from to : KeptFolder F J) (es : List WireEvent) → EventsLead (IsKeptAccess does contents) h from to es → AreKept es →
    AreChangesKept (changes_of h es) (contents from.journal) (contents to.journal)
