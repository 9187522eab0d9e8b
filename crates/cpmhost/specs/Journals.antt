-- What it comes to that a journal is not gone on with. All of it is own: docs/JOURNAL.md.
use Rattle.std.specs.Prelude.{◌≡◌, ℕ, List}
use Rattle.cpm_host.specs.Refusals.{IsFileRefusal}
use Rattle.cpm_host.specs.declared.error.HostError.{HostError}
use Rattle.cpm_host.specs.declared.error.HostError.TheVariants.{JournalRefused, OutOfMemory}
use Rattle.cpm_host.specs.declared.error.JournalRefusal.TheVariants as refusal
use Rattle.cpm_journal.specs.declared.entry.EntryFault.TheVariants as entry
use Rattle.cpm_journal.specs.declared.head.HeadFault.{HeadFault}
use Rattle.cpm_journal.specs.declared.head.HeadFault.TheVariants as head
use Rattle.cpm_serve.specs.declared.redo.RedoFault.TheVariants as redo
use Rattle.cpm_serve.specs.declared.resume.JournalFault.{JournalFault}
use Rattle.cpm_serve.specs.declared.resume.JournalFault.TheVariants as fault

-- the first line is not that of the host's journals
abbrev pub head_refusal : HeadFault → HostError
head_refusal head.OutOfMemory = OutOfMemory
head_refusal head.NoJournal = JournalRefused refusal.NoJournal
head_refusal head.OtherVersion = JournalRefused refusal.OtherVersion
head_refusal head.OtherSystem = JournalRefused refusal.OtherSystem
head_refusal head.OtherFrames = JournalRefused refusal.OtherFrames

-- the line of this number of a journal in a file of this name is not done again
abbrev pub IsJournalRefusal : (name : List ℕ) → (line : ℕ) → JournalFault → HostError → Type 0
IsJournalRefusal name line (fault.Unreadable reason) e = IsFileRefusal name e
IsJournalRefusal name line (fault.Head why) e = e ≡ head_refusal why
IsJournalRefusal name line (fault.Entry entry.OutOfMemory) e = e ≡ OutOfMemory
IsJournalRefusal name line (fault.Entry why) e = e ≡ JournalRefused (refusal.WrongLine line)
IsJournalRefusal name line (fault.Redo redo.OutOfMemory) e = e ≡ OutOfMemory
IsJournalRefusal name line (fault.Redo redo.Refused) e = e ≡ JournalRefused (refusal.UndoneLine line)
