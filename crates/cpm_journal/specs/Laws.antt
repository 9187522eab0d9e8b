-- The laws of a journal: what is written of it is read. All of it is own.
use Rattle.std.specs.Prelude.{◌≡◌, ◌≤◌, ℕ, List, [], length, take, Some, None}
use Rattle.std.specs.List.{AllByRecursion}
use Rattle.cpm_journal.specs.Entries.{AreLinesOf, IsKeepable, IsLineOf, KeptEntry, entries_read, entry_json, journal_entry_of, entry_read}
use Rattle.cpm_journal.specs.Heads.{head_fault, head_json}
use Rattle.cpm_journal.specs.Lines.{journal_lines, line_torn, lines_text}
use Rattle.cpm_journal.specs.declared.head.JournalHead.{JournalHead}

-- an entry is read of its value
abbrev pub EntriesBack : Type 0
EntriesBack = (e : KeptEntry) → IsKeepable e → journal_entry_of (entry_json e) ≡ Some e

-- and of its line
abbrev pub EntryLinesBack : Type 0
EntryLinesBack = (e : KeptEntry) (line : List ℕ) → IsKeepable e → IsLineOf (entry_json e) line → entry_read line ≡ Some e

-- a head has no fault for the host that it is of
abbrev pub HeadsBack : Type 0
HeadsBack = (h : JournalHead) → head_fault h (head_json h) ≡ None

-- A journal of entries reads as these entries.
pub record ReadsBack (entries : List KeptEntry) (lines : List (List ℕ)) : Type 0 where
  pub whole : journal_lines (lines_text lines) ≡ lines
  pub none_torn : line_torn [] (lines_text lines) ≡ []
  pub read : entries_read lines ≡ Some entries

abbrev pub JournalsBack : Type 0
JournalsBack = (entries : List KeptEntry) (lines : List (List ℕ)) → AllByRecursion IsKeepable entries → AreLinesOf entries lines → ReadsBack entries lines

-- And a beginning of it, wherever it is cut off, reads as the first of them.
pub record ReadsFirst (entries : List KeptEntry) (lines : List (List ℕ)) (count : ℕ) : Type 0 where
  pub kept : ℕ
  pub whole : journal_lines (take count (lines_text lines)) ≡ take kept lines
  pub read : entries_read (take kept lines) ≡ Some (take kept entries)
  -- all of those whose lines are whole in it
  pub all : (k : ℕ) → length (lines_text (take k lines)) ≤ count → k ≤ length lines → k ≤ kept

abbrev pub TornJournalsBack : Type 0
TornJournalsBack = (entries : List KeptEntry) (lines : List (List ℕ)) (count : ℕ) → AllByRecursion IsKeepable entries → AreLinesOf entries lines →
    ReadsFirst entries lines count
