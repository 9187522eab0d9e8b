-- A journal that is done again. All of it is own: docs/JOURNAL.md.
use Rattle.std.specs.Prelude.{⊤, ◌≡◌, ℕ, nat_le, not, Bool, true, false, List, [], ◌∷◌, map, take, Option, Some, None, option_and_then}
use Rattle.std.specs.Prelude.{Result, Ok, Err, if◌then◌else◌}
use Rattle.cpm_machine.specs.Saving.{restored}
use Rattle.cpm_slots.specs.Host.{AllBelow, Host, restore_fault, with_slot_restored}
use Rattle.cpm_slots.specs.Remaking.{numbered_from}
use Rattle.cpm_slots.specs.declared.event.HostRestoreError.{HostRestoreError}
use Rattle.cpm_journal.specs.Entries.{KeptEntry, KeptNumber, KeptRequest, KeptSaving}
use Rattle.cpm_protocol.specs.Replies.{Answered, Refused, Wrong}
use Rattle.cpm_protocol.specs.declared.word.WireRefusal.TheVariants as refusal
use Rattle.cpm_protocol.specs.Requests.{AskedFault, WireAsked, Key, Grant, Take, ListTake, Turn, Fork, Close, Open, request_asked}
use Rattle.cpm_serve.specs.Changes.{has_file_name, is_refusal}
use Rattle.cpm_serve.specs.DriveFiles.{no_work}
use Rattle.cpm_serve.specs.KeptFolder.{AreChangesTrue, changes_of, change_entry}
use Rattle.cpm_serve.specs.Lines.{WireEvent, host_served}
use Rattle.cpm_serve.specs.Served.{Served, is_no_name}
use Rattle.cpm_serve.specs.ServedWith.{served_with}
use Rattle.cpm_serve.specs.declared.redo.RedoFault.{RedoFault}
use Rattle.cpm_serve.specs.declared.redo.RedoFault.TheVariants as fault

-- the requests that are kept as they were asked: those that change a session and need no file
abbrev pub is_again : WireAsked → Bool
is_again (Open cpu quota drives) = not (has_file_name drives)
is_again (Key slot keys) = true
is_again (Grant slot steps goal) = true
is_again (Take slot most) = true
is_again (ListTake slot most) = true
is_again (Turn slot keys steps) = true
is_again (Fork slot) = true
is_again (Close slot out) = is_no_name out.a
is_again r = false

-- the host, unless the request is refused
abbrev pub host_if_done : Served → Option Host
host_if_done x = if is_refusal x.reply then None else Some x.host

abbrev pub redone_asked : Host → Result WireAsked AskedFault → Option Host
redone_asked h (Ok r) = if is_again r then host_if_done (served_with h [] no_work r) else None
redone_asked h (Err fault) = None

abbrev pub restored_unless : Option HostRestoreError → Host → Option Host
restored_unless None h = Some h
restored_unless (Some fault) h = None

-- the host after an entry was done again, if the host does not refuse it
abbrev pub redone : Host → KeptEntry → Option Host
redone h (KeptRequest d) = redone_asked h (request_asked d)
redone h (KeptSaving bytes) = restored_unless (restore_fault h (restored bytes)) (with_slot_restored h (restored bytes))
redone h (KeptNumber next) = if nat_le h.openings next then Some (numbered_from next h) else None

abbrev pub redone_all : Host → List KeptEntry → Option Host
redone_all h [] = Some h
redone_all h (e ∷ es) = option_and_then (λ g. redone_all g es) (redone h e)

-- the host refuses an entry, or there is no memory for it
abbrev pub IsUndone : Host → KeptEntry → RedoFault → Type 0
IsUndone h e fault.Refused = redone h e ≡ None
IsUndone h e fault.OutOfMemory = ⊤

-- what the reply says of a request that was done again
abbrev pub redo_result : Answered → Result ⊤ RedoFault
redo_result (Refused refusal.OutOfMemory) = Err fault.OutOfMemory
redo_result (Refused why) = Err fault.Refused
redo_result (Wrong why) = Err fault.Refused
redo_result reply = Ok tt

-- ---- the laws

-- What events change, done again on the host before them, makes the host behind them.
abbrev pub JournalsRemake : Type 0
JournalsRemake = (h : Host) (es : List WireEvent) → AllBelow h.openings h.slots → AreChangesTrue (changes_of h es) →
    redone_all h (map change_entry (changes_of h es)) ≡ Some (host_served h es)

-- And the first of them make the host behind the first events.
abbrev pub BegunJournalsRemake : Type 0
BegunJournalsRemake = (h : Host) (es : List WireEvent) (count : ℕ) → AllBelow h.openings h.slots → AreChangesTrue (changes_of h es) →
    (n : ℕ) × (redone_all h (take count (map change_entry (changes_of h es))) ≡ Some (host_served h (take n es)))
