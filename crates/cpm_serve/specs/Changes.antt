-- What of a request that was done is kept in a journal. All of it is own: docs/JOURNAL.md.
use Rattle.std.specs.Prelude.{⊤, ◌||◌, ℕ, Bool, true, false, is_none, List, [], ◌∷◌, Option, Some, None, option_map, Result, Ok, Err, if◌then◌else◌}
use Rattle.serde_json.specs.Data.{Data}
use Rattle.cpm_slots.specs.Host.{Host, saving_of, slot_at}
use Rattle.cpm_protocol.specs.Replies.{Answered, Opened, Refused, Wrong}
use Rattle.cpm_protocol.specs.Requests.{FourNames, WireAsked, Key, Grant, Take, ListTake, Turn, Fork, Close, Open, Resume}
use Rattle.cpm_serve.specs.Drives.{disk_named}
use Rattle.cpm_serve.specs.Folder.{FolderAccess, HostChange, AsAsked, AsClosed, AsSaved, Kept, Unkept}
use Rattle.cpm_serve.specs.Served.{Served}
use Rattle.cpm_serve.specs.declared.folder.FolderError.{FolderError}
use Rattle.cpm_serve.specs.declared.folder.FolderError.TheVariants as fault
use Rattle.cpm_serve.specs.declared.folder.ServeError.{ServeError}
use Rattle.cpm_serve.specs.declared.folder.ServeError.TheVariants as error

-- whether a name is that of a file: a blank disk is in none
abbrev pub is_in_file : Option (List ℕ) → Bool
is_in_file None = false
is_in_file (Some name) = is_none (disk_named name)

abbrev pub has_file_name : FourNames → Bool
has_file_name names = is_in_file names.a || is_in_file names.b || is_in_file names.c || is_in_file names.d

-- a session that was opened from files is kept as its saving, so that a journal needs no other file
abbrev pub opened_change : Host → Answered → Option HostChange
opened_change h (Opened id) = option_map (λ s. AsSaved (saving_of h s)) (slot_at id h.slots)
opened_change h reply = None

-- What is kept of a request that was done, with the host afterwards. What changes no session is not kept.
abbrev pub change_done : Data → WireAsked → Host → Answered → Option HostChange
change_done d (Open cpu quota drives) h reply = if has_file_name drives then opened_change h reply else Some (AsAsked d)
change_done d (Resume from) h reply = opened_change h reply
change_done d (Key slot keys) h reply = Some (AsAsked d)
change_done d (Grant slot steps goal) h reply = Some (AsAsked d)
change_done d (Take slot most) h reply = Some (AsAsked d)
change_done d (ListTake slot most) h reply = Some (AsAsked d)
change_done d (Turn slot keys steps) h reply = Some (AsAsked d)
change_done d (Fork slot) h reply = Some (AsAsked d)
change_done d (Close slot out) h reply = Some (AsClosed slot)
change_done d r h reply = None

abbrev pub is_refusal : Answered → Bool
is_refusal (Refused why) = true
is_refusal (Wrong fault) = true
is_refusal reply = false

-- nothing is kept of one that was refused
abbrev pub kept_change : Data → WireAsked → Served → Option HostChange
kept_change d r x = if is_refusal x.reply then None else change_done d r x.host x.reply

-- how it is kept; `unkept` says why it can't be
abbrev pub kept_unless : (unkept : Option FolderError) → HostChange → FolderAccess
kept_unless None change = Kept change
kept_unless (Some why) change = Unkept change why

abbrev pub keep_accesses : (unkept : Option FolderError) → Option HostChange → List FolderAccess
keep_accesses unkept None = []
keep_accesses unkept (Some change) = kept_unless unkept change ∷ []

-- why a folder did not keep a change, as the code has it
abbrev pub unkept_by : Result ⊤ FolderError → Option FolderError
unkept_by (Ok done) = None
unkept_by (Err why) = Some why

-- a line whose change is not kept ends so
abbrev pub unkept_error : FolderError → ServeError
unkept_error fault.OutOfMemory = error.OutOfMemory
unkept_error why = error.Unkept
