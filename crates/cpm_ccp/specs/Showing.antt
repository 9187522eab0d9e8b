-- TYPE: CP/M 2.2 Operating System Manual, section 1.4, Built-in Commands.
use Rattle.std.specs.Prelude.{ℕ, ◌==◌, ◌&&◌, Bool, true, false, not, List, [], ◌∷◌, slice_index, Result, Ok, Err, if◌then◌else◌}
use Rattle.std.specs.List.{before_first, list_any}
use Rattle.cpm_geom.specs.Disk.{Disk}
use Rattle.cpm_volume.specs.declared.fcb.Fcb.{Fcb}
use Rattle.cpm_volume.specs.declared.answer.Fault.{Fault as Failure}
use Rattle.cpm_volume.specs.declared.answer.Answer.{Answer}
use Rattle.cpm_volume.specs.declared.answer.Answer.TheVariants.{Fault}
use Rattle.cpm_console.specs.Terminal.{Terminal, said, expanded}
use Rattle.cpm_drives.specs.Files.{open_file, read_next, next_ahead}
use Rattle.cpm_bdos.specs.declared.session.Session.{Session}
use Rattle.cpm_bdos.specs.declared.session.CommandPart.TheVariants as part
use Rattle.cpm_ccp.specs.declared.message.Message.TheVariants.{NoFile}
use Rattle.cpm_ccp.specs.Parts.{at_part, finished, says_below, message_told, is_stopped, held_at_part, own_record, record_read, failed, with_call}

-- the file is open, and is shown from a fresh line on
abbrev pub after_type_open : Result ℕ Failure → Session → Session
after_type_open (Err which) s = failed which s
after_type_open (Ok code) s = if code == 0xFF then message_told s NoFile else at_part (says_below s []) part.Show

-- function 15
unfoldable pub show_begun : Disk → Fcb → Session → Session
show_begun system file s =
    let c = open_file s.disks system file own_record in after_type_open c.answer (with_call s c)

-- 1Ah ends a text
abbrev pub ends_text : ℕ → Bool
ends_text c = c == 0x1A

-- the characters of a record that are shown, one after the other, and whether the text ends among them
abbrev pub record_text : List ℕ → List ℕ
record_text bytes = before_first ends_text bytes

abbrev pub ends_in : List ℕ → Bool
ends_in bytes = list_any ends_text bytes

-- own: a tab is expanded at the column where it is shown
unfoldable pub wrote_all : Terminal → List ℕ → Terminal
wrote_all t [] = t
wrote_all t (c ∷ cs) = wrote_all (said t (expanded t.column c)) cs

abbrev pub record_shown : List ℕ → Session → Session
record_shown bytes s =
    let t = record s { console = wrote_all s.console (record_text bytes) } in
    if ends_in bytes then finished t else at_part t part.Show

-- where there is no further record the text ends
abbrev pub after_type_read : Result ℕ Failure → List ℕ → Session → Session
after_type_read (Err which) bytes s = failed which s
after_type_read (Ok code) bytes s = if code == 0 then record_shown bytes s else finished s

-- function 20
unfoldable pub next_shown : Disk → Session → Session
next_shown system s =
    let c = read_next s.disks system s.file own_record in after_type_read c.answer (record_read c) (with_call s c)

-- own: what the next record would show, or a fault of its drive, is looked at first; at the end, and where 1Ah comes first, nothing is shown
abbrev pub shows_record : Result (List ℕ) Answer → Bool
shows_record (Ok bytes) = not (ends_text (slice_index bytes 0))
shows_record (Err (Fault which)) = true
shows_record (Err _) = false

unfoldable pub shown_on : Disk → Session → Session
shown_on system s =
    if is_stopped s && shows_record (next_ahead s.disks system s.file) then held_at_part s part.Show else next_shown system s
