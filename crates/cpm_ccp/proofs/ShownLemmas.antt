-- What a part of DIR or TYPE looks ahead to is what it shows.
use Rattle.std.proofs.Common.{◌≡◌, ℕ, suc, ◌+◌, ◌<◌, ◌≤◌, ◌%◌, Bool, true, false, not, refl, sym, ap, ◌∙◌, List, [], ◌∷◌, ◌++◌, length, length-append, get_or, map, take, replicate, Option, Some, None, Result, Ok, Err, ◌⊎◌, inl, inr, arith}
use Rattle.std.specs.Prelude.{if◌then◌else◌, ◌==◌, ◌-◌, ◌||◌, slice_range, codes}
use Rattle.std.specs.List.{before_first, prefix_len}
use Rattle.std.proofs.lemmas.List.{length-replicate}
use Rattle.cpm_geom.specs.Disk.{Disk, IsDisk, records_of}
use Rattle.cpm_geom.specs.Geometry.{dpb_of, IsRecord}
use Rattle.cpm_console.specs.Terminal.{Terminal, said, shown, expanded}
use Rattle.cpm_console.proofs.Said.{length-screen_said}
use Rattle.cpm_volume.specs.declared.fcb.Fcb.{Fcb}
use Rattle.cpm_volume.specs.declared.answer.Answer.{Answer}
use Rattle.cpm_volume.specs.declared.answer.Answer.TheVariants as answer
use Rattle.cpm_volume.specs.declared.answer.Fault.{Fault as Failure}
use Rattle.cpm_volume.specs.declared.answer.Fault.TheVariants as failure
use Rattle.cpm_volume.specs.Files.{entry_at}
use Rattle.cpm_volume.specs.Operations.{VolumeOutcome}
use Rattle.cpm_volume.specs.Operations as operations
use Rattle.cpm_directory.specs.Directory.{entries_of}
use Rattle.cpm_drive.specs.declared.drive.Drive.{Drive}
use Rattle.cpm_drive.specs.Drive.{volume_of, drive_after, after_call}
use Rattle.cpm_drive.specs.Reads.{record_ahead, ahead, lent_drive}
use Rattle.cpm_drives.specs.declared.disks.Disks.{Disks}
use Rattle.cpm_drives.specs.Disks.{is_there, own_drive, system_drive, drive_or, drive_at}
use Rattle.cpm_drives.specs.Selecting.{ready}
use Rattle.cpm_drives.specs.Calls.{FileCall, code_of_answer, on_named_drive}
use Rattle.cpm_drives.specs.Files.{open_file, read_next_on, read_next, marked_drive, next_ahead}
use Rattle.cpm_bdos.specs.Faults.{fault_name, in_fault, fault_text}
use Rattle.cpm_bdos.specs.declared.session.Session.{Session}
use Rattle.cpm_bdos.proofs.Showing.{length-screen_shown}
use Rattle.cpm_bdos.proofs.HoldLaws.{said_grows}
use Rattle.cpm_ccp.specs.declared.message.Message.{Message}
use Rattle.cpm_ccp.specs.declared.message.Message.TheVariants as message
use Rattle.cpm_ccp.specs.Message.{message_text}
use Rattle.cpm_ccp.specs.Parts.{says, message_told, own_record, record_read, command_drive, with_call}
use Rattle.cpm_ccp.specs.Listing.{before_file, low_seven, file_text, entries_listed, next_listed, has_next, file_shown, drive_used, list_next, shows_file}
use Rattle.cpm_ccp.specs.Showing.{after_type_open, show_begun, ends_text, record_text, ends_in, wrote_all, record_shown, after_type_read, next_shown, shows_record}
use Rattle.cpm_ccp.specs.Laws.{IsInUse}
use Rattle.cpm_ccp.proofs.AheadLemmas.{same_read, TellsOutcome, told_read, WritesOneAtMost, wrote_read, BeginsAs, begins_after}

-- a step shows something, or nothing
abbrev pub Grows : Session → Session → Type 0
Grows s t = t.console.screen ≡ s.console.screen → ⊥

abbrev pub Stays : Session → Session → Type 0
Stays s t = t.console.screen ≡ s.console.screen

grows_if : (b : Bool) (s x y : Session) → Grows s x → Grows s y → Grows s (if b then x else y)
grows_if true s x y hx hy = hx
grows_if false s x y hx hy = hy

-- ---- texts

grows_says : (s : Session) (text : List ℕ) → 0 < length text → Grows s (says s text)
grows_says s text some same = said_grows s.console text some same

cons_some : (x : ℕ) (xs : List ℕ) → 0 < length (x ∷ xs)
cons_some x xs = omega arith

pub grows_told : (s : Session) (words : Message) → Grows s (message_told s words)
grows_told s words same =
    grows_says s (13 ∷ 10 ∷ message_text words) (cons_some 13 (10 ∷ message_text words)) same

shown_grows : (t : Terminal) (text : List ℕ) → 0 < length text → (shown t text).screen ≡ t.screen → ⊥
shown_grows t text some same = omega (arith, length-screen_shown t text, ap length same, some)

pub grows_fault : (s : Session) (which : Failure) (drive : ℕ) → Grows s (in_fault s which drive)
grows_fault s which drive same =
    shown_grows s.console (fault_text which drive) (cons_some 13 (10 ∷ (codes "Bdos Err On " ++ ((65 + drive % 16) ∷ (codes ": " ++ fault_name which))))) same

-- ---- DIR

before_some : (column drive : ℕ) → 0 < length (before_file column drive)
before_some column drive = by_place (column == 0)
  where
    by_place : (first : Bool) → 0 < length (if first then 13 ∷ 10 ∷ (65 + drive % 16) ∷ 58 ∷ 32 ∷ [] else 32 ∷ 58 ∷ 32 ∷ [])
    by_place true = omega arith
    by_place false = omega arith

file_some : (column drive : ℕ) (name : List ℕ) → 0 < length (file_text column drive name)
unfolding file_text
file_some column drive name =
    omega (arith, before_some column drive, length-append (before_file column drive) (map low_seven (take 8 name) ++ (32 ∷ map low_seven (slice_range name 8 11))))

grows_file_shown : (index column : ℕ) (name : List ℕ) (s : Session) → Grows s (file_shown index column name s)
grows_file_shown index column name s same =
    grows_says s (file_text column (command_drive s) name) (file_some column (command_drive s) name) same

pub listed_first : (system : Disk) (from column : ℕ) (s : Session) → Grows s (list_next system from column true s)
unfolding list_next
listed_first system from column s =
    grows_if (not (is_there s.disks (command_drive s))) s _ _ (grows_fault s failure.Select (command_drive s))
    (grows_if (has_next system from s) s _ _ (grows_file_shown (next_listed system from s) column (entry_at (entries_listed system s) (next_listed system from s)).extent.name (drive_used system s)) (grows_told (drive_used system s) message.NoFile))

either_grows : (gone more : Bool) (s x y z : Session) → (gone || more) ≡ true → Grows s x → Grows s y → Grows s (if gone then x else if more then y else z)
either_grows true more s x y z h hx hy = hx
either_grows false true s x y z h hx hy = hy
either_grows false false s x y z h hx hy = absurd cc

neither_grows : (gone more : Bool) (s x y z : Session) → (gone || more) ≡ false → Stays s z → Stays s (if gone then x else if more then y else z)
neither_grows true more s x y z h hz = absurd cc
neither_grows false true s x y z h hz = absurd cc
neither_grows false false s x y z h hz = hz

pub listed_grows : (system : Disk) (from column : ℕ) (s : Session) → shows_file system from s ≡ true → Grows s (list_next system from column false s)
unfolding list_next shows_file
listed_grows system from column s h =
    either_grows (not (is_there s.disks (command_drive s))) (has_next system from s) s _ _ _ h (grows_fault s failure.Select (command_drive s)) (grows_file_shown (next_listed system from s) column (entry_at (entries_listed system s) (next_listed system from s)).extent.name (drive_used system s))

pub listed_stays : (system : Disk) (from column : ℕ) (s : Session) → shows_file system from s ≡ false → Stays s (list_next system from column false s)
unfolding list_next shows_file
listed_stays system from column s h =
    neither_grows (not (is_there s.disks (command_drive s))) (has_next system from s) s _ _ _ h refl

-- ---- TYPE: the first step

grows_after_open : (a : Result ℕ Failure) (s : Session) → Grows s (after_type_open a s)
grows_after_open (Err which) s = grows_fault s which (command_drive s)
grows_after_open (Ok code) s =
    grows_if (code == 255) s _ _ (grows_told s message.NoFile) (grows_says s (13 ∷ 10 ∷ []) (cons_some 13 (10 ∷ [])))

pub begun_grows : (system : Disk) (file : Fcb) (s : Session) → Grows s (show_begun system file s)
unfolding show_begun
begun_grows system file s =
    let c = open_file s.disks system file own_record in grows_after_open c.answer (with_call s c)

-- ---- TYPE: a record

wrote_longer : (t : Terminal) (text : List ℕ) → length t.screen ≤ length (wrote_all t text).screen
unfolding wrote_all
wrote_longer t [] = omega arith
wrote_longer t (c ∷ cs) =
    omega (arith, wrote_longer (said t (expanded t.column c)) cs, length-screen_said t (expanded t.column c))

expanded_some : (column byte : ℕ) → 0 < length (expanded column byte)
unfolding expanded
expanded_some column byte = by_kind (byte == 9)
  where
    by_kind : (tab : Bool) → 0 < length (if tab then replicate (8 - column % 8) 32 else byte ∷ [])
    by_kind true = rw (length-replicate {A = ℕ} (8 - column % 8) 32) (omega arith)
    by_kind false = omega arith

wrote_grows : (t : Terminal) (c : ℕ) (cs : List ℕ) → (wrote_all t (c ∷ cs)).screen ≡ t.screen → ⊥
unfolding wrote_all
wrote_grows t c cs same =
    omega (arith, ap length same, wrote_longer (said t (expanded t.column c)) cs, length-screen_said t (expanded t.column c), expanded_some t.column c)

wrote_nothing : (t : Terminal) → wrote_all t [] ≡ t
unfolding wrote_all
wrote_nothing t = refl

take_more : (n b : ℕ) (bs : List ℕ) → take (1 + n) (b ∷ bs) ≡ b ∷ take n bs
take_more n b bs = let e : 1 + n ≡ suc n = omega arith in ap (λ k. take k (b ∷ bs)) e

before_cons : (p : ℕ → Bool) (b : ℕ) (bs : List ℕ) → p b ≡ false → before_first p (b ∷ bs) ≡ b ∷ before_first p bs
before_cons p b bs h = rw h (take_more (prefix_len (λ x. not (p x)) bs) b bs)

before_nil : (p : ℕ → Bool) (b : ℕ) (bs : List ℕ) → p b ≡ true → before_first p (b ∷ bs) ≡ []
before_nil p b bs h = rw h refl

console_if : (b : Bool) (x y : Session) (t : Terminal) → x.console ≡ t → y.console ≡ t → (if b then x else y).console ≡ t
console_if true x y t hx hy = hx
console_if false x y t hx hy = hy

record_console : (bytes : List ℕ) (s : Session) → (record_shown bytes s).console ≡ wrote_all s.console (record_text bytes)
record_console bytes s =
    console_if (ends_in bytes) _ _ (wrote_all s.console (record_text bytes)) refl refl

record_grows : (b : ℕ) (bs : List ℕ) (s : Session) → ends_text b ≡ false → Grows s (record_shown (b ∷ bs) s)
record_grows b bs s h same =
    let now : (record_shown (b ∷ bs) s).console ≡ wrote_all s.console (b ∷ record_text bs) = record_console (b ∷ bs) s ∙ ap (wrote_all s.console) (before_cons ends_text b bs h) in
    wrote_grows s.console b (record_text bs) (sym (ap (λ (t : Terminal). t.screen) now) ∙ same)

record_stays : (b : ℕ) (bs : List ℕ) (s : Session) → ends_text b ≡ true → Stays s (record_shown (b ∷ bs) s)
record_stays b bs s h =
    let now : (record_shown (b ∷ bs) s).console ≡ s.console = record_console (b ∷ bs) s ∙ (ap (wrote_all s.console) (before_nil ends_text b bs h) ∙ wrote_nothing s.console) in
    ap (λ (t : Terminal). t.screen) now

-- what is looked at ahead, beside what the read then gives: a fault, no record, or a record that begins as the one ahead
record FailsSo (looks : Bool) (a : Result ℕ Failure) : Type 0 where
  which : Failure
  is : a ≡ Err which
  shows : looks ≡ true

record EndsSo (looks : Bool) (a : Result ℕ Failure) : Type 0 where
  is : a ≡ Ok 1
  shows : looks ≡ false

record GivesSo (looks : Bool) (a : Result ℕ Failure) (bytes : List ℕ) : Type 0 where
  is : a ≡ Ok 0
  size : length bytes ≡ 128
  shows : looks ≡ not (ends_text (get_or bytes 0 0))

abbrev Agrees : Bool → Result ℕ Failure → List ℕ → Type 0
Agrees looks a bytes = FailsSo looks a ⊎ (EndsSo looks a ⊎ GivesSo looks a bytes)

not_true : (b : Bool) → true ≡ not b → b ≡ false
not_true true h = absurd cc
not_true false h = refl

not_false : (b : Bool) → false ≡ not b → b ≡ true
not_false true h = refl
not_false false h = absurd cc

grows_given : (bytes : List ℕ) (s : Session) → length bytes ≡ 128 → ends_text (get_or bytes 0 0) ≡ false → Grows s (record_shown bytes s)
grows_given [] s size h = absurd (omega (arith, size))
grows_given (b ∷ bs) s size h = record_grows b bs s h

stays_given : (bytes : List ℕ) (s : Session) → length bytes ≡ 128 → ends_text (get_or bytes 0 0) ≡ true → Stays s (record_shown bytes s)
stays_given [] s size h = absurd (omega (arith, size))
stays_given (b ∷ bs) s size h = record_stays b bs s h

agrees_grows : (looks : Bool) (a : Result ℕ Failure) (bytes : List ℕ) (s : Session) → Agrees looks a bytes → looks ≡ true → Grows s (after_type_read a bytes s)
agrees_grows looks a bytes s (inl f) h = rw f.is (grows_fault s f.which (command_drive s))
agrees_grows looks a bytes s (inr (inl e)) h = absurd (let x = sym h ∙ e.shows in cc)
agrees_grows looks a bytes s (inr (inr g)) h =
    rw g.is (grows_given bytes s g.size (not_true _ (sym h ∙ g.shows)))

agrees_stays : (looks : Bool) (a : Result ℕ Failure) (bytes : List ℕ) (s : Session) → Agrees looks a bytes → looks ≡ false → Stays s (after_type_read a bytes s)
agrees_stays looks a bytes s (inl f) h = absurd (let x = sym h ∙ f.shows in cc)
agrees_stays looks a bytes s (inr (inl e)) h = rw e.is refl
agrees_stays looks a bytes s (inr (inr g)) h =
    rw g.is (stays_given bytes s g.size (not_false _ (sym h ∙ g.shows)))

-- ---- what is ahead on a drive

take_all : (bytes : List ℕ) → length bytes ≡ 128 → take 128 bytes ≡ bytes
take_all bytes size = ap (λ n. take n bytes) (sym size) ∙ whole bytes
  where
    whole : (xs : List ℕ) → take (length xs) xs ≡ xs
    whole [] = refl
    whole (x ∷ xs) = ap (λ (r : List ℕ). x ∷ r) (whole xs)

same_begin : (old new : List ℕ) → BeginsAs old new → length (take 128 new) ≡ 128
same_begin old new b = ap length (take_all new b.size) ∙ b.size

same_look : (old new : List ℕ) → BeginsAs old new → not (ends_text (get_or old 0 0)) ≡ not (ends_text (get_or (take 128 new) 0 0))
same_look old new b =
    ap (λ c. not (ends_text c)) (sym b.first ∙ ap (λ (xs : List ℕ). get_or xs 0 0) (sym (take_all new b.size)))

-- the outcome that is looked at ahead, and the one of the read: the same answer and number
module _ (here : Drive) (whole : IsDisk here.image) (fcb : Fcb) (buffer : List ℕ) (disk : Disk) (same : disk ≡ here.image) where
  agrees_by : (o p : VolumeOutcome) → o.answer ≡ p.answer → o.read ≡ p.read → TellsOutcome here.image.format p → ((n : ℕ) → IsRecord here.image.format n → BeginsAs (get_or (records_of here.image) n []) (get_or (records_of (drive_after here p.volume).image) n [])) → Agrees (shows_record (record_ahead disk o.answer o.read)) (code_of_answer (after_call here fcb buffer p).answer) (take 128 (after_call here fcb buffer p).buffer)
  unfolding after_call
  agrees_by o p answers reads (inl g) begins =
      let b = begins g.number g.there in
      rw (answers, reads, g.answer, g.read, same) (inr (inr (record { is = refl; size = same_begin _ _ b; shows = same_look _ _ b })))
  agrees_by o p answers reads (inr (inl f)) begins =
      rw (answers, reads, f.answer, f.read) (inl (record { which = f.which; is = refl; shows = refl }))
  agrees_by o p answers reads (inr (inr e)) begins =
      rw (answers, reads, e.answer, e.read) (inr (inl (record { is = refl; shows = refl })))

module _ (user : ℕ) (fcb : Fcb) (buffer : List ℕ) where
  after_image : (here : Drive) (o : VolumeOutcome) → IsDisk here.image → WritesOneAtMost (entries_of here.image) o.volume.written → (n : ℕ) → IsRecord here.image.format n → BeginsAs (get_or (records_of here.image) n []) (get_or (records_of (drive_after here o.volume).image) n [])
  unfolding drive_after
  after_image here o whole wrote n there =
      begins_after here.image whole n there here.marks.is_protected o.volume.written wrote

  agrees_on : (marked here : Drive) → marked.image ≡ here.image → marked.marks.is_protected ≡ here.marks.is_protected → IsDisk here.image → Agrees (shows_record (ahead marked user fcb)) (read_next_on user fcb buffer here).answer (take 128 (read_next_on user fcb buffer here).buffer)
  unfolding ahead read_next_on
  agrees_on marked here image protected whole =
      let f = here.image.format in
      let o = operations.read_next_on_volume (dpb_of f) here.marks.is_protected (volume_of here.image marked.marks.reserved) user fcb.extent fcb.current_record in
      let p = operations.read_next_on_volume (dpb_of f) here.marks.is_protected (volume_of here.image here.marks.reserved) user fcb.extent fcb.current_record in
      let same = same_read (dpb_of f) here.marks.is_protected here.image marked.marks.reserved here.marks.reserved user fcb.extent fcb.current_record in
      rw (image, protected) (agrees_by here whole fcb buffer here.image refl o p same.0 same.1 (told_read f fcb.current_record here.marks.is_protected (volume_of here.image here.marks.reserved) user fcb.extent) (after_image here p whole (wrote_read (dpb_of f) here.image here.marks.reserved here.marks.is_protected user fcb.extent fcb.current_record)))

-- ---- and in a session

image_if : (b : Bool) (x y : Drive) (disk : Disk) → x.image ≡ disk → y.image ≡ disk → (if b then x else y).image ≡ disk
image_if true x y disk hx hy = hx
image_if false x y disk hx hy = hy

ready_image : (drive : Drive) → (ready drive).image ≡ drive.image
ready_image drive = image_if drive.marks.is_logged_in _ _ drive.image refl refl

protected_if : (b protected : Bool) (x y : Drive) → x.marks.is_protected ≡ protected → y.marks.is_protected ≡ protected → (if b then x else y).marks.is_protected ≡ protected
protected_if true protected x y hx hy = hx
protected_if false protected x y hx hy = hy

ready_protected : (drive : Drive) → (ready drive).marks.is_protected ≡ drive.marks.is_protected
ready_protected drive =
    protected_if drive.marks.is_logged_in drive.marks.is_protected _ _ refl refl

marked_image : (disks : Disks) (system : Disk) (own : Option Drive) → (drive_or (lent_drive system disks.system) own).image ≡ (drive_or (system_drive disks system) own).image
unfolding system_drive
marked_image disks system None = refl
marked_image disks system (Some drive) = refl

marked_protected : (disks : Disks) (system : Disk) (own : Option Drive) → (own ≡ None → disks.system.is_protected ≡ true) → (drive_or (lent_drive system disks.system) own).marks.is_protected ≡ (drive_or (system_drive disks system) own).marks.is_protected
unfolding system_drive
marked_protected disks system None h = h refl
marked_protected disks system (Some drive) h = refl

agrees_if : (b : Bool) (x : Result (List ℕ) Answer) (c d : FileCall) → Agrees (shows_record x) c.answer (take 128 c.buffer) → d.answer ≡ Err failure.Select → Agrees (shows_record (if b then x else Err (answer.Fault failure.Select))) (if b then c else d).answer (take 128 (if b then c else d).buffer)
agrees_if true x c d h e = h
agrees_if false x c d h e = inl (record { which = failure.Select; is = e; shows = refl })

agrees_there : (system : Disk) (s : Session) → IsInUse system s → Agrees (shows_record (ahead (marked_drive s.disks system (command_drive s)) s.disks.user s.file)) (read_next_on s.disks.user s.file own_record (ready (drive_at s.disks system (command_drive s)))).answer (take 128 (read_next_on s.disks.user s.file own_record (ready (drive_at s.disks system (command_drive s)))).buffer)
unfolding marked_drive drive_at
agrees_there system s in_use =
    let own = own_drive s.disks (command_drive s) in
    let drive = drive_or (system_drive s.disks system) own in
    agrees_on s.disks.user s.file own_record (drive_or (lent_drive system s.disks.system) own) (ready drive) (marked_image s.disks system own ∙ sym (ready_image drive)) (marked_protected s.disks system own in_use.protected ∙ sym (ready_protected drive)) (rw (ready_image drive) in_use.whole)

agrees_now : (system : Disk) (s : Session) → IsInUse system s → Agrees (shows_record (next_ahead s.disks system s.file)) (read_next s.disks system s.file own_record).answer (record_read (read_next s.disks system s.file own_record))
unfolding next_ahead read_next on_named_drive
agrees_now system s in_use =
    agrees_if (is_there s.disks (command_drive s)) _ _ _ (agrees_there system s in_use) refl

pub record_grows_ahead : (system : Disk) (s : Session) → IsInUse system s → shows_record (next_ahead s.disks system s.file) ≡ true → Grows s (next_shown system s)
unfolding next_shown
record_grows_ahead system s in_use h =
    let c = read_next s.disks system s.file own_record in
    agrees_grows (shows_record (next_ahead s.disks system s.file)) c.answer (record_read c) (with_call s c) (agrees_now system s in_use) h

pub record_stays_ahead : (system : Disk) (s : Session) → IsInUse system s → shows_record (next_ahead s.disks system s.file) ≡ false → Stays s (next_shown system s)
unfolding next_shown
record_stays_ahead system s in_use h =
    let c = read_next s.disks system s.file own_record in
    agrees_stays (shows_record (next_ahead s.disks system s.file)) c.answer (record_read c) (with_call s c) (agrees_now system s in_use) h
