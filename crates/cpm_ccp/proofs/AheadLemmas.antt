-- What a sequential read would give and what it gives: the same answer, and a record that begins with the same byte.
use Rattle.std.proofs.Common.{◌≡◌, ◌≢◌, ℕ, ◌+◌, ◌*◌, ◌/◌, ◌%◌, ◌<◌, ◌≤◌, Bool, true, false, not, ◌&&◌, refl, sym, ap, ◌∙◌, List, [], ◌∷◌, length, get_or, set, Option, Some, None, ◌⊎◌, inl, inr, arith}
use Rattle.std.specs.Prelude.{if◌then◌else◌, ◌==◌, nat_lt, ⊤}
use Rattle.std.proofs.lemmas.Bool.{ltb-true, ltb-false, cases_eq}
use Rattle.std.proofs.lemmas.List.{get_or-set_same, get_or-set_other}
use Rattle.cpm_geom.specs.declared.dpb.Dpb.{Dpb}
use Rattle.cpm_geom.specs.declared.format.Format.{Format}
use Rattle.cpm_geom.specs.Geometry.{dpb_of, IsRecord, record_index}
use Rattle.cpm_geom.specs.Disk.{Disk, IsDisk, records_of, sector_at, with_sector}
use Rattle.cpm_geom.proofs.GeometryLemmas.{record_within}
use Rattle.cpm_geom.proofs.RecordLemmas.{are_listed, are_records, written_there}
use Rattle.cpm_geom.proofs.SectorLemmas.{put_length}
use Rattle.cpm_volume.specs.declared.extent.Extent.{Extent}
use Rattle.cpm_volume.specs.declared.extent.Entry.{Entry}
use Rattle.cpm_volume.specs.declared.answer.Fault.{Fault as Failure}
use Rattle.cpm_volume.specs.Encoding.{entry_of, entry_byte, entry_bytes}
use Rattle.cpm_volume.specs.Files.{Volume, DiskWrite, entry_put, entry_at, no_entry, first_match, group_of, extent_number, block_number, entry_place_of}
use Rattle.cpm_volume.specs.Operations.{VolumeOutcome, ends, gives, with_entry, has_bad_block, agree, merged, closed_entry, is_unchanged, Close, refused, close_fault, closed, close_extent, open_to_read, reading, Target, Place, stopped, standing, opened_in, have_extent, closed_in, cross, next_target, next_place, get_record, record_in_block, read_in, read_next_on_volume}
use Rattle.cpm_volume.specs.declared.answer.Answer.TheVariants.{Done as done, NoRecord as no_record, Fault as fault}
use Rattle.cpm_volume.specs.declared.answer.Fault.TheVariants.{BadSector as bad_sector}
use Rattle.cpm_directory.specs.Directory.{entries_of, slot_bytes, record_with_entry}
use Rattle.cpm_directory.proofs.DriveLemmas.{entry_record, entries_length, entry_is}
use Rattle.cpm_directory.proofs.SlotLemmas.{slot_is, own_slot, other_slot, entry_size}
use Rattle.cpm_drive.specs.Drive.{volume_of, after_write, after_writes}
use Rattle.cpm_drive.proofs.ReadLemmas.{get_volume, in_block_there}

-- ---- the answer and the record's number don't hang on the blocks that are reserved

abbrev Same : VolumeOutcome → VolumeOutcome → Type 0
Same o p = (o.answer ≡ p.answer) × (o.read ≡ p.read)

same_if : (b : Bool) (o p o' p' : VolumeOutcome) → Same o o' → Same p p' → Same (if b then o else p) (if b then o' else p')
same_if true o p o' p' ho hp = ho
same_if false o p o' p' ho hp = hp

same_get : (d : Dpb) (v w : Volume) (x : Extent) (current next : ℕ) → Same (get_record d v x current next) (get_record d w x current next)
unfolding get_record ends gives
same_get d v w x current next =
    let b = block_number x (entry_place_of d x current) in
    same_if (not (nat_lt current x.record_count)) _ _ _ _ (refl, refl) (same_if (nat_lt d.last_block b) _ _ _ _ (refl, refl) (same_if (b == 0) _ _ _ _ (refl, refl) (refl, refl)))

module _ (d : Dpb) (current : ℕ) where
  abbrev SameAt : Place → Place → Type 0
  SameAt p q = Same (read_in d current 1 p) (read_in d current 1 q)

  same_at_if : (b : Bool) (p q p' q' : Place) → SameAt p p' → SameAt q q' → SameAt (if b then p else q) (if b then p' else q')
  same_at_if true p q p' q' hp hq = hp
  same_at_if false p q p' q' hp hq = hq

  same_opened : (v w : Volume) (x : Extent) (t : Target) (o : Option Extent) → SameAt (opened_in v x t o) (opened_in w x t o)
  unfolding read_in opened_in ends
  same_opened v w x t None = (refl, refl)
  same_opened v w x t (Some it) = same_get d v w it t.current (t.current + 1)

  same_closed : (v w : Volume) (user : ℕ) (x : Extent) (t : Target) (c : Close) → SameAt (closed_in d reading v user x t c) (closed_in d reading w user x t c)
  unfolding read_in closed_in have_extent with_entry ends
  same_closed v w user x t refused = (refl, refl)
  same_closed v w user x t (close_fault which) = (refl, refl)
  same_closed v w user x t (closed i es y) =
      same_opened (with_entry v i es) (with_entry w i es) y t (open_to_read d es user y.name t.number)

pub same_read : (d : Dpb) (protected : Bool) (disk : Disk) (r r' : List Bool) (user : ℕ) (x : Extent) (current : ℕ) → Same (read_next_on_volume d protected (volume_of disk r) user x current) (read_next_on_volume d protected (volume_of disk r') user x current)
unfolding read_next_on_volume next_place cross volume_of read_in ends
same_read d protected disk r r' user x current =
    same_at_if d current (nat_lt current 128) _ _ _ _ (same_get d (volume_of disk r) (volume_of disk r') x current (current + 1)) (same_at_if d current (extent_number x == 511) _ _ _ _ (refl, refl) (same_closed d current (volume_of disk r) (volume_of disk r') user x (next_target x) (close_extent d protected (entries_of disk) user x)))

-- ---- what it answers: a record that is there, a fault, or that there is none

pub record GivesOne (f : Format) (o : VolumeOutcome) : Type 0 where
  pub number : ℕ
  pub answer : o.answer ≡ done
  pub read : o.read ≡ Some number
  pub there : IsRecord f number

pub record Fails (o : VolumeOutcome) : Type 0 where
  pub which : Failure
  pub answer : o.answer ≡ fault which
  pub read : o.read ≡ None

pub record Ends (o : VolumeOutcome) : Type 0 where
  pub answer : o.answer ≡ no_record
  pub read : o.read ≡ None

abbrev pub TellsOutcome : Format → VolumeOutcome → Type 0
TellsOutcome f o = GivesOne f o ⊎ (Fails o ⊎ Ends o)

told_if : (f : Format) (b : Bool) (o p : VolumeOutcome) → (b ≡ true → TellsOutcome f o) → (b ≡ false → TellsOutcome f p) → TellsOutcome f (if b then o else p)
told_if f true o p ho hp = ho refl
told_if f false o p ho hp = hp refl

told_end : (f : Format) (v : Volume) (x : Extent) (current : ℕ) → TellsOutcome f (ends no_record v x current)
unfolding ends
told_end f v x current = inr (inr (record { answer = refl; read = refl }))

told_fault : (f : Format) (which : Failure) (v : Volume) (x : Extent) (current : ℕ) → TellsOutcome f (ends (fault which) v x current)
unfolding ends
told_fault f which v x current = inr (inl (record { which = which; answer = refl; read = refl }))

told_given : (f : Format) (v : Volume) (x : Extent) (next number : ℕ) → IsRecord f number → TellsOutcome f (gives v x next number)
unfolding gives
told_given f v x next number there = inl (record { number = number; answer = refl; read = refl; there = there })

told_get : (f : Format) (v : Volume) (x : Extent) (current next : ℕ) → TellsOutcome f (get_record (dpb_of f) v x current next)
unfolding get_record
told_get f v x current next =
    let d = dpb_of f in
    let b = block_number x (entry_place_of d x current) in
    told_if f (not (nat_lt current x.record_count)) _ _ (λ h. told_end f v x current) (λ h. told_if f (nat_lt d.last_block b) _ _ (λ h. told_fault f bad_sector v x current) (λ low. told_if f (b == 0) _ _ (λ h. told_end f v x current) (λ h. told_given f v x next (record_in_block d b current) (in_block_there f b current (ltb-false d.last_block b low)))))

module _ (f : Format) (current : ℕ) where
  abbrev TellsAt : Place → Type 0
  TellsAt p = TellsOutcome f (read_in (dpb_of f) current 1 p)

  told_at_if : (b : Bool) (p q : Place) → TellsAt p → TellsAt q → TellsAt (if b then p else q)
  told_at_if true p q hp hq = hp
  told_at_if false p q hp hq = hq

  told_missing : (v : Volume) (x : Extent) → TellsAt (stopped no_record v x)
  unfolding read_in
  told_missing v x = told_end f v x current

  told_unwritten : (which : Failure) (v : Volume) (x : Extent) → TellsAt (stopped (fault which) v x)
  unfolding read_in
  told_unwritten which v x = told_fault f which v x current

  told_standing : (v : Volume) (x : Extent) (here : ℕ) → TellsAt (standing v x here)
  unfolding read_in
  told_standing v x here = told_get f v x here (here + 1)

  told_opened : (v : Volume) (x y : Extent) (o : Option Extent) → TellsAt (opened_in v x (next_target y) o)
  unfolding opened_in next_target
  told_opened v x y None = told_missing v x
  told_opened v x y (Some it) = told_standing v it 0

  told_closed : (v : Volume) (user : ℕ) (x : Extent) (c : Close) → TellsAt (closed_in (dpb_of f) reading v user x (next_target x) c)
  unfolding closed_in have_extent next_target
  told_closed v user x refused = told_missing v x
  told_closed v user x (close_fault which) = told_unwritten which v x
  told_closed v user x (closed i es y) = told_opened (with_entry v i es) y x _

  pub told_read : (protected : Bool) (v : Volume) (user : ℕ) (x : Extent) → TellsOutcome f (read_next_on_volume (dpb_of f) protected v user x current)
  unfolding read_next_on_volume next_place cross
  told_read protected v user x =
      told_at_if (nat_lt current 128) _ _ (told_standing v x current) (told_at_if (extent_number x == 511) _ _ (told_missing v x) (told_closed v user x (close_extent (dpb_of f) protected v.entries user x)))

-- ---- what it writes: nothing, or an entry with the user that it had

pub record WritesOne (es : List Entry) (ws : List DiskWrite) : Type 0 where
  pub index : ℕ
  pub entry : Entry
  pub is : ws ≡ entry_put index entry ∷ []
  pub within : index < length es
  pub user : entry.user ≡ (entry_at es index).user

abbrev pub WritesOneAtMost : List Entry → List DiskWrite → Type 0
WritesOneAtMost es ws = (ws ≡ []) ⊎ WritesOne es ws

abbrev Closes : List Entry → Close → Type 0
Closes es refused = ⊤
Closes es (close_fault which) = ⊤
Closes es (closed i now y) = (i < length es) × ((entry_at now i).user ≡ (entry_at es i).user)

closes_if : (es : List Entry) (b : Bool) (x y : Close) → (b ≡ true → Closes es x) → (b ≡ false → Closes es y) → Closes es (if b then x else y)
closes_if es true x y hx hy = hx refl
closes_if es false x y hx hy = hy refl

not_false : (b : Bool) → not b ≡ false → b ≡ true
not_false true h = refl
not_false false h = absurd cc

keeps_user : (es : List Entry) (i : ℕ) (x : Extent) → i < length es → (entry_at (set es i (closed_entry (entry_at es i) x)) i).user ≡ (entry_at es i).user
unfolding entry_at closed_entry
keeps_user es i x h = rw (get_or-set_same es i _ no_entry h) refl

closes_done : (es : List Entry) (i : ℕ) (x : Extent) → nat_lt i (length es) ≡ true → Closes es (closed i (set es i (closed_entry (entry_at es i) x)) x)
closes_done es i x h =
    let low = ltb-true i (length es) h in (low, keeps_user es i x low)

closes_extent : (d : Dpb) (protected : Bool) (es : List Entry) (user : ℕ) (x : Extent) → Closes es (close_extent d protected es user x)
unfolding close_extent
closes_extent d protected es user x =
    let i = first_match d es user x.name (group_of d (extent_number x)) in
    let e = entry_at es i in
    let both = record x { blocks = merged x.blocks e.extent.blocks } in
    closes_if es (not (nat_lt i (length es))) _ _ (λ h. tt) (λ there. closes_if es (has_bad_block d x.blocks) _ _ (λ h. tt) (λ h. closes_if es (not (agree x.blocks e.extent.blocks)) _ _ (λ h. tt) (λ h. closes_if es (protected && not (is_unchanged e.extent (closed_entry e both).extent)) _ _ (λ h. tt) (λ h. closes_done es i both (not_false _ there)))))

abbrev volume_at : Place → Volume
volume_at (stopped answer v x) = v
volume_at (standing v x here) = v

read_volume : (d : Dpb) (current : ℕ) (p : Place) → (read_in d current 1 p).volume ≡ volume_at p
unfolding read_in ends
read_volume d current (stopped answer v x) = refl
read_volume d current (standing v x here) = get_volume d v x here (here + 1)

module _ (d : Dpb) (disk : Disk) (r : List Bool) where
  abbrev WritesFewAt : Place → Type 0
  WritesFewAt p = WritesOneAtMost (entries_of disk) (volume_at p).written

  wrote_if : (b : Bool) (p q : Place) → WritesFewAt p → WritesFewAt q → WritesFewAt (if b then p else q)
  wrote_if true p q hp hq = hp
  wrote_if false p q hp hq = hq

  opened_volume : (v : Volume) (x : Extent) (t : Target) (o : Option Extent) → volume_at (opened_in v x t o) ≡ v
  unfolding opened_in
  opened_volume v x t None = refl
  opened_volume v x t (Some it) = refl

  wrote_entry : (i : ℕ) (es : List Entry) → i < length (entries_of disk) → (entry_at es i).user ≡ (entry_at (entries_of disk) i).user → WritesOneAtMost (entries_of disk) (with_entry (volume_of disk r) i es).written
  unfolding with_entry volume_of
  wrote_entry i es within user =
      inr (record { index = i; entry = entry_at es i; is = refl; within = within; user = user })

  wrote_opened : (i : ℕ) (es : List Entry) (x : Extent) (t : Target) (o : Option Extent) → WritesOneAtMost (entries_of disk) (with_entry (volume_of disk r) i es).written → WritesFewAt (opened_in (with_entry (volume_of disk r) i es) x t o)
  wrote_opened i es x t o h = rw (opened_volume (with_entry (volume_of disk r) i es) x t o) h

  wrote_closed : (user : ℕ) (x : Extent) (t : Target) (c : Close) → Closes (entries_of disk) c → WritesFewAt (closed_in d reading (volume_of disk r) user x t c)
  unfolding closed_in have_extent volume_of
  wrote_closed user x t refused h = inl refl
  wrote_closed user x t (close_fault which) h = inl refl
  wrote_closed user x t (closed i es y) h = wrote_opened i es y t _ (wrote_entry i es h.0 h.1)

  wrote_place : (protected : Bool) (user : ℕ) (x : Extent) (current : ℕ) → WritesFewAt (next_place d reading protected (volume_of disk r) user x current)
  unfolding next_place cross volume_of
  wrote_place protected user x current =
      wrote_if (nat_lt current 128) _ _ (inl refl) (wrote_if (extent_number x == 511) _ _ (inl refl) (wrote_closed user x (next_target x) (close_extent d protected (entries_of disk) user x) (closes_extent d protected (entries_of disk) user x)))

  pub wrote_read : (protected : Bool) (user : ℕ) (x : Extent) (current : ℕ) → WritesOneAtMost (entries_of disk) (read_next_on_volume d protected (volume_of disk r) user x current).volume.written
  unfolding read_next_on_volume
  wrote_read protected user x current =
      rw (read_volume d current (next_place d reading protected (volume_of disk r) user x current)) (wrote_place protected user x current)

-- ---- such a write leaves the first byte of each record

-- a record of 128 bytes that begins as another one does
pub record BeginsAs (old new : List ℕ) : Type 0 where
  pub first : get_or new 0 0 ≡ get_or old 0 0
  pub size : length new ≡ 128

first_slot : (bytes : List ℕ) → get_or (slot_bytes bytes 0) 0 0 ≡ get_or bytes 0 0
unfolding slot_bytes
first_slot [] = refl
first_slot (b ∷ bs) = refl

first_byte : (d : Dpb) (e : Entry) → get_or (entry_bytes d e) 0 0 ≡ e.user
unfolding entry_bytes entry_byte
first_byte d e = refl

entry_user : (d : Dpb) (bytes : List ℕ) → (entry_of d bytes).user ≡ get_or bytes 0 0
unfolding entry_of
entry_user d bytes = refl

slot_begins : (d : Dpb) (bytes : List ℕ) (slot : ℕ) (e : Entry) → length bytes ≡ 128 → slot < 4 → e.user ≡ (entry_of d (slot_bytes bytes slot)).user → BeginsAs bytes (record_with_entry bytes slot (entry_bytes d e))
slot_begins d bytes slot e size below user =
    let count = entry_size d e in
    let new = record_with_entry bytes slot (entry_bytes d e) in
    record {
      first = elim (cases_eq slot 0) [
        | inl zero ↦ sym (first_slot new) ∙ (ap (λ (xs : List ℕ). get_or xs 0 0) (ap (λ k. slot_bytes (record_with_entry bytes slot (entry_bytes d e)) k) (sym zero) ∙ own_slot bytes (entry_bytes d e) slot size below count) ∙ (first_byte d e ∙ (user ∙ (entry_user d (slot_bytes bytes slot) ∙ (ap (λ s. get_or (slot_bytes bytes s) 0 0) zero ∙ first_slot bytes)))))
        | inr other ↦ sym (first_slot new) ∙ (ap (λ (xs : List ℕ). get_or xs 0 0) (other_slot bytes (entry_bytes d e) slot size below count 0 (λ z. other (sym z))) ∙ first_slot bytes)
      ];
      size = ap length (sym (slot_is bytes (entry_bytes d e) slot)) ∙ (put_length bytes (entry_bytes d e) (32 * slot) 32 count (omega arith) ∙ size);
    }

put_begins : (rs : List (List ℕ)) (n k : ℕ) (new : List ℕ) → k < length rs → n ≡ k → BeginsAs (get_or rs k []) new → BeginsAs (get_or rs n []) (get_or (set rs k new) n [])
put_begins rs n k new low is h = rw (is, get_or-set_same rs k new [] low) h

put_elsewhere : (rs : List (List ℕ)) (n k : ℕ) (new : List ℕ) → n ≢ k → BeginsAs (get_or rs n []) (get_or rs n []) → BeginsAs (get_or rs n []) (get_or (set rs k new) n [])
put_elsewhere rs n k new other h = rw (get_or-set_other rs k n new [] other) h

module _ (disk : Disk) (whole : IsDisk disk) (n : ℕ) (there : IsRecord disk.format n) where
  record_size : length (get_or (records_of disk) n []) ≡ 128
  record_size =
      ap length ((are_listed disk).at n there) ∙ whole.sizes _ (record_within disk.format n there)

  begins_itself : BeginsAs (get_or (records_of disk) n []) (get_or (records_of disk) n [])
  begins_itself = record { first = refl; size = record_size }

  module _ (i : ℕ) (e : Entry) (within : i < length (entries_of disk)) (user : e.user ≡ (entry_at (entries_of disk) i).user) where
    low : i ≤ (dpb_of disk.format).last_entry
    low = omega (arith, within, entries_length disk)

    entry_there : IsRecord disk.format (i / 4)
    entry_there = entry_record disk.format i low

    old_size : length (sector_at disk (record_index disk.format (i / 4))) ≡ 128
    old_size = whole.sizes _ (record_within disk.format _ entry_there)

    abbrev new : List ℕ
    new = record_with_entry (sector_at disk (record_index disk.format (i / 4))) (i % 4) (entry_bytes (dpb_of disk.format) e)

    same_user : e.user ≡ (entry_of (dpb_of disk.format) (slot_bytes (sector_at disk (record_index disk.format (i / 4))) (i % 4))).user
    same_user = user ∙ ap (λ (x : Entry). x.user) (entry_is disk i low)

    begins_new : BeginsAs (sector_at disk (record_index disk.format (i / 4))) new
    begins_new =
        slot_begins (dpb_of disk.format) (sector_at disk (record_index disk.format (i / 4))) (i % 4) e old_size (omega arith) same_user

    records_now : records_of (with_sector disk (record_index disk.format (i / 4)) new) ≡ set (records_of disk) (i / 4) new
    records_now = written_there disk (i / 4) new whole entry_there

    in_list : i / 4 < length (records_of disk)
    in_list =
        rw (are_listed disk).size (((are_records disk.format).count (i / 4)).0 entry_there)

    begins_after_entry : BeginsAs (get_or (records_of disk) n []) (get_or (records_of (with_sector disk (record_index disk.format (i / 4)) new)) n [])
    begins_after_entry =
        rw records_now (elim (cases_eq n (i / 4)) [
          | inl at_it ↦ put_begins (records_of disk) n (i / 4) new in_list at_it (rw ((are_listed disk).at (i / 4) entry_there) begins_new)
          | inr other ↦ put_elsewhere (records_of disk) n (i / 4) new other begins_itself
        ])

  begins_after_write : (i : ℕ) (e : Entry) → i < length (entries_of disk) → e.user ≡ (entry_at (entries_of disk) i).user → BeginsAs (get_or (records_of disk) n []) (get_or (records_of (after_writes (entry_put i e ∷ []) disk)) n [])
  unfolding after_writes after_write
  begins_after_write i e within user = begins_after_entry i e within user

  begins_unwritten : BeginsAs (get_or (records_of disk) n []) (get_or (records_of (after_writes [] disk)) n [])
  unfolding after_writes
  begins_unwritten = begins_itself

  pub begins_after : (protected : Bool) (ws : List DiskWrite) → WritesOneAtMost (entries_of disk) ws → BeginsAs (get_or (records_of disk) n []) (get_or (records_of (if protected then disk else after_writes ws disk)) n [])
  begins_after true ws h = begins_itself
  begins_after false ws (inl none) = rw none begins_unwritten
  begins_after false ws (inr one) = rw one.is (begins_after_write one.index one.entry one.within one.user)
