-- A read, case by case.
use Rattle.std.proofs.Common.{◌≡◌, ◌≢◌, ℕ, ◌+◌, ◌*◌, ◌/◌, ◌%◌, ◌<◌, ◌≤◌, Bool, true, false, not, cond, ltb, eqb, List, Result, Ok, Err, None, Option, refl, sym, ap, ◌∙◌, arith, Some, get_or, [], inl, inr}
use Rattle.std.proofs.lemmas.Bool.{lt-ltb, le-ltb, eq-eqb, ne_eqb}
use Rattle.cpm_geom.specs.declared.dpb.Dpb.{Dpb}
use Rattle.cpm_geom.specs.declared.format.Format.{Format}
use Rattle.cpm_geom.specs.declared.format.Format.TheVariants.{Ibm3740, Large}
use Rattle.cpm_geom.specs.Geometry.{dpb_of, tracks_of, sectors_per_track, track_of, IsRecord}
use Rattle.cpm_geom.specs.Disk.{records_of}
use Rattle.cpm_volume.specs.declared.extent.Extent.{Extent}
use Rattle.cpm_volume.specs.declared.fcb.Fcb.{Fcb}
use Rattle.cpm_volume.specs.declared.answer.Answer.{Answer}
use Rattle.cpm_volume.specs.declared.answer.Answer.TheVariants.{Fault as fault, NoRecord as no_record, NoExtent as no_extent, Done as done}
use Rattle.cpm_volume.specs.declared.answer.Fault.{Fault}
use Rattle.cpm_volume.specs.Files.{Volume, block_number, entry_place_of, directory_records, open_file_record}
use Rattle.cpm_volume.specs.Laws.{position, HasReadRecord}
use Rattle.cpm_volume.proofs.Reading.{reads_next, reads_at}
use Rattle.cpm_directory.specs.Directory.{entries_of}
use Rattle.cpm_volume.specs.Operations.{VolumeOutcome, ends, gives, get_record, read_in, read_next_on_volume, read_random_on_volume, record_in_block}
use Rattle.cpm_drive.specs.Drive.{volume_of, drive_after, CallResult, call_result, after_call, buffer_after}
use Rattle.cpm_drive.specs.declared.drive.Drive.{Drive}
use Rattle.cpm_drive.specs.declared.change.Change.{Change}
use Rattle.cpm_drive.specs.declared.place.Arrival.{Arrival}
use Rattle.cpm_drive.specs.Judged.{with_change, place_by, place_of_arrival}
use Rattle.cpm_drive.specs.Reads.{RecordRead, record_found, read_answer_of, read_of, after_record, record_ahead, ahead, drive_read, after_reading, GivesRecord}

-- where a record of a block lies
pub in_block_small : (f : Format) (b current : ℕ) → b ≤ (dpb_of f).last_block → b * ((dpb_of f).block_mask + 1) + current % ((dpb_of f).block_mask + 1) < 65536
unfolding dpb_of
in_block_small Ibm3740 b current h = omega arith
in_block_small Large b current h = omega arith

in_block_track : (f : Format) (b current : ℕ) → b ≤ (dpb_of f).last_block → track_of f (record_in_block (dpb_of f) b current) < tracks_of f
unfolding dpb_of track_of tracks_of sectors_per_track record_in_block
in_block_track Ibm3740 b current h = omega arith
in_block_track Large b current h = omega arith

pub in_block_there : (f : Format) (b current : ℕ) → b ≤ (dpb_of f).last_block → IsRecord f (record_in_block (dpb_of f) b current)
in_block_there f b current h = record { track_there = in_block_track f b current h }

-- the tests of a read
chain : Bool → Bool → Bool → Volume → Extent → ℕ → ℕ → ℕ → VolumeOutcome
chain counted above none v x current next n =
    cond (not counted) (ends no_record v x current) (cond above (ends (fault Fault.BadSector) v x current) (cond none (ends no_record v x current) (gives v x next n)))

chain_volume : (a b c : Bool) (v : Volume) (x : Extent) (current next n : ℕ) → (chain a b c v x current next n).volume ≡ v
unfolding chain ends gives
chain_volume false b c v x current next n = refl
chain_volume true true c v x current next n = refl
chain_volume true false true v x current next n = refl
chain_volume true false false v x current next n = refl

pub get_volume : (d : Dpb) (v : Volume) (x : Extent) (current next : ℕ) → (get_record d v x current next).volume ≡ v
unfolding get_record chain
get_volume d v x current next =
    chain_volume (ltb current x.record_count) (ltb d.last_block (block_number x (entry_place_of d x current))) (eqb (block_number x (entry_place_of d x current)) 0) v x current next (record_in_block d (block_number x (entry_place_of d x current)) current)

place_volume : (d : Dpb) (v : Volume) (x : Extent) (r : Result ℕ Answer) (current step : ℕ) → (read_in d current step (place_by v x r)).volume ≡ v
unfolding read_in ends
place_volume d v x (Ok here) current step = get_volume d v x here (here + step)
place_volume d v x (Err answer) current step = refl

read_volume : (d : Dpb) (v : Volume) (a : Arrival) (current step : ℕ) → a.made ≡ None → (read_in d current step (place_of_arrival v a)).volume ≡ with_change v a.closed
unfolding with_change
read_volume d v a current step none =
    place_volume d (with_change (with_change v a.closed) a.made) a.extent a.current current step ∙ rw none refl

-- a call that found its record or its answer
found_is : (drive : Drive) (fcb fcb' : Fcb) (buffer : List ℕ) (found : Result ℕ Answer) (closed : Option Change) (o : VolumeOutcome) → record_found found fcb' ≡ after_record fcb o → o.volume ≡ with_change (volume_of drive.image drive.marks.reserved) closed → after_reading drive (record { found = found; closed = closed }) fcb' buffer ≡ after_call drive fcb buffer o
unfolding after_call after_record after_reading
found_is drive fcb fcb' buffer found closed o h volume =
    ap (λ (r : RecordRead). call_result r.answer (drive_read drive (record { found = found; closed = closed })) r.fcb (buffer_after (drive_read drive (record { found = found; closed = closed })).image r.read buffer)) h ∙ ap (λ v. call_result o.answer (drive_after drive v) (record fcb { extent = o.extent; current_record = o.current }) (buffer_after (drive_after drive v).image o.read buffer)) (sym volume)

pub reading_is : (d : Dpb) (drive : Drive) (fcb fcb' : Fcb) (a : Arrival) (step : ℕ) (found : Result ℕ Answer) (buffer : List ℕ) → a.made ≡ None → record_found found fcb' ≡ after_record fcb (read_in d fcb.current_record step (place_of_arrival (volume_of drive.image drive.marks.reserved) a)) → after_reading drive (record { found = found; closed = a.closed }) fcb' buffer ≡ after_call drive fcb buffer (read_in d fcb.current_record step (place_of_arrival (volume_of drive.image drive.marks.reserved) a))
reading_is d drive fcb fcb' a step found buffer none h =
    found_is drive fcb fcb' buffer found a.closed _ h (read_volume d (volume_of drive.image drive.marks.reserved) a fcb.current_record step none)

-- a read where it stands
module _ (d : Dpb) (v : Volume) (fcb : Fcb) (next : ℕ) where
  pub get_past : fcb.extent.record_count ≤ fcb.current_record → record_found (Err no_record) fcb ≡ after_record fcb (get_record d v fcb.extent fcb.current_record next)
  unfolding after_record get_record ends
  get_past h = rw (le-ltb _ _ h) refl

  module _ (counted : fcb.current_record < fcb.extent.record_count) where
    pub get_bad : d.last_block < block_number fcb.extent (entry_place_of d fcb.extent fcb.current_record) → record_found (Err (fault Fault.BadSector)) fcb ≡ after_record fcb (get_record d v fcb.extent fcb.current_record next)
    unfolding after_record get_record ends
    get_bad h = rw (lt-ltb _ _ counted, lt-ltb _ _ h) refl

    pub get_none : (b : ℕ) → b ≡ block_number fcb.extent (entry_place_of d fcb.extent fcb.current_record) → b ≤ d.last_block → b ≡ 0 → record_found (Err no_record) fcb ≡ after_record fcb (get_record d v fcb.extent fcb.current_record next)
    unfolding after_record get_record ends
    get_none b is h z = rw (lt-ltb _ _ counted, ← is, le-ltb _ _ h, eq-eqb _ _ z) refl

    pub get_found : (b n : ℕ) → b ≡ block_number fcb.extent (entry_place_of d fcb.extent fcb.current_record) → b ≤ d.last_block → b ≢ 0 → n ≡ record_in_block d b fcb.current_record → record_found (Ok n) (record fcb { current_record = next }) ≡ after_record fcb (get_record d v fcb.extent fcb.current_record next)
    unfolding after_record get_record gives
    get_found b n is h other at = rw (lt-ltb _ _ counted, ← is, le-ltb _ _ h, ne_eqb _ _ other, at) refl

fcb_any : (fcb : Fcb) (x : Extent) (here : ℕ) (o : VolumeOutcome) → after_record (record fcb { extent = x; current_record = here }) o ≡ after_record fcb o
unfolding after_record
fcb_any fcb x here o = refl

in_place : (d : Dpb) (v : Volume) (x : Extent) (here current step : ℕ) → read_in d current step (place_by v x (Ok here)) ≡ get_record d v x here (here + step)
unfolding read_in
in_place d v x here current step = refl

-- a call that stands at its record, and one that stops before
pub read_ok : (d : Dpb) (v : Volume) (a : Arrival) (here step : ℕ) (fcb : Fcb) (got : RecordRead) → a.current ≡ Ok here → ((w : Volume) → got ≡ after_record (record fcb { extent = a.extent; current_record = here }) (get_record d w a.extent here (here + step))) → got ≡ after_record fcb (read_in d fcb.current_record step (place_of_arrival v a))
read_ok d v a here step fcb got is h =
    rw (is, in_place) (h (with_change (with_change v a.closed) a.made) ∙ fcb_any fcb a.extent here _)

stopped_there : (d : Dpb) (v : Volume) (x : Extent) (answer : Answer) (step : ℕ) (fcb : Fcb) → record_found (Err answer) (record fcb { extent = x }) ≡ after_record fcb (read_in d fcb.current_record step (place_by v x (Err answer)))
unfolding after_record read_in ends
stopped_there d v x answer step fcb = refl

pub read_err : (d : Dpb) (v : Volume) (a : Arrival) (answer : Answer) (step : ℕ) (fcb : Fcb) → a.current ≡ Err answer → record_found (Err answer) (record fcb { extent = a.extent }) ≡ after_record fcb (read_in d fcb.current_record step (place_of_arrival v a))
read_err d v a answer step fcb is = rw is (stopped_there d (with_change (with_change v a.closed) a.made) a.extent answer step fcb)

-- a read once its entry is written
pub taken : (drive now : Drive) (fcb : Fcb) (found : Result ℕ Answer) (closed : Option Change) (answer : Answer) (before after : List ℕ) → answer ≡ read_answer_of found → now ≡ drive_read drive (record { found = found; closed = closed }) → after ≡ buffer_after now.image (read_of found) before → call_result answer now fcb after ≡ after_reading drive (record { found = found; closed = closed }) fcb before
unfolding after_reading
taken drive now fcb found closed answer before after is written buffer = rw (is, buffer, written) refl

-- ---- a read that is done gives the file's record
done_gives : (old new : Drive) (fcb fcb' : Fcb) (before after : List ℕ) (answer : Answer) (o : VolumeOutcome) (number : ℕ) → call_result answer new fcb' after ≡ after_call old fcb before o → o.read ≡ Some number → get_or (records_of new.image) number [] ≡ get_or (records_of old.image) number [] → after ≡ get_or (records_of old.image) number []
unfolding after_call
done_gives old new fcb fcb' before after answer o number value read same =
    let drive : new ≡ drive_after old o.volume = ap (λ (c : CallResult). c.drive) value in
    let buffer : after ≡ buffer_after (drive_after old o.volume).image o.read before = ap (λ (c : CallResult). c.buffer) value in
    buffer ∙ rw (read, ← drive) same

call_answer : (old new : Drive) (fcb fcb' : Fcb) (before after : List ℕ) (answer : Answer) (o : VolumeOutcome) → call_result answer new fcb' after ≡ after_call old fcb before o → answer ≡ o.answer
unfolding after_call
call_answer old new fcb fcb' before after answer o value = ap (λ (c : CallResult). c.answer) value

not_record : no_record ≡ done → ⊥
not_record e = cc

not_extent : no_extent ≡ done → ⊥
not_extent e = cc

not_fault : (which : Fault) → fault which ≡ done → ⊥
not_fault which e = cc

-- what a read leaves of the records outside the directory
abbrev pub KeepsFiles : Drive → Drive → Type 0
KeepsFiles old new =
    (n : ℕ) → directory_records (dpb_of old.image.format) ≤ n → get_or (records_of new.image) n [] ≡ get_or (records_of old.image) n []

module _ (old new : Drive) (user : ℕ) (fcb fcb' : Fcb) (before after : List ℕ) (answer : Answer) (keeps : KeepsFiles old new) where
  has_read : (n : ℕ) (o : VolumeOutcome) → call_result answer new fcb' after ≡ after_call old fcb before o → HasReadRecord (dpb_of old.image.format) user (volume_of old.image old.marks.reserved) fcb.extent n o → open_file_record (dpb_of old.image.format) (entries_of old.image) (records_of old.image) user fcb.extent n ≡ Some after
  unfolding volume_of
  has_read n o value r =
      r.there ∙ ap Some (sym (done_gives old new fcb fcb' before after answer o r.number value r.given (keeps r.number r.outside)))

  pub next_gives : call_result answer new fcb' after ≡ after_call old fcb before (read_next_on_volume (dpb_of old.image.format) old.marks.is_protected (volume_of old.image old.marks.reserved) user fcb.extent fcb.current_record) → GivesRecord old user fcb (position fcb.extent fcb.current_record) answer after
  next_gives value user_ok sound small is_done =
      let is = sym (call_answer old new fcb fcb' before after answer _ value) ∙ is_done in
      elim (reads_next (dpb_of old.image.format) user old.marks.is_protected (volume_of old.image old.marks.reserved) fcb.extent fcb.current_record user_ok sound small).2 [
        | inl h ↦ has_read (position fcb.extent fcb.current_record) _ value h.1
        | inr h ↦ elim h [
          | inl e ↦ absurd (not_record (sym e.0 ∙ is))
          | inr p ↦ absurd (not_fault _ (sym p.answer ∙ is))
        ]
      ]

  pub at_gives : (n : ℕ) → n < 65536 → call_result answer new fcb' after ≡ after_call old fcb before (read_random_on_volume (dpb_of old.image.format) old.marks.is_protected (volume_of old.image old.marks.reserved) user fcb.extent fcb.current_record n) → GivesRecord old user fcb n answer after
  at_gives n h value user_ok sound small is_done =
      let is = sym (call_answer old new fcb fcb' before after answer _ value) ∙ is_done in
      elim (reads_at (dpb_of old.image.format) user old.marks.is_protected (volume_of old.image old.marks.reserved) fcb.extent fcb.current_record n user_ok sound small h).2 [
        | inl r ↦ has_read n _ value r.1
        | inr r ↦ elim r [
          | inl e ↦ absurd (not_record (sym e.0 ∙ is))
          | inr q ↦ elim q [
            | inl e ↦ absurd (not_extent (sym e.0 ∙ is))
            | inr p ↦ absurd (not_fault _ (sym p.answer ∙ is))
          ]
        ]
      ]

-- the block mask and the places of a map are small
pub mask_small : (f : Format) → (dpb_of f).block_mask < 128
unfolding dpb_of
mask_small Ibm3740 = omega arith
mask_small Large = omega arith

pub place_small : (f : Format) (n current : ℕ) → current < 128 → (n % ((dpb_of f).extent_mask + 1)) * (128 / ((dpb_of f).block_mask + 1)) + current / ((dpb_of f).block_mask + 1) < 16
unfolding dpb_of
place_small Ibm3740 n current h = omega arith
place_small Large n current h = omega arith

-- what a read comes to is what it would give
pub peeked : (drive : Drive) (user : ℕ) (fcb new : Fcb) (found : Result ℕ Answer) → record_found found new ≡ after_record fcb (read_next_on_volume (dpb_of drive.image.format) drive.marks.is_protected (volume_of drive.image drive.marks.reserved) user fcb.extent fcb.current_record) → record_ahead drive.image (read_answer_of found) (read_of found) ≡ ahead drive user fcb
unfolding ahead after_record
peeked drive user fcb new found h =
    let answers = ap (λ (r : RecordRead). r.answer) h in
    let reads = ap (λ (r : RecordRead). r.read) h in
    rw (answers, reads) refl
