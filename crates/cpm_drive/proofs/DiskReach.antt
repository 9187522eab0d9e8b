-- What each call leaves of a drive's volume is what its disk has then.
use Rattle.std.proofs.Common.{◌≡◌, ℕ, zero, suc, ◌+◌, ◌<◌, not, ltb, false, List, [], ◌∷◌, ◌++◌, length, get_or, sym, refl, ap, ◌∙◌, inl, inr, arith}
use Rattle.std.specs.Prelude.{⊤}
use Rattle.std.specs.List.{list_any}
use Rattle.std.proofs.lemmas.Bool.{cases_Bool, cond_both}
use Rattle.cpm_geom.specs.declared.format.Format.{Format}
use Rattle.cpm_geom.specs.Geometry.{dpb_of}
use Rattle.cpm_volume.specs.declared.extent.Extent.{Extent}
use Rattle.cpm_volume.specs.declared.extent.Entry.{Entry}
use Rattle.cpm_volume.specs.Files.{entry_at, Volume}
use Rattle.cpm_volume.specs.Encoding.{AreBytes}
use Rattle.cpm_volume.specs.Operations.{VolumeOutcome}
use Rattle.cpm_volume.specs.Names.{is_named, first_named, change_named, named_writes, NameOutcome, none_named, file_read_only, named, protects, deletion, renaming, with_attributes, marking, reserved_after, erase_files_on_volume, rename_files_on_volume, set_attributes_on_volume}
use Rattle.cpm_volume.specs.LogLaws.{IsLogged}
use Rattle.cpm_volume.proofs.Logging.{calls_log, named_calls_log}
use Rattle.cpm_directory.proofs.DriveLemmas.{entries_length}
use Rattle.cpm_drive.specs.declared.drive.Drive.{Drive}
use Rattle.cpm_drive.specs.Drive.{volume_of, after_writes, drive_after}
use Rattle.cpm_drive.specs.Laws.{IsDiskOf, IsOfBytes, Fits, AllFit, IsWritable, Reaches, OutcomeReaches, CallsReach, NamedCallsReach, CallsLaw}
use Rattle.cpm_drive.proofs.DiskLemmas.{entry_user, entry_fits, log_reaches}
use Rattle.cpm_drive.proofs.DiskFits.{VolumeFits, fit_append}
use Rattle.cpm_drive.proofs.DiskCalls.{OutcomeFits, read_next_fits, read_at_fits, write_next_fits, write_at_fits, write_at_cleared_fits, close_fits, make_fits}

-- ---- entries of a name
fits_entry : Format → Entry → Type 0
fits_entry f e = (e.user < 256) × IsOfBytes (dpb_of f) e.extent

deletion_fits : (f : Format) (e : Entry) → fits_entry f e → fits_entry f (deletion e)
unfolding fits_entry deletion
deletion_fits f e fit = (omega arith, fit.1)

renaming_fits : (f : Format) (name : List ℕ) (e : Entry) → AreBytes 11 name → fits_entry f e → fits_entry f (renaming name e)
unfolding fits_entry renaming
renaming_fits f name e are fit = (
  fit.0,
  record {
    storable = record { name = are.count; map = fit.1.storable.map; numbers = fit.1.storable.numbers };
    name = are.bytes_fit;
    ex = fit.1.ex;
    s1 = fit.1.s1;
    s2 = fit.1.s2;
    records = fit.1.records;
  },
)

marked_length : (xs ys : List ℕ) → length (with_attributes xs ys) ≡ length xs
unfolding with_attributes
marked_length [] ys = refl
marked_length (x ∷ xs) [] = refl
marked_length (x ∷ xs) (y ∷ ys) = ap suc (marked_length xs ys)

marked_below : (xs ys : List ℕ) (k : ℕ) → get_or xs k 0 < 256 → get_or ys k 0 < 256 → get_or (with_attributes xs ys) k 0 < 256
unfolding with_attributes
marked_below [] ys k h g = h
marked_below (x ∷ xs) [] k h g = h
marked_below (x ∷ xs) (y ∷ ys) zero h g = omega arith
marked_below (x ∷ xs) (y ∷ ys) (suc k) h g = marked_below xs ys k h g

marking_fits : (f : Format) (pattern : List ℕ) (e : Entry) → AreBytes 11 pattern → fits_entry f e → fits_entry f (marking pattern e)
unfolding fits_entry marking
marking_fits f pattern e are fit = (
  fit.0,
  record {
    storable = record { name = marked_length e.extent.name pattern ∙ fit.1.storable.name; map = fit.1.storable.map; numbers = fit.1.storable.numbers };
    name = λ k. marked_below e.extent.name pattern k (fit.1.name k) (are.bytes_fit k);
    ex = fit.1.ex;
    s1 = fit.1.s1;
    s2 = fit.1.s2;
    records = fit.1.records;
  },
)

-- ---- a call on all entries of a name
named_fit : (f : Format) (user : ℕ) (pattern : List ℕ) (change : Entry → Entry) (i : ℕ) (es : List Entry) → i + length es ≡ (dpb_of f).last_entry + 1 → ((k : ℕ) → k < length es → fits_entry f (change (entry_at es k))) → AllFit f (named_writes user pattern i es (change_named user pattern change es))
unfolding named_writes change_named AllFit Fits fits_entry entry_at
named_fit f user pattern change i [] size h = tt
named_fit f user pattern change i (e ∷ es) size h =
    let rest = named_fit f user pattern change (i + 1) es (omega arith) (λ k below. h (suc k) (omega arith)) in
    let own = h 0 (omega arith) in
    elim (cases_Bool (is_named user pattern e)) [
      | inl t ↦ rw t ((omega arith, own.0, own.1), rest)
      | inr o ↦ rw o rest
    ]

module _ (f : Format) (v : Volume) (user : ℕ) (pattern : List ℕ) (fit : VolumeFits f v) where
  NamedFit : NameOutcome → Type 0
  NamedFit none_named = ⊤
  NamedFit file_read_only = ⊤
  NamedFit (named first v') = AllFit f v'.written

  entry_there : (k : ℕ) → k < length v.entries → fits_entry f (entry_at v.entries k)
  unfolding fits_entry
  entry_there k h = (fit.users k h, fit.entries k h)

  log_fits : (change : Entry → Entry) → ((e : Entry) → fits_entry f e → fits_entry f (change e)) → AllFit f (v.written ++ named_writes user pattern 0 v.entries (change_named user pattern change v.entries))
  log_fits change changed =
      let count = fit.count in
      fit_append f v.written (named_writes user pattern 0 v.entries (change_named user pattern change v.entries)) fit.log (named_fit f user pattern change 0 v.entries (omega arith) (λ k h. changed (entry_at v.entries k) (entry_there k h)))

  erases : NamedFit (erase_files_on_volume (dpb_of f) v user pattern)
  unfolding erase_files_on_volume NamedFit
  erases =
      let after : Volume = record v { entries = change_named user pattern deletion v.entries; reserved = reserved_after (dpb_of f) user pattern v.entries v.reserved; written = v.written ++ named_writes user pattern 0 v.entries (change_named user pattern deletion v.entries) } in
      cond_both (not (ltb (first_named v.entries user pattern) (length v.entries))) none_named _ NamedFit (λ _. tt) (λ _.
      cond_both (list_any (protects user pattern) v.entries) file_read_only (named (first_named v.entries user pattern) after) NamedFit (λ _. tt) (λ _.
      log_fits deletion (deletion_fits f)))

  renames : (name : List ℕ) → AreBytes 11 name → NamedFit (rename_files_on_volume v user pattern name)
  unfolding rename_files_on_volume NamedFit
  renames name are =
      let after : Volume = record v { entries = change_named user pattern (renaming name) v.entries; written = v.written ++ named_writes user pattern 0 v.entries (change_named user pattern (renaming name) v.entries) } in
      cond_both (not (ltb (first_named v.entries user pattern) (length v.entries))) none_named _ NamedFit (λ _. tt) (λ _.
      cond_both (list_any (protects user pattern) v.entries) file_read_only (named (first_named v.entries user pattern) after) NamedFit (λ _. tt) (λ _.
      log_fits (renaming name) (λ e. renaming_fits f name e are)))

  marks : AreBytes 11 pattern → NamedFit (set_attributes_on_volume v user pattern)
  unfolding set_attributes_on_volume NamedFit
  marks are =
      let after : Volume = record v { entries = change_named user pattern (marking pattern) v.entries; written = v.written ++ named_writes user pattern 0 v.entries (change_named user pattern (marking pattern) v.entries) } in
      cond_both (not (ltb (first_named v.entries user pattern) (length v.entries))) none_named (named (first_named v.entries user pattern) after) NamedFit (λ _. tt) (λ _.
      log_fits (marking pattern) (λ e. marking_fits f pattern e are))

  erase_fits : (first : ℕ) (v' : Volume) → erase_files_on_volume (dpb_of f) v user pattern ≡ named first v' → AllFit f v'.written
  unfolding NamedFit
  erase_fits first v' h = (let there = erases in rw h at there)

  rename_fits : (name : List ℕ) (first : ℕ) (v' : Volume) → AreBytes 11 name → rename_files_on_volume v user pattern name ≡ named first v' → AllFit f v'.written
  unfolding NamedFit
  rename_fits name first v' are h = (let there = renames name are in rw h at there)

  attributes_fit : (first : ℕ) (v' : Volume) → AreBytes 11 pattern → set_attributes_on_volume v user pattern ≡ named first v' → AllFit f v'.written
  unfolding NamedFit
  attributes_fit first v' are h = (let there = marks are in rw h at there)

-- ---- the disk of a drive
module _ (drive : Drive) (writable : IsWritable drive) where
  at_start : VolumeFits drive.image.format (volume_of drive.image drive.marks.reserved)
  unfolding volume_of AllFit
  at_start =
      let size = entries_length drive.image in
      record {
        count = size;
        users = λ i h. entry_user drive.image i writable.disk writable.bytes (omega arith);
        entries = λ i h. entry_fits drive.image i writable.disk writable.bytes (omega arith);
        log = tt;
      }

  holds_own : IsDiskOf drive.image.format drive.image (volume_of drive.image drive.marks.reserved)
  unfolding volume_of
  holds_own = record { format = refl; disk_is = writable.disk; bytes = writable.bytes; holds = record { entries = refl; records = λ n h. refl } }

  own_log : (v : Volume) (log : IsLogged (volume_of drive.image drive.marks.reserved) v) → v.written ≡ log.writes
  unfolding volume_of
  own_log v log = log.log

  image_then : (v : Volume) (log : IsLogged (volume_of drive.image drive.marks.reserved) v) → (drive_after drive v).image ≡ after_writes log.writes drive.image
  unfolding drive_after
  image_then v log = rw writable.free (ap (λ ws. after_writes ws drive.image) (own_log v log))

  reaches : (v : Volume) → IsLogged (volume_of drive.image drive.marks.reserved) v → AllFit drive.image.format v.written → Reaches drive v
  reaches v log fit =
      let written = rw (own_log v log) at fit in
      let all = log_reaches drive.image.format drive.image (volume_of drive.image drive.marks.reserved) log.writes holds_own written in
      rw (image_then v log) (record {
        format = all.format;
        disk_is = all.disk_is;
        bytes = all.bytes;
        holds = record {
          entries = all.holds.entries ∙ sym log.entries;
          records = λ n h. all.holds.records n h ∙ ap (λ (rs : List (List ℕ)). get_or rs n []) (sym log.records);
        };
      })

  outcome : (o : VolumeOutcome) → IsLogged (volume_of drive.image drive.marks.reserved) o.volume → OutcomeFits drive.image.format o → OutcomeReaches drive o
  unfolding OutcomeFits
  outcome o log fit = record { disk = reaches o.volume log fit.0.log; extent = fit.1 }

  on_record : (user : ℕ) (x : Extent) → user < 256 → IsOfBytes (dpb_of drive.image.format) x → CallsReach drive (dpb_of drive.image.format) (volume_of drive.image drive.marks.reserved) user x
  on_record user x small extent =
      let f = drive.image.format in
      let v = volume_of drive.image drive.marks.reserved in
      let logs = calls_log (dpb_of drive.image.format) (volume_of drive.image drive.marks.reserved) user x in
      record {
        sequential_read = λ current. outcome _ (logs.sequential_read false current) (read_next_fits f v user x small at_start extent current);
        random_read = λ current n high. outcome _ (logs.random_read false current n) (read_at_fits f v user x small at_start extent current n high);
        sequential_write = λ current bytes ok sound are. outcome _ (logs.sequential_write current bytes) (write_next_fits f v user x small at_start extent current bytes ok sound are);
        random_write = λ current n bytes ok sound high are. outcome _ (logs.random_write current n bytes) (write_at_fits f v user x small at_start extent current n bytes ok sound high are);
        clearing_write = λ current n bytes ok sound high are. outcome _ (logs.clearing_write current n bytes) (write_at_cleared_fits f v user x small at_start extent current n bytes ok sound high are);
        close = λ index after x' h.
            let fit = close_fits f v user x small at_start extent index after x' h in
            (reaches _ (logs.close false index after x' h) fit.0.log, fit.1);
        make = λ after x' h.
            let fit = make_fits f v user x small at_start extent after x' h in
            (reaches _ (logs.make after x' h) fit.0.log, fit.1);
      }

  on_name : (user : ℕ) (pattern : List ℕ) → NamedCallsReach drive (dpb_of drive.image.format) (volume_of drive.image drive.marks.reserved) user pattern
  on_name user pattern =
      let f = drive.image.format in
      let v = volume_of drive.image drive.marks.reserved in
      let logs = named_calls_log (dpb_of drive.image.format) (volume_of drive.image drive.marks.reserved) user pattern in
      record {
        erase = λ first v' h. reaches v' (logs.erase first v' h) (erase_fits f v user pattern at_start first v' h);
        rename = λ name first v' are h. reaches v' (logs.rename name first v' h) (rename_fits f v user pattern at_start name first v' are h);
        attributes = λ first v' are h. reaches v' (logs.attributes first v' h) (attributes_fit f v user pattern at_start first v' are h);
      }

pub calls_reach : CallsLaw
calls_reach drive writable = (on_record drive writable, on_name drive writable)
