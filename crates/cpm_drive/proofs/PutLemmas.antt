-- A write, case by case.
use Rattle.std.proofs.Common.{◌≡◌, ◌≢◌, ◌⊎◌, ℕ, ◌+◌, ◌*◌, ◌<◌, map, replicate, ◌≤◌, Bool, true, false, ◌&&◌, nat_lt, inl, inr, List, [], ◌∷◌, ◌++◌, Some, None, Option, length, set, refl, sym, ap, ◌∙◌, arith}
use Rattle.std.proofs.lemmas.Bool.{lt-ltb, le-ltb, ne_eqb, eq-eqb}
use Rattle.std.proofs.Math.Bool.{and-false}
use Rattle.std.specs.List.{range_with_len}
use Rattle.std.proofs.lemmas.Nat.{mod-mul-add}
use Rattle.std.proofs.lemmas.List.FromFn.{map-range_with_len_more}
use Rattle.cpm_geom.specs.declared.dpb.Dpb.{Dpb}
use Rattle.cpm_geom.specs.Geometry.{record_index}
use Rattle.cpm_geom.specs.Disk.{with_sector}
use Rattle.cpm_geom.specs.Disk.{Disk}
use Rattle.cpm_volume.specs.declared.extent.Extent.{Extent}
use Rattle.cpm_volume.specs.declared.fcb.Fcb.{Fcb}
use Rattle.cpm_volume.specs.declared.answer.Answer.{Answer}
use Rattle.cpm_volume.specs.declared.answer.Answer.TheVariants.{Fault as fault, Done as done, NoBlock as no_block}
use Rattle.cpm_volume.specs.declared.answer.Fault.{Fault}
use Rattle.cpm_volume.specs.Files.{Volume, DiskWrite, entry_put, record_put, block_number, entry_place_of}
use Rattle.cpm_volume.specs.Reserved.{least_free}
use Rattle.cpm_volume.specs.Operations.{BlockChoice, no_such_block, none_free, old_block, new_block, block_to_write, put_found, put_record, taken_writes, record_in_block, with_block, counting, ends}
use Rattle.cpm_drive.specs.declared.drive.Drive.{Drive}
use Rattle.cpm_drive.specs.declared.change.Change.{Change}
use Rattle.cpm_drive.specs.Drive.{volume_of, after_write, after_writes, drive_after, call_result, after_call}
use Rattle.cpm_drive.specs.Judged.{with_change}
use Rattle.cpm_drive.specs.Writes.{drive_written, stood_on}
use Rattle.cpm_drive.proofs.WriteLemmas.{writes_append}

-- no block of the drive is free
none_to_take : (reserved : List Bool) (last : ℕ) → (least_free reserved ≡ length reserved) ⊎ (last < least_free reserved) → (nat_lt (least_free reserved) (length reserved) && nat_lt (least_free reserved) (last + 1)) ≡ false
none_to_take reserved last (inl full) = rw (le-ltb (least_free reserved) (length reserved) (omega arith)) refl
none_to_take reserved last (inr above) = rw (le-ltb (least_free reserved) (last + 1) (omega arith)) (and-false _)

module _ (d : Dpb) (drive : Drive) (fcb : Fcb) (bytes : List ℕ) (clears : Bool) (next : ℕ) (free : drive.marks.is_protected ≡ false) where
  pub put_bad : d.last_block < block_number fcb.extent (entry_place_of d fcb.extent fcb.current_record) → call_result (fault Fault.BadSector) drive fcb bytes ≡ after_call drive fcb bytes (put_record d clears (volume_of drive.image drive.marks.reserved) fcb.extent fcb.current_record next bytes)
  unfolding after_call put_record block_to_write put_found ends drive_after volume_of after_writes
  put_bad h = rw (lt-ltb _ _ h, free) refl

  pub put_old : (b : ℕ) → b ≡ block_number fcb.extent (entry_place_of d fcb.extent fcb.current_record) → b ≤ d.last_block → b ≢ 0 → call_result done (drive_written drive (record_put (record_in_block d b fcb.current_record) bytes ∷ [])) (stood_on (counting fcb.extent fcb.current_record) next fcb) bytes ≡ after_call drive fcb bytes (put_record d clears (volume_of drive.image drive.marks.reserved) fcb.extent fcb.current_record next bytes)
  unfolding after_call put_record block_to_write put_found ends drive_after volume_of
  put_old b is h n = rw (← is, le-ltb _ _ h, ne_eqb _ _ n, free) refl

  pub put_none : (b : ℕ) → b ≡ block_number fcb.extent (entry_place_of d fcb.extent fcb.current_record) → b ≤ d.last_block → b ≡ 0 → (least_free drive.marks.reserved ≡ length drive.marks.reserved) ⊎ (d.last_block < least_free drive.marks.reserved) → call_result no_block drive fcb bytes ≡ after_call drive fcb bytes (put_record d clears (volume_of drive.image drive.marks.reserved) fcb.extent fcb.current_record next bytes)
  unfolding after_call put_record block_to_write put_found ends drive_after volume_of after_writes
  put_none b is h z none = rw (← is, le-ltb _ _ h, eq-eqb _ _ z, none_to_take _ _ none, free) refl

  pub put_new : (b new : ℕ) → b ≡ block_number fcb.extent (entry_place_of d fcb.extent fcb.current_record) → b ≤ d.last_block → b ≡ 0 → new ≡ least_free drive.marks.reserved → new < length drive.marks.reserved → new ≤ d.last_block → call_result done (record drive { image = after_writes (taken_writes d clears new ++ record_put (record_in_block d new fcb.current_record) bytes ∷ []) drive.image; marks = record drive.marks { reserved = set drive.marks.reserved new true } }) (stood_on (counting (with_block fcb.extent (entry_place_of d fcb.extent fcb.current_record) new) fcb.current_record) next fcb) bytes ≡ after_call drive fcb bytes (put_record d clears (volume_of drive.image drive.marks.reserved) fcb.extent fcb.current_record next bytes)
  unfolding after_call put_record block_to_write put_found ends drive_after volume_of
  put_new b new is h z least below there =
      let within : new < d.last_block + 1 = omega arith in
      rw (← is, le-ltb _ _ h, eq-eqb _ _ z, ← least, lt-ltb _ _ below, lt-ltb _ _ within, free) refl

  pub put_taken : (b new : ℕ) (drive1 drive2 drive3 : Drive) (fcb' : Fcb) → b ≡ block_number fcb.extent (entry_place_of d fcb.extent fcb.current_record) → b ≤ d.last_block → b ≡ 0 → new ≡ least_free drive.marks.reserved → new < length drive.marks.reserved → new ≤ d.last_block → drive1 ≡ record drive { marks = record drive.marks { reserved = set drive.marks.reserved new true } } → drive2 ≡ drive_written drive1 (taken_writes d clears new) → drive3 ≡ drive_written drive2 (record_put (record_in_block d new fcb.current_record) bytes ∷ []) → fcb' ≡ stood_on (counting (with_block fcb.extent (entry_place_of d fcb.extent fcb.current_record) new) fcb.current_record) next fcb → call_result done drive3 fcb' bytes ≡ after_call drive fcb bytes (put_record d clears (volume_of drive.image drive.marks.reserved) fcb.extent fcb.current_record next bytes)
  put_taken b new drive1 drive2 drive3 fcb' is h z least below there e1 e2 e3 f =
      rw (e3, e2, e1, f, ← writes_append (taken_writes d clears new) (record_put (record_in_block d new fcb.current_record) bytes ∷ []) drive.image) (put_new b new is h z least below there)

-- a block that is not cleared
pub not_cleared : (d : Dpb) (drive : Drive) (b : ℕ) → drive ≡ drive_written drive (taken_writes d false b)
unfolding taken_writes after_writes
not_cleared d drive b = refl

-- a block that is cleared, record by record
abbrev pub zero_put : Dpb → ℕ → ℕ → DiskWrite
zero_put d b place = record_put (b * (d.block_mask + 1) + place) (replicate 128 0)

pub in_block_at : (d : Dpb) (b place : ℕ) → place < d.block_mask + 1 → record_in_block d b place ≡ b * (d.block_mask + 1) + place
unfolding record_in_block
in_block_at d b place h = ap (λ n. b * (d.block_mask + 1) + n) (let e : 0 * (d.block_mask + 1) + place ≡ place = omega arith in rw e at (mod-mul-add 0 (d.block_mask + 1) place h))

pub none_cleared : (d : Dpb) (drive : Drive) (b : ℕ) → drive ≡ drive_written drive (map (zero_put d b) (range_with_len 0 0))
unfolding after_writes
none_cleared d drive b = refl

pub more_cleared : (d : Dpb) (drive now : Drive) (b n : ℕ) (disk : Disk) → now ≡ drive_written drive (map (zero_put d b) (range_with_len 0 n)) → disk ≡ with_sector now.image (record_index now.image.format (b * (d.block_mask + 1) + n)) (replicate 128 0) → record now { image = disk } ≡ drive_written drive (map (zero_put d b) (range_with_len 0 (n + 1)))
unfolding after_writes after_write
more_cleared d drive now b n disk is written =
    rw (written, is, map-range_with_len_more (zero_put d b) 0 n n (omega arith), writes_append (map (zero_put d b) (range_with_len 0 n)) (zero_put d b n ∷ []) drive.image) refl

pub all_cleared : (d : Dpb) (drive : Drive) (b : ℕ) → drive_written drive (map (zero_put d b) (range_with_len 0 (d.block_mask + 1))) ≡ drive_written drive (taken_writes d true b)
unfolding taken_writes
all_cleared d drive b = refl

-- what is written of a change
pub changed : Option Change → List DiskWrite
changed None = []
changed (Some c) = entry_put c.index c.entry ∷ []

-- a call whose entries are written stands where it stood
module _ (d : Dpb) (drive : Drive) (w : Volume) (fcb : Fcb) (x : Extent) (here next : ℕ) (bytes : List ℕ) (clears : Bool) (free : drive.marks.is_protected ≡ false) (same : w.reserved ≡ drive.marks.reserved) where
  after : Drive
  after = record drive { image = after_writes w.written drive.image }

  pub stops_after : (answer : Answer) (current : ℕ) → call_result answer (drive_written drive w.written) (stood_on x current fcb) bytes ≡ after_call drive fcb bytes (ends answer w x current)
  unfolding after_call ends drive_after
  stops_after answer current = rw (free, same) refl

  found_after : (found : BlockChoice) → after_call (drive_written drive w.written) (stood_on x here fcb) bytes (put_found d clears (volume_of (after_writes w.written drive.image) drive.marks.reserved) x here next bytes found) ≡ after_call drive fcb bytes (put_found d clears w x here next bytes found)
  unfolding after_call put_found ends drive_after volume_of after_writes
  found_after no_such_block = rw (free, same) refl
  found_after none_free = rw (free, same) refl
  found_after (old_block b) = rw (free, same, writes_append w.written _ drive.image) refl
  found_after (new_block b) = rw (free, same, writes_append (w.written ++ taken_writes d clears b) _ drive.image, writes_append w.written _ drive.image, writes_append (taken_writes d clears b) _ (after_writes w.written drive.image)) refl

  pub put_after : after_call (drive_written drive w.written) (stood_on x here fcb) bytes (put_record d clears (volume_of (after_writes w.written drive.image) drive.marks.reserved) x here next bytes) ≡ after_call drive fcb bytes (put_record d clears w x here next bytes)
  unfolding put_record volume_of
  put_after =
      found_after (block_to_write d drive.marks.reserved (block_number x (entry_place_of d x here))) ∙ ap (λ r. after_call drive fcb bytes (put_found d clears w x here next bytes (block_to_write d r (block_number x (entry_place_of d x here))))) (sym same)

-- the entries of a call that are written one after the other
pub twice : (drive : Drive) (closed made : Option Change) → drive.marks.is_protected ≡ false → drive_after (drive_after drive (with_change (volume_of drive.image drive.marks.reserved) closed)) (with_change (volume_of (drive_after drive (with_change (volume_of drive.image drive.marks.reserved) closed)).image (drive_after drive (with_change (volume_of drive.image drive.marks.reserved) closed)).marks.reserved) made) ≡ drive_written drive (with_change (with_change (volume_of drive.image drive.marks.reserved) closed) made).written
unfolding drive_after with_change volume_of after_writes
twice drive None None free = rw free refl
twice drive None (Some m) free = rw free refl
twice drive (Some c) None free = rw free refl
twice drive (Some c) (Some m) free = rw free refl

pub reserved_kept : (v : Volume) (closed made : Option Change) → (with_change (with_change v closed) made).reserved ≡ v.reserved
unfolding with_change
reserved_kept v None None = refl
reserved_kept v None (Some m) = refl
reserved_kept v (Some c) None = refl
reserved_kept v (Some c) (Some m) = refl

write_format : (w : DiskWrite) (disk : Disk) → (after_write w disk).format ≡ disk.format
unfolding after_write
write_format (entry_put i e) disk = refl
write_format (record_put n bytes) disk = refl

pub writes_format : (ws : List DiskWrite) (disk : Disk) → (after_writes ws disk).format ≡ disk.format
unfolding after_writes
writes_format [] disk = refl
writes_format (w ∷ ws) disk = writes_format ws (after_write w disk) ∙ write_format w disk
