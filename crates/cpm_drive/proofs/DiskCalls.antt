-- What each call on a record writes has room on the disk.
use Rattle.std.proofs.Common.{◌≡◌, ◌≢◌, ℕ, zero, suc, ◌+◌, ◌*◌, ◌/◌, ◌%◌, ◌<◌, ◌≤◌, cond, eqb, ltb, Bool, true, false, not, ◌&&◌, List, [], ◌∷◌, ◌++◌, Option, Some, None, length, get_or, set, map, replicate, sym, append_assoc, refl, ◌∙◌, inl, inr, arith}
use Rattle.std.specs.Prelude.{⊤}
use Rattle.std.specs.List.{range_with_len}
use Rattle.std.proofs.lemmas.List.{get_or-replicate, get_or_past, length-replicate}
use Rattle.std.proofs.lemmas.List.Sums.{passes_at_first}
use Rattle.std.proofs.lemmas.Nat.{mod_below}
use Rattle.std.proofs.lemmas.Bool.{false≢true, cases_lt, cond_both, ltb-true, eqb-false, not-true, not-false}
use Rattle.cpm_geom.specs.declared.format.Format.{Format}
use Rattle.cpm_geom.specs.declared.format.Format.TheVariants.{Ibm3740, Large}
use Rattle.cpm_geom.specs.Geometry.{dpb_of, tracks_of, sectors_per_track}
use Rattle.cpm_geom.specs.Disk.{record_count}
use Rattle.cpm_volume.specs.declared.extent.Extent.{Extent}
use Rattle.cpm_volume.specs.declared.extent.Entry.{Entry}
use Rattle.cpm_volume.specs.declared.answer.Fault.TheVariants.{BadSector as bad_sector, ReadOnly as read_only}
use Rattle.cpm_volume.specs.declared.answer.Answer.{Answer}
use Rattle.cpm_volume.specs.declared.answer.Answer.TheVariants.{NoRecord as no_record, CannotClose as cannot_close, NoExtent as no_extent, NoEntryFree as no_entry_free, Fault as fault}
use Rattle.cpm_volume.specs.Reserved.{is_reserved, least_free}
use Rattle.cpm_volume.specs.Files.{extent_number, group_of, entry_place_of, block_number, deleted, entry_at, first_match, first_free, directory_records, Volume, DiskWrite, record_put, IsSound}
use Rattle.cpm_volume.specs.Encoding.{AreBytes}
use Rattle.cpm_volume.specs.Operations.{VolumeOutcome, ends, gives, with_entry, merged, agree, has_bad_block, closed_entry, is_unchanged, Close, refused, close_fault, closed, close_extent, opened_extent, open_extent, open_to_read, made_extent, make_extent, close_file_on_volume, make_file_on_volume, Purpose, reading, writing, Target, Place, stopped, standing, opened_in, made_in, opened_or_made, have_extent, closed_in, cross, next_target, target_of, next_place, place_at, record_in_block, get_record, BlockChoice, no_such_block, none_free, old_block, new_block, block_to_write, with_block, taken_writes, put_found, put_record, read_in, write_in, read_next_on_volume, write_next_on_volume, read_random_on_volume, write_random_on_volume, write_random_cleared_on_volume}
use Rattle.cpm_volume.proofs.Closing.{closed_user}
use Rattle.cpm_volume.proofs.Moving.{closed_volume, closes_free, goes_on, number_below}
use Rattle.cpm_drive.specs.Laws.{IsOfBytes, Fits, AllFit}
use Rattle.cpm_drive.proofs.DiskFits.{VolumeFits, put_fits, fit_append, merged_fits, closed_fits, made_fits, opened_fits, counting_fits, place_within, with_block_fits}

-- a record of a block is one of the disk's
on_disk : (f : Format) (b rest : ℕ) → b ≤ (dpb_of f).last_block → rest < (dpb_of f).block_mask + 1 → b * ((dpb_of f).block_mask + 1) + rest < record_count f
unfolding dpb_of record_count tracks_of sectors_per_track
on_disk Ibm3740 b rest h below = omega arith
on_disk Large b rest h below = omega arith

zero_past : (k : ℕ) → 128 ≤ k → get_or (replicate 128 0) k 0 < 256
zero_past k h =
    let zeros : List ℕ = replicate 128 0 in
    let size : length zeros ≡ 128 = length-replicate {A = ℕ} 128 0 in
    let none : get_or zeros k 0 ≡ 0 = get_or_past zeros k 0 (omega arith) in
    omega arith

zero_bytes : (k : ℕ) → get_or (replicate 128 0) k 0 < 256
zero_bytes k =
    elim (cases_lt k 128) [
      | inl lt ↦ rw (get_or-replicate {A = ℕ} 128 k 0 0 lt) (omega arith)
      | inr ge ↦ zero_past k ge
    ]

-- ---- a call on a record, over a format
module _ (f : Format) where
  -- ---- close, make, open
  ClosesFit : Volume → Close → Type 0
  ClosesFit v refused = ⊤
  ClosesFit v (close_fault which) = ⊤
  ClosesFit v (closed index entries extent) = VolumeFits f (with_entry v index entries) × IsOfBytes (dpb_of f) extent

  closes : (protected : Bool) (v : Volume) (user : ℕ) (x : Extent) → VolumeFits f v → IsOfBytes (dpb_of f) x → ClosesFit v (close_extent (dpb_of f) protected v.entries user x)
  unfolding close_extent ClosesFit
  closes protected v user x fit extent =
      let i = first_match (dpb_of f) v.entries user x.name (group_of (dpb_of f) (extent_number x)) in
      let e = entry_at v.entries i in
      let both : Extent = record x { blocks = merged x.blocks e.extent.blocks } in
      let after = closed_entry e both in
      cond_both (not (ltb i (length v.entries))) refused _ (ClosesFit v) (λ _. tt) (λ within.
      cond_both (has_bad_block (dpb_of f) x.blocks) (close_fault bad_sector) _ (ClosesFit v) (λ _. tt) (λ _.
      cond_both (not (agree x.blocks e.extent.blocks)) refused _ (ClosesFit v) (λ _. tt) (λ _.
      cond_both (protected && not (is_unchanged e.extent after.extent)) (close_fault read_only) (closed i (set v.entries i after) both) (ClosesFit v) (λ _. tt) (λ _.
      let below = ltb-true _ _ (not-false _ within) in
      let both_fit = merged_fits (dpb_of f) x e.extent extent (fit.entries i below) in
      (put_fits f v fit i after below (rw (closed_user e both) (fit.users i below)) (closed_fits (dpb_of f) e both (fit.entries i below) both_fit), both_fit)))))

  MakesFit : Volume → Option (List Entry × Extent) → Type 0
  MakesFit v None = ⊤
  MakesFit v (Some made_extent) = VolumeFits f (with_entry v (first_free v.entries) made_extent.0) × IsOfBytes (dpb_of f) made_extent.1

  makes : (v : Volume) (user : ℕ) (x : Extent) (number : ℕ) → user < 256 → number < 8192 → VolumeFits f v → IsOfBytes (dpb_of f) x → MakesFit v (make_extent v.entries user x number)
  unfolding make_extent MakesFit
  makes v user x number user_fits small fit extent =
      let new = made_fits (dpb_of f) x number small extent in
      cond_both (ltb (first_free v.entries) (length v.entries)) (Some (set v.entries (first_free v.entries) (record { user = user; extent = made_extent x number }), made_extent x number)) None (MakesFit v) (λ free. (put_fits f v fit (first_free v.entries) (record { user = user; extent = made_extent x number }) (ltb-true _ _ free) user_fits new, new)) (λ _. tt)

  OpensFit : Option Extent → Type 0
  OpensFit None = ⊤
  OpensFit (Some it) = IsOfBytes (dpb_of f) it

  opens : (v : Volume) (user : ℕ) (name : List ℕ) (number : ℕ) → number < 8192 → VolumeFits f v → OpensFit (open_extent (dpb_of f) v.entries user name number)
  unfolding open_extent OpensFit
  opens v user name number small fit =
      let i = first_match (dpb_of f) v.entries user name (group_of (dpb_of f) number) in
      cond_both (ltb i (length v.entries)) (Some (opened_extent (entry_at v.entries i).extent number)) None OpensFit (λ h. opened_fits (dpb_of f) (entry_at v.entries i).extent number small (fit.entries i (ltb-true _ _ h))) (λ _. tt)

  opens_to_read : (v : Volume) (user : ℕ) (name : List ℕ) (number : ℕ) → number < 8192 → VolumeFits f v → OpensFit (open_to_read (dpb_of f) v.entries user name number)
  unfolding open_to_read OpensFit
  opens_to_read v user name number small fit =
      let i = first_match (dpb_of f) v.entries user name (group_of (dpb_of f) number) in
      let it = opened_extent (entry_at v.entries i).extent number in
      cond_both (ltb i (length v.entries)) (cond (ltb (extent_number (entry_at v.entries i).extent) number) None (Some it)) None OpensFit (λ h.
      cond_both (ltb (extent_number (entry_at v.entries i).extent) number) None (Some it) OpensFit (λ _. tt) (λ _. opened_fits (dpb_of f) (entry_at v.entries i).extent number small (fit.entries i (ltb-true _ _ h)))) (λ _. tt)

  -- ---- on the way to the record
  PlaceFits : Place → Type 0
  PlaceFits (stopped answer v x) = VolumeFits f v × IsOfBytes (dpb_of f) x
  PlaceFits (standing v x current) = VolumeFits f v × IsOfBytes (dpb_of f) x × (current < 128)

  opens_in : (v : Volume) (x : Extent) (t : Target) (it : Option Extent) → t.current < 128 → VolumeFits f v → IsOfBytes (dpb_of f) x → OpensFit it → PlaceFits (opened_in v x t it)
  unfolding opened_in PlaceFits OpensFit
  opens_in v x t None small fit extent there = (fit, extent)
  opens_in v x t (Some it) small fit extent there = (fit, there, small)

  makes_in : (v : Volume) (x : Extent) (t : Target) (it : Option (List Entry × Extent)) → t.current < 128 → VolumeFits f v → IsOfBytes (dpb_of f) x → MakesFit v it → PlaceFits (made_in v x t it)
  unfolding made_in PlaceFits MakesFit
  makes_in v x t None small fit extent there = (fit, extent)
  makes_in v x t (Some it) small fit extent there = (there.0, there.1, small)

  opens_or_makes : (v : Volume) (user : ℕ) (x : Extent) (t : Target) (it : Option Extent) → user < 256 → t.number < 8192 → t.current < 128 → VolumeFits f v → IsOfBytes (dpb_of f) x → OpensFit it → PlaceFits (opened_or_made v user x t it)
  unfolding opened_or_made PlaceFits OpensFit
  opens_or_makes v user x t None user_fits number small fit extent there = makes_in v x t (make_extent v.entries user x t.number) small fit extent (makes v user x t.number user_fits number fit extent)
  opens_or_makes v user x t (Some it) user_fits number small fit extent there = (fit, there, small)

  has : (purpose : Purpose) (v : Volume) (user : ℕ) (x : Extent) (t : Target) → user < 256 → t.number < 8192 → t.current < 128 → VolumeFits f v → IsOfBytes (dpb_of f) x → PlaceFits (have_extent (dpb_of f) purpose v user x t)
  unfolding have_extent
  has reading v user x t user_fits number small fit extent =
      opens_in v x t (open_to_read (dpb_of f) v.entries user x.name t.number) small fit extent (opens_to_read v user x.name t.number number fit)
  has writing v user x t user_fits number small fit extent =
      opens_or_makes v user x t (open_extent (dpb_of f) v.entries user x.name t.number) user_fits number small fit extent (opens v user x.name t.number number fit)

  closes_in : (purpose : Purpose) (v : Volume) (user : ℕ) (x : Extent) (t : Target) (it : Close) → user < 256 → t.number < 8192 → t.current < 128 → VolumeFits f v → IsOfBytes (dpb_of f) x → ClosesFit v it → PlaceFits (closed_in (dpb_of f) purpose v user x t it)
  unfolding closed_in PlaceFits ClosesFit
  closes_in purpose v user x t refused user_fits number small fit extent there = (fit, extent)
  closes_in purpose v user x t (close_fault which) user_fits number small fit extent there = (fit, extent)
  closes_in purpose v user x t (closed i es y) user_fits number small fit extent there =
      has purpose (with_entry v i es) user y t user_fits number small there.0 there.1

  crosses : (purpose : Purpose) (v : Volume) (user : ℕ) (x : Extent) (t : Target) → user < 256 → t.number < 8192 → t.current < 128 → VolumeFits f v → IsOfBytes (dpb_of f) x → PlaceFits (cross (dpb_of f) purpose false v user x t)
  unfolding cross
  crosses purpose v user x t user_fits number small fit extent =
      closes_in purpose v user x t (close_extent (dpb_of f) false v.entries user x) user_fits number small fit extent (closes false v user x fit extent)

  stops : (answer : Answer) (v : Volume) (x : Extent) → VolumeFits f v → IsOfBytes (dpb_of f) x → PlaceFits (stopped answer v x)
  unfolding PlaceFits
  stops answer v x fit extent = (fit, extent)

  stands : (v : Volume) (x : Extent) (current : ℕ) → VolumeFits f v → IsOfBytes (dpb_of f) x → current < 128 → PlaceFits (standing v x current)
  unfolding PlaceFits
  stands v x current fit extent small = (fit, extent, small)

  next_crosses : (purpose : Purpose) (v : Volume) (user : ℕ) (x : Extent) → user < 256 → VolumeFits f v → IsOfBytes (dpb_of f) x → PlaceFits (cross (dpb_of f) purpose false v user x (next_target x))
  unfolding next_target
  next_crosses purpose v user x user_fits fit extent =
      let low = number_below x in
      crosses purpose v user x _ user_fits (omega arith) (omega arith) fit extent

  at_next : (purpose : Purpose) (v : Volume) (user : ℕ) (x : Extent) (current : ℕ) → user < 256 → VolumeFits f v → IsOfBytes (dpb_of f) x → PlaceFits (next_place (dpb_of f) purpose false v user x current)
  unfolding next_place
  at_next purpose v user x current user_fits fit extent =
      cond_both (ltb current 128) (standing v x current) _ PlaceFits (λ h. stands v x current fit extent (ltb-true _ _ h)) (λ _.
      cond_both (eqb (extent_number x) 511) (stopped no_record v x) (cross (dpb_of f) purpose false v user x (next_target x)) PlaceFits (λ _. stops no_record v x fit extent) (λ _.
      next_crosses purpose v user x user_fits fit extent))

  at_any : (purpose : Purpose) (v : Volume) (user : ℕ) (x : Extent) (missing : Answer) (n : ℕ) → user < 256 → n < 65536 → VolumeFits f v → IsOfBytes (dpb_of f) x → PlaceFits (place_at (dpb_of f) purpose false v user x (target_of missing n))
  unfolding place_at target_of
  at_any purpose v user x missing n user_fits high fit extent =
      let t : Target = record { number = n / 128; current = n % 128; unclosed = cannot_close; missing = missing } in
      let small : n % 128 < 128 = mod_below n 128 (omega arith) in
      cond_both (eqb (n / 128) (extent_number x)) (standing v x (n % 128)) (cross (dpb_of f) purpose false v user x t) PlaceFits (λ _. stands v x (n % 128) fit extent small) (λ _. crosses purpose v user x t user_fits (omega arith) small fit extent)

  -- ---- at the record
  unfoldable pub OutcomeFits : VolumeOutcome → Type 0
  OutcomeFits o = VolumeFits f o.volume × IsOfBytes (dpb_of f) o.extent

  gets : (v : Volume) (x : Extent) (current next : ℕ) → VolumeFits f v → IsOfBytes (dpb_of f) x → OutcomeFits (get_record (dpb_of f) v x current next)
  unfolding get_record ends gives OutcomeFits
  gets v x current next fit extent =
      let b = block_number x (entry_place_of (dpb_of f) x current) in
      cond_both (not (ltb current x.record_count)) (ends no_record v x current) _ OutcomeFits (λ _. (fit, extent)) (λ _.
      cond_both (ltb (dpb_of f).last_block b) (ends (fault bad_sector) v x current) _ OutcomeFits (λ _. (fit, extent)) (λ _.
      cond_both (eqb b 0) (ends no_record v x current) (gives v x next (record_in_block (dpb_of f) b current)) OutcomeFits (λ _. (fit, extent)) (λ _. (fit, extent))))

  reads_in : (current step : ℕ) (place : Place) → PlaceFits place → OutcomeFits (read_in (dpb_of f) current step place)
  unfolding read_in ends PlaceFits OutcomeFits
  reads_in current step (stopped answer v x) fit = (fit.0, fit.1)
  reads_in current step (standing v x here) fit = gets v x here (here + step) fit.0 fit.1

  -- ---- a record that is put on a drive that agrees with the file control block
  -- a block of the drive, behind its directory
  BlockFits : ℕ → Type 0
  BlockFits b = (b ≤ (dpb_of f).last_block) × (directory_records (dpb_of f) ≤ b * ((dpb_of f).block_mask + 1))

  FoundFits : BlockChoice → Type 0
  FoundFits no_such_block = ⊤
  FoundFits none_free = ⊤
  FoundFits (old_block b) = BlockFits b
  FoundFits (new_block b) = BlockFits b

  free_fits : (v : Volume) (user : ℕ) (x : Extent) → IsSound (dpb_of f) v user x → least_free v.reserved < length v.reserved → BlockFits (least_free v.reserved)
  unfolding is_reserved least_free BlockFits
  free_fits v user x sound free =
      let size = sound.volume.blocks in
      let unused : is_reserved v.reserved (least_free v.reserved) ≡ false = not-true _ (passes_at_first not v.reserved true free) in (
        omega arith,
        elim (cases_lt (least_free v.reserved * ((dpb_of f).block_mask + 1)) (directory_records (dpb_of f))) [
          | inl lt ↦ absurd (false≢true (sym unused ∙ sound.well_formed.directory _ lt))
          | inr ge ↦ ge
        ],
      )

  left_true : (a b : Bool) → (a && b) ≡ true → a ≡ true
  left_true true b h = refl
  left_true false b h = absurd (false≢true h)

  found : (v : Volume) (user : ℕ) (x : Extent) (place : ℕ) → IsSound (dpb_of f) v user x → FoundFits (block_to_write (dpb_of f) v.reserved (block_number x place))
  unfolding block_to_write FoundFits BlockFits
  found v user x place sound =
      let b = block_number x place in
      cond_both (ltb (dpb_of f).last_block b) no_such_block _ FoundFits (λ _. tt) (λ _.
      cond_both (not (eqb b 0)) (old_block b) _ FoundFits (λ some. let stored = sound.kept.stored place (eqb-false _ _ (not-true _ some)) in (stored.within, stored.outside)) (λ _.
      cond_both (ltb (least_free v.reserved) (length v.reserved) && ltb (least_free v.reserved) ((dpb_of f).last_block + 1)) (new_block (least_free v.reserved)) none_free FoundFits (λ free. free_fits v user x sound (ltb-true _ _ (left_true _ _ free))) (λ _. tt)))

  record_fits : (b current : ℕ) (bytes : List ℕ) → BlockFits b → AreBytes 128 bytes → Fits f (record_put (record_in_block (dpb_of f) b current) bytes)
  unfolding BlockFits Fits record_in_block
  record_fits b current bytes block are =
      let rest = mod_below current ((dpb_of f).block_mask + 1) (omega arith) in
      (omega (arith, block.1), on_disk f b (current % ((dpb_of f).block_mask + 1)) block.0 rest, are)

  one_fits : (b current : ℕ) (bytes : List ℕ) → BlockFits b → AreBytes 128 bytes → AllFit f (record_put (record_in_block (dpb_of f) b current) bytes ∷ [])
  unfolding AllFit
  one_fits b current bytes block are = (record_fits b current bytes block are, tt)

  zero_fits : (b place : ℕ) → BlockFits b → place < (dpb_of f).block_mask + 1 → Fits f (record_put (b * ((dpb_of f).block_mask + 1) + place) (replicate 128 0))
  unfolding BlockFits Fits
  zero_fits b place block below =
      (omega (arith, block.1), on_disk f b place block.0 below, record { count = length-replicate {A = ℕ} 128 0; bytes_fit = zero_bytes })

  zeros_fit : (b count from : ℕ) → BlockFits b → from + count ≤ (dpb_of f).block_mask + 1 → AllFit f (map (λ place. record_put (b * ((dpb_of f).block_mask + 1) + place) (replicate 128 0)) (range_with_len from count))
  unfolding AllFit
  zeros_fit b zero from block below = tt
  zeros_fit b (suc count) from block below = (zero_fits b from block (omega arith), zeros_fit b count (from + 1) block (omega arith))

  taken_fit : (clears : Bool) (b : ℕ) → BlockFits b → AllFit f (taken_writes (dpb_of f) clears b)
  unfolding taken_writes AllFit
  taken_fit false b block = tt
  taken_fit true b block = zeros_fit b ((dpb_of f).block_mask + 1) 0 block (omega arith)

  log_with : (v v' : Volume) (ws : List DiskWrite) → VolumeFits f v → v'.entries ≡ v.entries → v'.written ≡ v.written ++ ws → AllFit f ws → VolumeFits f v'
  log_with v v' ws fit same log more = record {
    count = rw same fit.count;
    users = rw same fit.users;
    entries = rw same fit.entries;
    log = rw log (fit_append f v.written ws fit.log more);
  }

  puts_found : (clears : Bool) (v : Volume) (x : Extent) (current next : ℕ) (bytes : List ℕ) (it : BlockChoice) → current < 128 → AreBytes 128 bytes → VolumeFits f v → IsOfBytes (dpb_of f) x → FoundFits it → OutcomeFits (put_found (dpb_of f) clears v x current next bytes it)
  unfolding put_found ends OutcomeFits FoundFits BlockFits
  puts_found clears v x current next bytes no_such_block small are fit extent there = (fit, extent)
  puts_found clears v x current next bytes none_free small are fit extent there = (fit, extent)
  puts_found clears v x current next bytes (old_block b) small are fit extent there =
      (log_with v _ (record_put (record_in_block (dpb_of f) b current) bytes ∷ []) fit refl refl (one_fits b current bytes there are), counting_fits (dpb_of f) x current small extent)
  puts_found clears v x current next bytes (new_block b) small are fit extent there = (
    log_with v _ (taken_writes (dpb_of f) clears b ++ record_put (record_in_block (dpb_of f) b current) bytes ∷ []) fit refl (append_assoc v.written (taken_writes (dpb_of f) clears b) (record_put (record_in_block (dpb_of f) b current) bytes ∷ [])) (fit_append f (taken_writes (dpb_of f) clears b) (record_put (record_in_block (dpb_of f) b current) bytes ∷ []) (taken_fit clears b there) (one_fits b current bytes there are)),
    counting_fits (dpb_of f) (with_block x (entry_place_of (dpb_of f) x current) b) current small (with_block_fits f x (entry_place_of (dpb_of f) x current) b there.0 (place_within f x current small) extent),
  )

  puts : (clears : Bool) (v : Volume) (user : ℕ) (x : Extent) (current next : ℕ) (bytes : List ℕ) → IsSound (dpb_of f) v user x → current < 128 → AreBytes 128 bytes → VolumeFits f v → IsOfBytes (dpb_of f) x → OutcomeFits (put_record (dpb_of f) clears v x current next bytes)
  unfolding put_record
  puts clears v user x current next bytes sound small are fit extent =
      puts_found clears v x current next bytes (block_to_write (dpb_of f) v.reserved (block_number x (entry_place_of (dpb_of f) x current))) small are fit extent (found v user x (entry_place_of (dpb_of f) x current) sound)

  -- where a write stands, the drive and the file control block agree
  PlaceSound : ℕ → Place → Type 0
  PlaceSound user (stopped answer v x) = ⊤
  PlaceSound user (standing v x current) = IsSound (dpb_of f) v user x

  sound_there : (user : ℕ) (v : Volume) (x : Extent) (current : ℕ) → IsSound (dpb_of f) v user x → PlaceSound user (standing v x current)
  unfolding PlaceSound
  sound_there user v x current sound = sound

  sound_stopped : (user : ℕ) (answer : Answer) (v : Volume) (x : Extent) → PlaceSound user (stopped answer v x)
  unfolding PlaceSound
  sound_stopped user answer v x = tt

  sound_cross : (v : Volume) (user : ℕ) (x : Extent) (t : Target) → user ≢ deleted → IsSound (dpb_of f) v user x → t.number < 512 → PlaceSound user (cross (dpb_of f) writing false v user x t)
  sound_cross v user x t ok sound small =
      elim (goes_on (dpb_of f) user v x ok sound t small) [
        | inl m ↦ rw (closes_free (dpb_of f) user v x ok sound writing t, m.2) (sound_there user m.0 m.1 t.current m.3.sound)
        | inr s ↦ rw (closes_free (dpb_of f) user v x ok sound writing t, s.0) (sound_stopped user t.missing (closed_volume (dpb_of f) user v x ok sound) x)
      ]

  next_sound_cross : (v : Volume) (user : ℕ) (x : Extent) → user ≢ deleted → IsSound (dpb_of f) v user x → extent_number x ≢ 511 → PlaceSound user (cross (dpb_of f) writing false v user x (next_target x))
  unfolding next_target
  next_sound_cross v user x ok sound more =
      let low = number_below x in
      sound_cross v user x _ ok sound (omega arith)

  next_sound : (v : Volume) (user : ℕ) (x : Extent) (current : ℕ) → user ≢ deleted → IsSound (dpb_of f) v user x → PlaceSound user (next_place (dpb_of f) writing false v user x current)
  unfolding next_place
  next_sound v user x current ok sound =
      cond_both (ltb current 128) (standing v x current) _ (PlaceSound user) (λ _. sound_there user v x current sound) (λ _.
      cond_both (eqb (extent_number x) 511) (stopped no_record v x) (cross (dpb_of f) writing false v user x (next_target x)) (PlaceSound user) (λ _. sound_stopped user no_record v x) (λ other.
      next_sound_cross v user x ok sound (eqb-false _ _ other)))

  any_sound : (v : Volume) (user : ℕ) (x : Extent) (missing : Answer) (n : ℕ) → user ≢ deleted → IsSound (dpb_of f) v user x → n < 65536 → PlaceSound user (place_at (dpb_of f) writing false v user x (target_of missing n))
  unfolding place_at target_of
  any_sound v user x missing n ok sound high =
      let t : Target = record { number = n / 128; current = n % 128; unclosed = cannot_close; missing = missing } in
      cond_both (eqb (n / 128) (extent_number x)) (standing v x (n % 128)) (cross (dpb_of f) writing false v user x t) (PlaceSound user) (λ _. sound_there user v x (n % 128) sound) (λ _. sound_cross v user x t ok sound (omega arith))

  writes_in : (clears : Bool) (current step : ℕ) (bytes : List ℕ) (user : ℕ) (place : Place) → AreBytes 128 bytes → PlaceFits place → PlaceSound user place → OutcomeFits (write_in (dpb_of f) clears current step bytes place)
  unfolding write_in ends PlaceFits PlaceSound OutcomeFits
  writes_in clears current step bytes user (stopped answer v x) are fit sound = (fit.0, fit.1)
  writes_in clears current step bytes user (standing v x here) are fit sound =
      puts clears v user x here (here + step) bytes sound fit.2 are fit.0 fit.1

  -- ---- the calls
  module _ (v : Volume) (user : ℕ) (x : Extent) (user_fits : user < 256) (fit : VolumeFits f v) (extent : IsOfBytes (dpb_of f) x) where
    pub read_next_fits : (current : ℕ) → OutcomeFits (read_next_on_volume (dpb_of f) false v user x current)
    unfolding read_next_on_volume
    read_next_fits current = reads_in current 1 (next_place (dpb_of f) reading false v user x current) (at_next reading v user x current user_fits fit extent)

    pub read_at_fits : (current n : ℕ) → n < 65536 → OutcomeFits (read_random_on_volume (dpb_of f) false v user x current n)
    unfolding read_random_on_volume
    read_at_fits current n high = reads_in current 0 (place_at (dpb_of f) reading false v user x (target_of no_extent n)) (at_any reading v user x no_extent n user_fits high fit extent)

    pub write_next_fits : (current : ℕ) (bytes : List ℕ) → user ≢ deleted → IsSound (dpb_of f) v user x → AreBytes 128 bytes → OutcomeFits (write_next_on_volume (dpb_of f) v user x current bytes)
    unfolding write_next_on_volume
    write_next_fits current bytes ok sound are =
        writes_in false current 1 bytes user (next_place (dpb_of f) writing false v user x current) are (at_next writing v user x current user_fits fit extent) (next_sound v user x current ok sound)

    pub write_at_fits : (current n : ℕ) (bytes : List ℕ) → user ≢ deleted → IsSound (dpb_of f) v user x → n < 65536 → AreBytes 128 bytes → OutcomeFits (write_random_on_volume (dpb_of f) v user x current n bytes)
    unfolding write_random_on_volume
    write_at_fits current n bytes ok sound high are =
        writes_in false current 0 bytes user (place_at (dpb_of f) writing false v user x (target_of no_entry_free n)) are (at_any writing v user x no_entry_free n user_fits high fit extent) (any_sound v user x no_entry_free n ok sound high)

    pub write_at_cleared_fits : (current n : ℕ) (bytes : List ℕ) → user ≢ deleted → IsSound (dpb_of f) v user x → n < 65536 → AreBytes 128 bytes → OutcomeFits (write_random_cleared_on_volume (dpb_of f) v user x current n bytes)
    unfolding write_random_cleared_on_volume
    write_at_cleared_fits current n bytes ok sound high are =
        writes_in true current 0 bytes user (place_at (dpb_of f) writing false v user x (target_of no_entry_free n)) are (at_any writing v user x no_entry_free n user_fits high fit extent) (any_sound v user x no_entry_free n ok sound high)

    pub close_fits : (index : ℕ) (after : List Entry) (x' : Extent) → close_file_on_volume (dpb_of f) false v.entries user x ≡ closed index after x' → VolumeFits f (with_entry v index after) × IsOfBytes (dpb_of f) x'
    unfolding close_file_on_volume ClosesFit
    close_fits index after x' h =
        let there = closes false v user x fit extent in
        rw h at there

    pub make_fits : (after : List Entry) (x' : Extent) → make_file_on_volume v.entries user x ≡ Some (after, x') → VolumeFits f (with_entry v (first_free v.entries) after) × IsOfBytes (dpb_of f) x'
    unfolding make_file_on_volume MakesFit
    make_fits after x' h =
        let there = makes v user x (x.ex % 32) user_fits (omega arith) fit extent in
        rw h at there
