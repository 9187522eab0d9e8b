-- Where a call stands when it comes to its record, case by case.
use Rattle.std.proofs.Common.{◌≡◌, ◌≢◌, ℕ, ◌<◌, ◌≤◌, Bool, List, Some, None, length, set, refl, ap}
use Rattle.std.proofs.lemmas.Bool.{lt-ltb, le-ltb, eq-eqb, ne_eqb}
use Rattle.cpm_geom.specs.declared.dpb.Dpb.{Dpb}
use Rattle.cpm_geom.specs.Disk.{Disk}
use Rattle.cpm_volume.specs.declared.extent.Extent.{Extent}
use Rattle.cpm_volume.specs.declared.answer.Fault.{Fault}
use Rattle.cpm_volume.specs.declared.answer.Answer.TheVariants.{Fault as fault, NoRecord as no_record}
use Rattle.cpm_volume.specs.Files.{extent_number, first_free, Volume}
use Rattle.cpm_volume.specs.Operations.{close_extent, refused, close_fault, closed, open_extent, open_to_read, make_extent, Purpose, reading, writing, Target, stopped, standing, opened_in, made_in, opened_or_made, have_extent, closed_in, cross, next_target, next_place, place_at}
use Rattle.cpm_directory.specs.Directory.{entries_of}
use Rattle.cpm_drive.specs.Drive.{volume_of}
use Rattle.cpm_drive.specs.declared.change.Change.{Change}
use Rattle.cpm_drive.specs.Judged.{with_change}
use Rattle.cpm_drive.proofs.ChangeLemmas.{change_is}

pub no_change : (v : Volume) → with_change v None ≡ v
unfolding with_change
no_change v = refl

pub no_changes : (v : Volume) → with_change (with_change v None) None ≡ v
unfolding with_change
no_changes v = refl

pub volume_entries : (disk : Disk) (r : List Bool) → (volume_of disk r).entries ≡ entries_of disk
unfolding volume_of
volume_entries disk r = refl

pub changed_entries : (disk : Disk) (r : List Bool) (c : Change) → (with_change (volume_of disk r) (Some c)).entries ≡ set (entries_of disk) c.index c.entry
unfolding with_change volume_of
changed_entries disk r c = refl

module _ (d : Dpb) (v : Volume) (user : ℕ) (x : Extent) (t : Target) where
  pub read_missing : open_to_read d v.entries user x.name t.number ≡ None → have_extent d reading v user x t ≡ stopped t.missing v x
  unfolding have_extent opened_in
  read_missing h = rw h refl

  pub read_opened : (it : Extent) → open_to_read d v.entries user x.name t.number ≡ Some it → have_extent d reading v user x t ≡ standing v it t.current
  unfolding have_extent opened_in
  read_opened it h = rw h refl

  pub write_opened : (it : Extent) → open_extent d v.entries user x.name t.number ≡ Some it → have_extent d writing v user x t ≡ standing v it t.current
  unfolding have_extent opened_or_made
  write_opened it h = rw h refl

  pub write_missing : open_extent d v.entries user x.name t.number ≡ None → make_extent v.entries user x t.number ≡ None → have_extent d writing v user x t ≡ stopped t.missing v x
  unfolding have_extent opened_or_made made_in
  write_missing h k = rw (h, k) refl

  pub write_made : (c : Change) → open_extent d v.entries user x.name t.number ≡ None → make_extent v.entries user x t.number ≡ Some (set v.entries c.index c.entry, c.entry.extent) → c.index ≡ first_free v.entries → c.index < length v.entries → have_extent d writing v user x t ≡ standing (with_change v (Some c)) c.entry.extent t.current
  unfolding have_extent opened_or_made made_in
  write_made c h k is below = rw (h, k, ← is) (ap (λ w. standing w c.entry.extent t.current) (change_is v c below))

module _ (d : Dpb) (purpose : Purpose) (protected : Bool) (disk : Disk) (r : List Bool) (user : ℕ) (x : Extent) (t : Target) where
  pub cross_refused : close_extent d protected (entries_of disk) user x ≡ refused → cross d purpose protected (volume_of disk r) user x t ≡ stopped t.unclosed (volume_of disk r) x
  unfolding cross closed_in
  cross_refused h = rw (volume_entries disk r, h) refl

  pub cross_fault : (which : Fault) → close_extent d protected (entries_of disk) user x ≡ close_fault which → cross d purpose protected (volume_of disk r) user x t ≡ stopped (fault which) (volume_of disk r) x
  unfolding cross closed_in
  cross_fault which h = rw (volume_entries disk r, h) refl

  pub cross_closed : (c : Change) (both : Extent) → close_extent d protected (entries_of disk) user x ≡ closed c.index (set (entries_of disk) c.index c.entry) both → c.index < length (entries_of disk) → cross d purpose protected (volume_of disk r) user x t ≡ have_extent d purpose (with_change (volume_of disk r) (Some c)) user both t
  unfolding cross closed_in
  cross_closed c both h below =
      let same = volume_entries disk r in
      let is = change_is (volume_of disk r) c (rw same below) in
      rw (same, h) (ap (λ w. have_extent d purpose w user both t) (rw same at is))

module _ (d : Dpb) (purpose : Purpose) (protected : Bool) (v : Volume) (user : ℕ) (x : Extent) where
  pub next_here : (current : ℕ) → current < 128 → next_place d purpose protected v user x current ≡ standing v x current
  unfolding next_place
  next_here current h = rw (lt-ltb _ _ h) refl

  pub next_last : (current : ℕ) → 128 ≤ current → extent_number x ≡ 511 → next_place d purpose protected v user x current ≡ stopped no_record v x
  unfolding next_place
  next_last current h last = rw (le-ltb _ _ h, eq-eqb _ _ last) refl

  pub next_crosses : (current : ℕ) → 128 ≤ current → extent_number x ≢ 511 → next_place d purpose protected v user x current ≡ cross d purpose protected v user x (next_target x)
  unfolding next_place
  next_crosses current h other = rw (le-ltb _ _ h, ne_eqb _ _ other) refl

  pub at_here : (t : Target) → t.number ≡ extent_number x → place_at d purpose protected v user x t ≡ standing v x t.current
  unfolding place_at
  at_here t h = rw (eq-eqb _ _ h) refl

  pub at_crosses : (t : Target) → t.number ≢ extent_number x → place_at d purpose protected v user x t ≡ cross d purpose protected v user x t
  unfolding place_at
  at_crosses t h = rw (ne_eqb _ _ h) refl
