-- A close, case by case.
use Rattle.std.proofs.Common.{◌≡◌, ℕ, ◌<◌, ◌≤◌, Bool, true, false, not, ◌&&◌, List, length, set, refl}
use Rattle.std.proofs.lemmas.Bool.{lt-ltb, le-ltb}
use Rattle.cpm_geom.specs.declared.dpb.Dpb.{Dpb}
use Rattle.cpm_volume.specs.declared.extent.Extent.{Extent}
use Rattle.cpm_volume.specs.declared.extent.Entry.{Entry}
use Rattle.cpm_volume.specs.declared.answer.Fault.{Fault}
use Rattle.cpm_volume.specs.Files.{extent_number, group_of, entry_at, first_match}
use Rattle.cpm_volume.specs.Operations.{refused, close_fault, closed, close_extent, merged, agree, has_bad_block, closed_entry, is_unchanged}

module _ (d : Dpb) (protected : Bool) (es : List Entry) (user : ℕ) (x : Extent) where
  pub close_none : length es ≤ first_match d es user x.name (group_of d (extent_number x)) → close_extent d protected es user x ≡ refused
  unfolding close_extent
  close_none h = rw (le-ltb _ _ h) refl

  module _ (i : ℕ) (is : i ≡ first_match d es user x.name (group_of d (extent_number x))) (h : i < length es) where
    pub close_bad : has_bad_block d x.blocks ≡ true → close_extent d protected es user x ≡ close_fault Fault.BadSector
    unfolding close_extent
    close_bad bad = rw (← is, lt-ltb _ _ h, bad) refl

    pub close_unlike : (e : Entry) → e ≡ entry_at es i → has_bad_block d x.blocks ≡ false → agree x.blocks e.extent.blocks ≡ false → close_extent d protected es user x ≡ refused
    unfolding close_extent
    close_unlike e at bad unlike = rw (← is, lt-ltb _ _ h, bad, ← at, unlike) refl

    pub close_protected : (e : Entry) (blocks : List ℕ) (after : Entry) → e ≡ entry_at es i → blocks ≡ merged x.blocks e.extent.blocks → after ≡ closed_entry e (record x { blocks = blocks }) → has_bad_block d x.blocks ≡ false → agree x.blocks e.extent.blocks ≡ true → (protected && not (is_unchanged e.extent after.extent)) ≡ true → close_extent d protected es user x ≡ close_fault Fault.ReadOnly
    unfolding close_extent
    close_protected e blocks after at both then bad like stays = rw (← is, lt-ltb _ _ h, bad, ← at, like, ← both, ← then, stays) refl

    pub close_closed : (e : Entry) (blocks : List ℕ) (after : Entry) → e ≡ entry_at es i → blocks ≡ merged x.blocks e.extent.blocks → after ≡ closed_entry e (record x { blocks = blocks }) → has_bad_block d x.blocks ≡ false → agree x.blocks e.extent.blocks ≡ true → (protected && not (is_unchanged e.extent after.extent)) ≡ false → close_extent d protected es user x ≡ closed i (set es i after) (record x { blocks = blocks })
    unfolding close_extent
    close_closed e blocks after at both then bad like stays = rw (← is, lt-ltb _ _ h, bad, ← at, like, ← both, ← then, stays) refl
