-- An open and a make, case by case.
use Rattle.std.proofs.Common.{◌≡◌, ℕ, ◌<◌, ◌≤◌, List, Some, None, cond, ltb, length, set, refl}
use Rattle.std.proofs.lemmas.Bool.{lt-ltb, le-ltb}
use Rattle.cpm_geom.specs.declared.dpb.Dpb.{Dpb}
use Rattle.cpm_volume.specs.declared.extent.Extent.{Extent}
use Rattle.cpm_volume.specs.declared.extent.Entry.{Entry}
use Rattle.cpm_volume.specs.Files.{extent_number, group_of, entry_at, first_match, first_free}
use Rattle.cpm_volume.specs.Operations.{opened_extent, open_extent, open_to_read, made_extent, make_extent}

module _ (d : Dpb) (es : List Entry) (user : ℕ) (name : List ℕ) (number : ℕ) where
  module _ (h : length es ≤ first_match d es user name (group_of d number)) where
    pub open_none : open_extent d es user name number ≡ None
    unfolding open_extent
    open_none = rw (le-ltb _ _ h) refl

    pub read_none : open_to_read d es user name number ≡ None
    unfolding open_to_read
    read_none = rw (le-ltb _ _ h) refl

  module _ (i : ℕ) (is : i ≡ first_match d es user name (group_of d number)) (h : i < length es) where
    pub open_found : open_extent d es user name number ≡ Some (opened_extent (entry_at es i).extent number)
    unfolding open_extent
    open_found = rw (← is, lt-ltb _ _ h) refl

    pub read_found : open_to_read d es user name number ≡ cond (ltb (extent_number (entry_at es i).extent) number) None (Some (opened_extent (entry_at es i).extent number))
    unfolding open_to_read
    read_found = rw (← is, lt-ltb _ _ h) refl

module _ (es : List Entry) (user : ℕ) (x : Extent) (number : ℕ) where
  pub make_none : length es ≤ first_free es → make_extent es user x number ≡ None
  unfolding make_extent
  make_none h = rw (le-ltb _ _ h) refl

  pub make_free : (i : ℕ) → i ≡ first_free es → i < length es → make_extent es user x number ≡ Some (set es i (record { user = user; extent = made_extent x number }), made_extent x number)
  unfolding make_extent
  make_free i is h = rw (← is, lt-ltb _ _ h) refl
