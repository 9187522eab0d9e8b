-- The laws of opening and making a file.
use Rattle.std.proofs.Common.{◌≡◌, ◌≢◌, ℕ, ◌%◌, ◌<◌, ◌≤◌, true, false, List, Some, None, length, sym, refl, ◌∙◌, inl, inr, arith}
use Rattle.std.proofs.lemmas.Bool.{false≢true, cases_lt, lt-ltb, le-ltb}
use Rattle.std.proofs.lemmas.List.{length-replicate}
use Rattle.cpm_geom.specs.declared.dpb.Dpb.{Dpb}
use Rattle.cpm_volume.specs.declared.extent.Extent.{Extent}
use Rattle.cpm_volume.specs.Files.{extent_number, group_of, has_wildcard, deleted, entry_at, is_of, first_of, first_free, file_record, open_file_record, Volume, IsSoundDrive}
use Rattle.cpm_volume.specs.Operations.{with_entry, opened_extent, made_extent, open_to_read, make_extent, open_file_on_volume, make_file_on_volume}
use Rattle.cpm_volume.specs.Laws.{KnowsFile, HasNoFile, OpensFile, MakesFile}
use Rattle.cpm_volume.proofs.Entries.{is_of_parts, is_of_from, first_of_passes}
use Rattle.cpm_volume.proofs.NameLemmas.{first_match_plain, same_name-trans, same_name-sym, same_name-refl}
use Rattle.cpm_volume.proofs.Moving.{none_of, all_used}
use Rattle.cpm_volume.proofs.Opening as opening
use Rattle.cpm_volume.proofs.Making as making

made_map : (x : Extent) (number : ℕ) → length (made_extent x number).blocks ≡ 16
unfolding made_extent
made_map x number = length-replicate {A = ℕ} 16 0

module _ (d : Dpb) (user : ℕ) (v : Volume) (x : Extent) (user_ok : user ≢ deleted) (drive : IsSoundDrive d v) (plain : has_wildcard x.name ≡ false) where
  small : x.ex % 32 < 512
  small = omega arith

  index : ℕ
  index = first_of d v.entries user x.name (group_of d (x.ex % 32))

  -- ---- with an entry of the group
  module _ (there : first_of d v.entries user x.name (group_of d (x.ex % 32)) < length v.entries) where
    matched : is_of d user x.name (group_of d (x.ex % 32)) (entry_at v.entries index) ≡ true
    unfolding index
    matched = first_of_passes d v.entries user x.name (group_of d (x.ex % 32)) there

    it : Extent
    it = opened_extent (entry_at v.entries index).extent (x.ex % 32)

    number_it : extent_number it ≡ x.ex % 32
    unfolding it
    number_it = opening.opened_number (entry_at v.entries index).extent (x.ex % 32) small

    lesser : extent_number (entry_at v.entries index).extent < x.ex % 32 → open_file_on_volume d v.entries user x ≡ None
    unfolding open_file_on_volume open_to_read index
    lesser l = rw (first_match_plain d v.entries user x.name (group_of d (x.ex % 32)) plain, lt-ltb _ _ there, lt-ltb _ _ l) refl

    module _ (greater : x.ex % 32 ≤ extent_number (entry_at v.entries index).extent) where
      opens : open_file_on_volume d v.entries user x ≡ Some it
      unfolding open_file_on_volume open_to_read it index
      opens = rw (first_match_plain d v.entries user x.name (group_of d (x.ex % 32)) plain, lt-ltb _ _ there, le-ltb _ _ greater) refl

      knows : KnowsFile d user x.name v v it
      unfolding it open_file_record file_record
      knows = record {
        name_is = opening.opened_name_same d v.entries v.reserved user x.name (x.ex % 32) index user_ok plain small drive.well_formed matched;
        file = λ m. rw (opening.open_same d v.entries v.reserved user x.name (x.ex % 32) index user_ok plain small drive.well_formed matched greater m) refl;
        sound = record {
          volume = drive.volume;
          well_formed = drive.well_formed;
          kept = opening.open_kept d v.entries v.reserved user x.name (x.ex % 32) index user_ok plain small drive.well_formed matched;
          map = rw (opening.opened_map (entry_at v.entries index).extent (x.ex % 32)) (drive.volume.maps index (opening.there_used d v.entries v.reserved user x.name (x.ex % 32) index user_ok plain small drive.well_formed matched));
        };
      }

  -- the one entry of the group is the first
  only_lesser : first_of d v.entries user x.name (group_of d (x.ex % 32)) < length v.entries → extent_number (entry_at v.entries index).extent < x.ex % 32 → HasNoFile d user v x
  unfolding index
  only_lesser there l = record {
    lesser = λ i own.
        let q = is_of_parts d user x.name (group_of d (x.ex % 32)) _ own in
        let p = is_of_parts d user x.name (group_of d (x.ex % 32)) _ (matched there) in
        let same = drive.well_formed.apart i index (record { used = λ e. user_ok (sym q.0 ∙ e) }) (is_of_from d _ _ _ _ (p.0 ∙ sym q.0) (same_name-trans _ _ _ (same_name-sym _ _ q.1) (same_name-sym _ _ p.1)) (p.2 ∙ sym q.2)) in
        rw same l;
  }

  none_there : length v.entries ≤ first_of d v.entries user x.name (group_of d (x.ex % 32)) → HasNoFile d user v x
  none_there h = record {
    lesser = λ i own. absurd (false≢true (sym (none_of d v.entries user x.name (group_of d (x.ex % 32)) user_ok h i) ∙ own));
  }

  past : length v.entries ≤ first_of d v.entries user x.name (group_of d (x.ex % 32)) → open_file_on_volume d v.entries user x ≡ None
  unfolding open_file_on_volume open_to_read
  past h = rw (first_match_plain d v.entries user x.name (group_of d (x.ex % 32)) plain, le-ltb _ _ h) refl

  pub opens_file : OpensFile d user v x
  opens_file =
      elim (cases_lt (first_of d v.entries user x.name (group_of d (x.ex % 32))) (length v.entries)) [
        | inr h ↦ inl (past h, none_there h)
        | inl there ↦ elim (cases_lt (extent_number (entry_at v.entries index).extent) (x.ex % 32)) [
          | inl l ↦ inl (lesser there l, only_lesser there l)
          | inr g ↦ inr (it there, opens there g, record { index = index; owner = matched there; no_lesser = g }, number_it there, knows there g)
        ]
      ]

  -- ---- with no entry of the group
  module _ (none : (j : ℕ) → is_of d user x.name (group_of d (x.ex % 32)) (entry_at v.entries j) ≡ false) where
    no_room : length v.entries ≤ first_free v.entries → make_file_on_volume v.entries user x ≡ None
    unfolding make_file_on_volume make_extent
    no_room h = rw (le-ltb _ _ h) refl

    module _ (free : first_free v.entries < length v.entries) where
      makes : make_file_on_volume v.entries user x ≡ Some (making.after d v.entries v.reserved user x (x.ex % 32) user_ok plain small drive.well_formed none free, made_extent x (x.ex % 32))
      unfolding make_file_on_volume
      makes = making.make_answer d v.entries v.reserved user x (x.ex % 32) user_ok plain small drive.well_formed none free

      stays : (other : ℕ) (name : List ℕ) (m : ℕ) → other ≢ deleted → file_record d (making.after d v.entries v.reserved user x (x.ex % 32) user_ok plain small drive.well_formed none free) v.records other name m ≡ file_record d v.entries v.records other name m
      unfolding file_record
      stays other name m ok = rw (making.make_files d v.entries v.reserved user x (x.ex % 32) user_ok plain small drive.well_formed none free other name m ok) refl

      knows_made : KnowsFile d user x.name v (with_entry v (first_free v.entries) (making.after d v.entries v.reserved user x (x.ex % 32) user_ok plain small drive.well_formed none free)) (made_extent x (x.ex % 32))
      unfolding open_file_record file_record with_entry
      knows_made = record {
        name_is = rw (making.made_name x (x.ex % 32)) (same_name-refl x.name);
        file = λ m. rw (making.make_file d v.entries v.reserved user x (x.ex % 32) user_ok plain small drive.well_formed none free m) refl;
        sound = record {
          volume = record { blocks = drive.volume.blocks; space = drive.volume.space; maps = making.make_maps d v.entries v.reserved user x (x.ex % 32) user_ok plain small drive.well_formed none free drive.volume.maps };
          well_formed = making.make_well_formed d v.entries v.reserved user x (x.ex % 32) user_ok plain small drive.well_formed none free;
          kept = making.make_kept d v.entries v.reserved user x (x.ex % 32) user_ok plain small drive.well_formed none free;
          map = made_map x (x.ex % 32);
        };
      }

    pub makes_file : MakesFile d user v x
    makes_file =
        elim (cases_lt (first_free v.entries) (length v.entries)) [
          | inl free ↦ inr (making.after d v.entries v.reserved user x (x.ex % 32) user_ok plain small drive.well_formed none free, made_extent x (x.ex % 32), makes free, record { within = free; unused = making.free_user d v.entries v.reserved user x (x.ex % 32) user_ok plain small drive.well_formed none free }, making.made_number x (x.ex % 32) small, knows_made free, stays free)
          | inr full ↦ inl (no_room full, record { used = all_used v.entries full })
        ]
