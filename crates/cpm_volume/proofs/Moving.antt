-- A call that goes on in another extent.
use Rattle.std.proofs.Common.{◌≡◌, ◌≢◌, ◌⊎◌, ℕ, ◌/◌, ◌<◌, ◌≤◌, Bool, true, false, eqb, List, Some, None, length, sym, refl, ◌∙◌, inl, inr, arith}
use Rattle.std.proofs.lemmas.List.{get_or_past, length-replicate}
use Rattle.std.proofs.lemmas.List.Sums.{fails_before_first}
use Rattle.std.proofs.lemmas.Bool.{false≢true, eq-eqb, cases_lt, le-ltb}
use Rattle.cpm_geom.specs.declared.dpb.Dpb.{Dpb}
use Rattle.cpm_volume.specs.declared.extent.Extent.{Extent}
use Rattle.cpm_volume.specs.declared.extent.Entry.{Entry}
use Rattle.cpm_volume.specs.Files.{extent_number, group_of, same_name, has_wildcard, deleted, no_entry, entry_at, InUse, is_of, first_of, first_free, file_block, open_file_block, record_in, file_record, open_file_record, Volume, IsSound}
use Rattle.cpm_volume.specs.Operations.{read_only, fault, with_entry, opened_extent, made_extent, open_extent, make_extent, Purpose, writing, Target, stopped, standing, made_in, opened_or_made, have_extent, closed_in, cross}
use Rattle.cpm_volume.specs.Laws.{OthersStay, FileStays, IsFull}
use Rattle.cpm_volume.proofs.Entries.{no_entry_is_of, is_of_parts, first_of_passes}
use Rattle.cpm_volume.proofs.NameLemmas.{first_match_plain, same_name-refl}
use Rattle.cpm_volume.proofs.Making.{none_block}
use Rattle.cpm_volume.proofs.Closing as closing
use Rattle.cpm_volume.proofs.Opening as opening
use Rattle.cpm_volume.proofs.Making as making

-- the file goes on in another extent, and no file changed
pub record MovesOn (d : Dpb) (user : ℕ) (v : Volume) (x : Extent) (number : ℕ) (v' : Volume) (x' : Extent) : Type 0 where
  pub number_is : extent_number x' ≡ number
  pub name_is : same_name x'.name x.name ≡ true
  pub records : v'.records ≡ v.records
  pub reserved : v'.reserved ≡ v.reserved
  pub file : (n : ℕ) → open_file_block d v.entries user x n ≢ 0 → open_file_block d v'.entries user x' n ≡ open_file_block d v.entries user x n
  pub exact : d.extent_mask ≡ 0 → (n : ℕ) → open_file_block d v'.entries user x' n ≡ open_file_block d v.entries user x n
  pub others : (other : ℕ) (name : List ℕ) (n : ℕ) → other ≢ deleted → (other ≡ user → same_name name x.name ≡ true → ⊥) → file_block d v'.entries other name n ≡ file_block d v.entries other name n
  pub sound : IsSound d v' user x'

-- there is no extent of the number, and no entry for it
pub record LacksExtent (d : Dpb) (user : ℕ) (v : Volume) (x : Extent) (number : ℕ) (v' : Volume) : Type 0 where
  pub sound : IsSound d v' user x
  pub reserved : v'.reserved ≡ v.reserved
  pub others : OthersStay d user x.name v v'
  pub file : FileStays d user v x v' x
  pub none : (n : ℕ) → n / 128 ≡ number → open_file_record d v.entries v.records user x n ≡ None

-- two extents in one group are one, where an entry has one extent
alone_in_group : (d : Dpb) (a b : ℕ) → d.extent_mask ≡ 0 → group_of d a ≡ group_of d b → a ≡ b
unfolding group_of
alone_in_group d a b e h = let h' = rw e at h in omega arith

-- no move at all
pub stays_there : (d : Dpb) (user : ℕ) (v : Volume) (x : Extent) (number : ℕ) → IsSound d v user x → extent_number x ≡ number → MovesOn d user v x number v x
stays_there d user v x number sound e = record {
  number_is = e;
  name_is = same_name-refl x.name;
  records = refl;
  reserved = refl;
  file = λ n h. refl;
  exact = λ e n. refl;
  others = λ other name n ok apart. refl;
  sound = sound;
}

pub no_file : (d : Dpb) (v : Volume) (user : ℕ) (x : Extent) (n : ℕ) → open_file_block d v.entries user x n ≡ 0 → open_file_record d v.entries v.records user x n ≡ None
unfolding open_file_record record_in
no_file d v user x n h = rw h refl

-- where the first is past the end there is none
pub none_of : (d : Dpb) (es : List Entry) (user : ℕ) (name : List ℕ) (group : ℕ) → user ≢ deleted → length es ≤ first_of d es user name group → (j : ℕ) → is_of d user name group (entry_at es j) ≡ false
unfolding first_of entry_at
none_of d es user name group ok h j =
    elim (cases_lt j (length es)) [
      | inl lt ↦ fails_before_first (is_of d user name group) es j no_entry (omega arith)
      | inr ge ↦ rw (get_or_past es j no_entry ge) (no_entry_is_of d user name group ok)
    ]

open_none : (d : Dpb) (es : List Entry) (user : ℕ) (name : List ℕ) (number : ℕ) → has_wildcard name ≡ false → length es ≤ first_of d es user name (group_of d number) → open_extent d es user name number ≡ None
unfolding open_extent
open_none d es user name number plain h =
    rw (first_match_plain d es user name (group_of d number) plain, le-ltb _ _ h) refl

make_none : (es : List Entry) (user : ℕ) (x : Extent) (number : ℕ) → length es ≤ first_free es → make_extent es user x number ≡ None
unfolding make_extent
make_none es user x number h = rw (le-ltb _ _ h) refl

made_map : (x : Extent) (number : ℕ) → length (made_extent x number).blocks ≡ 16
unfolding made_extent
made_map x number = length-replicate {A = ℕ} 16 0

-- no entry is free
pub all_used : (es : List Entry) → length es ≤ first_free es → (i : ℕ) → i < length es → InUse es i
unfolding first_free entry_at
all_used es full i lt =
    record { used = λ e. false≢true (sym (fails_before_first (λ (e : Entry). eqb e.user deleted) es i no_entry (omega arith)) ∙ eq-eqb _ _ e) }

-- ---- after the close, another extent of the same file
module _ (d : Dpb) (user : ℕ) (v : Volume) (x : Extent) (user_ok : user ≢ deleted) (sound : IsSound d v user x) where
  unfoldable pub closed_volume : Volume
  closed_volume = with_entry v sound.kept.index (closing.after d v.entries v.reserved user x user_ok sound.well_formed sound.kept)

  maps_closed : (i : ℕ) → InUse (closing.after d v.entries v.reserved user x user_ok sound.well_formed sound.kept) i → length (entry_at (closing.after d v.entries v.reserved user x user_ok sound.well_formed sound.kept) i).extent.blocks ≡ 16
  maps_closed = closing.maps_after d v.entries v.reserved user x user_ok sound.well_formed sound.kept sound.map sound.volume.maps

  pub sound_closed : IsSound d closed_volume user x
  unfolding closed_volume with_entry
  sound_closed = record {
    volume = record { blocks = sound.volume.blocks; space = sound.volume.space; maps = maps_closed };
    well_formed = closing.well_formed_after d v.entries v.reserved user x user_ok sound.well_formed sound.kept;
    kept = closing.kept_after d v.entries v.reserved user x user_ok sound.well_formed sound.kept;
    map = sound.map;
  }

  pub same_file : (n : ℕ) → file_block d closed_volume.entries user x.name n ≡ open_file_block d v.entries user x n
  unfolding closed_volume with_entry
  same_file = closing.same_file d v.entries v.reserved user x user_ok sound.well_formed sound.kept

  same_open : (n : ℕ) → open_file_block d closed_volume.entries user x n ≡ open_file_block d v.entries user x n
  unfolding closed_volume with_entry
  same_open = closing.same_open d v.entries v.reserved user x user_ok sound.well_formed sound.kept

  pub same_others : (other : ℕ) (name : List ℕ) (n : ℕ) → (other ≡ user → same_name name x.name ≡ true → ⊥) → file_block d closed_volume.entries other name n ≡ file_block d v.entries other name n
  unfolding closed_volume with_entry
  same_others other name n apart = closing.others d v.entries v.reserved user x user_ok sound.well_formed sound.kept other name apart n

  pub same_records : closed_volume.records ≡ v.records
  unfolding closed_volume with_entry
  same_records = refl

  pub same_reserved : closed_volume.reserved ≡ v.reserved
  unfolding closed_volume with_entry
  same_reserved = refl

  pub same_length : length closed_volume.entries ≡ length v.entries
  unfolding closed_volume with_entry
  same_length = closing.same_length d v.entries v.reserved user x user_ok sound.well_formed sound.kept

  used_before : (i : ℕ) → InUse closed_volume.entries i → InUse v.entries i
  unfolding closed_volume with_entry
  used_before i h = closing.used_before d v.entries v.reserved user x user_ok sound.well_formed sound.kept i h

  pub plain : has_wildcard x.name ≡ false
  plain = sound.kept.plain

  pub others_closed : OthersStay d user x.name v closed_volume
  unfolding file_record
  others_closed = record { stay = λ other name m ok apart. rw (same_others other name m apart, same_records) refl }

  pub file_closed : FileStays d user v x closed_volume x
  unfolding open_file_record
  file_closed = record { stay = λ m. rw (same_open m, same_records) refl }

  -- what the close leads to
  pub closes : (purpose : Purpose) (protected : Bool) (t : Target) → (cross d purpose protected v user x t ≡ have_extent d purpose closed_volume user x t) ⊎ ((protected ≡ true) × (cross d purpose protected v user x t ≡ stopped (fault read_only) v x))
  unfolding cross closed_in closed_volume
  closes purpose protected t =
      elim (closing.answer d v.entries v.reserved user x user_ok sound.well_formed sound.kept protected) [
        | inl a ↦ inl (rw a.0 refl)
        | inr p ↦ inr (p.0, rw p.1 refl)
      ]

  pub closes_free : (purpose : Purpose) (t : Target) → cross d purpose false v user x t ≡ have_extent d purpose closed_volume user x t
  unfolding cross closed_in closed_volume
  closes_free purpose t = rw (closing.answer_free d v.entries v.reserved user x user_ok sound.well_formed sound.kept) refl

  module _ (t : Target) (small : t.number < 512) where
    -- ---- without an entry of the group
    module _ (past : length closed_volume.entries ≤ first_of d closed_volume.entries user x.name (group_of d t.number)) where
      none : (j : ℕ) → is_of d user x.name (group_of d t.number) (entry_at closed_volume.entries j) ≡ false
      none = none_of d closed_volume.entries user x.name (group_of d t.number) user_ok past

      pub no_record_there : (n : ℕ) → n / 128 ≡ t.number → open_file_record d v.entries v.records user x n ≡ None
      no_record_there n h =
          no_file d v user x n (sym (same_file n) ∙ none_block d closed_volume.entries user x.name n (rw h none))

      pub lacks : LacksExtent d user v x t.number closed_volume
      lacks = record { sound = sound_closed; reserved = same_reserved; others = others_closed; file = file_closed; none = no_record_there }

    -- ---- with one
    module _ (there : first_of d closed_volume.entries user x.name (group_of d t.number) < length closed_volume.entries) where
      index : ℕ
      index = first_of d closed_volume.entries user x.name (group_of d t.number)

      matched : is_of d user x.name (group_of d t.number) (entry_at closed_volume.entries index) ≡ true
      unfolding index
      matched = first_of_passes d closed_volume.entries user x.name (group_of d t.number) there

      next : Extent
      next = opened_extent (entry_at closed_volume.entries index).extent t.number

      opens : open_extent d closed_volume.entries user x.name t.number ≡ Some next
      unfolding next
      opens = opening.open_answer d closed_volume.entries closed_volume.reserved user x.name t.number index user_ok plain small sound_closed.well_formed matched

      -- where extents share no entry it is the extent's own
      own_extent : d.extent_mask ≡ 0 → t.number ≤ extent_number (entry_at closed_volume.entries index).extent
      own_extent e =
          let same = alone_in_group d _ _ e (is_of_parts d user x.name (group_of d t.number) (entry_at closed_volume.entries index) matched).2 in
          omega arith

      opened_moves : MovesOn d user v x t.number closed_volume next
      unfolding next
      opened_moves = record {
        number_is = opening.opened_number (entry_at closed_volume.entries index).extent t.number small;
        name_is = opening.opened_name_same d closed_volume.entries closed_volume.reserved user x.name t.number index user_ok plain small sound_closed.well_formed matched;
        records = same_records;
        reserved = same_reserved;
        file = λ n h. opening.open_more d closed_volume.entries closed_volume.reserved user x.name t.number index user_ok plain small sound_closed.well_formed matched n (λ z. h (sym (same_file n) ∙ z)) ∙ same_file n;
        exact = λ e n. opening.open_same d closed_volume.entries closed_volume.reserved user x.name t.number index user_ok plain small sound_closed.well_formed matched (own_extent e) n ∙ same_file n;
        others = λ other name n ok apart. same_others other name n apart;
        sound = record {
          volume = sound_closed.volume;
          well_formed = sound_closed.well_formed;
          kept = opening.open_kept d closed_volume.entries closed_volume.reserved user x.name t.number index user_ok plain small sound_closed.well_formed matched;
          map = rw (opening.opened_map (entry_at closed_volume.entries index).extent t.number) (sound_closed.volume.maps index (opening.there_used d closed_volume.entries closed_volume.reserved user x.name t.number index user_ok plain small sound_closed.well_formed matched));
        };
      }

      opened_answer : have_extent d writing closed_volume user x t ≡ standing closed_volume next t.current
      unfolding have_extent opened_or_made
      opened_answer = rw opens refl

    -- ---- without one, at a free entry
    module _ (past : length closed_volume.entries ≤ first_of d closed_volume.entries user x.name (group_of d t.number)) (free : first_free closed_volume.entries < length closed_volume.entries) where
      last_volume : Volume
      last_volume = with_entry closed_volume (first_free closed_volume.entries) (making.after d closed_volume.entries closed_volume.reserved user x t.number user_ok plain small sound_closed.well_formed (none past) free)

      made_moves : MovesOn d user v x t.number last_volume (made_extent x t.number)
      unfolding last_volume with_entry
      made_moves = record {
        number_is = making.made_number x t.number small;
        name_is = rw (making.made_name x t.number) (same_name-refl x.name);
        records = same_records;
        reserved = same_reserved;
        file = λ n h. making.make_file d closed_volume.entries closed_volume.reserved user x t.number user_ok plain small sound_closed.well_formed (none past) free n ∙ same_file n;
        exact = λ e n. making.make_file d closed_volume.entries closed_volume.reserved user x t.number user_ok plain small sound_closed.well_formed (none past) free n ∙ same_file n;
        others = λ other name n ok apart. making.make_files d closed_volume.entries closed_volume.reserved user x t.number user_ok plain small sound_closed.well_formed (none past) free other name n ok ∙ same_others other name n apart;
        sound = record {
          volume = record { blocks = sound_closed.volume.blocks; space = sound_closed.volume.space; maps = making.make_maps d closed_volume.entries closed_volume.reserved user x t.number user_ok plain small sound_closed.well_formed (none past) free sound_closed.volume.maps };
          well_formed = making.make_well_formed d closed_volume.entries closed_volume.reserved user x t.number user_ok plain small sound_closed.well_formed (none past) free;
          kept = making.make_kept d closed_volume.entries closed_volume.reserved user x t.number user_ok plain small sound_closed.well_formed (none past) free;
          map = made_map x t.number;
        };
      }

      made_answer : have_extent d writing closed_volume user x t ≡ standing last_volume (made_extent x t.number) t.current
      unfolding have_extent opened_or_made made_in last_volume
      made_answer =
          rw (open_none d closed_volume.entries user x.name t.number plain past, making.make_answer d closed_volume.entries closed_volume.reserved user x t.number user_ok plain small sound_closed.well_formed (none past) free) refl

    move_full : length closed_volume.entries ≤ first_of d closed_volume.entries user x.name (group_of d t.number) → length closed_volume.entries ≤ first_free closed_volume.entries → have_extent d writing closed_volume user x t ≡ stopped t.missing closed_volume x
    unfolding have_extent opened_or_made made_in
    move_full past full =
        rw (open_none d closed_volume.entries user x.name t.number plain past, make_none closed_volume.entries user x t.number full) refl

    was_full : length closed_volume.entries ≤ first_free closed_volume.entries → IsFull v.entries
    was_full full = record { used = λ i lt. used_before i (all_used closed_volume.entries full i (rw same_length lt)) }

    -- a write goes on in the extent of the number, or the directory is full
    pub goes_on : ((v' : Volume) × (x' : Extent) × (have_extent d writing closed_volume user x t ≡ standing v' x' t.current) × MovesOn d user v x t.number v' x') ⊎ ((have_extent d writing closed_volume user x t ≡ stopped t.missing closed_volume x) × LacksExtent d user v x t.number closed_volume × IsFull v.entries)
    goes_on =
        elim (cases_lt (first_of d closed_volume.entries user x.name (group_of d t.number)) (length closed_volume.entries)) [
          | inl there ↦ inl (closed_volume, next there, opened_answer there, opened_moves there)
          | inr past ↦ elim (cases_lt (first_free closed_volume.entries) (length closed_volume.entries)) [
            | inl free ↦ inl (last_volume past free, made_extent x t.number, made_answer past free, made_moves past free)
            | inr full ↦ inr (move_full past full, lacks past, was_full full)
          ]
        ]

pub number_below : (x : Extent) → extent_number x < 512
unfolding extent_number
number_below x = omega arith
