-- A record that is put behind an extent at the end of its file: the extent is closed, and the next one opened or made.
use Rattle.std.proofs.Common.{◌≡◌, ◌≢◌, ◌⊎◌, ℕ, ◌+◌, ◌<◌, ◌≤◌, true, false, List, Some, None, length, set, sym, refl, ap, ◌∙◌, inl, inr, arith}
use Rattle.std.proofs.lemmas.List.{length-replicate}
use Rattle.std.proofs.lemmas.Bool.{false≢true, ne_eqb, cases_eq, cases_lt, lt-ltb, le-ltb, false_from_ne_true}
use Rattle.cpm_geom.specs.declared.dpb.Dpb.{Dpb}
use Rattle.cpm_volume.specs.declared.extent.Extent.{Extent}
use Rattle.cpm_volume.specs.declared.extent.Entry.{Entry}
use Rattle.cpm_volume.specs.declared.answer.Answer.TheVariants.{NoRecord as no_record}
use Rattle.cpm_volume.specs.Reserved.{is_reserved}
use Rattle.cpm_volume.specs.Files.{deleted, extent_number, group_of, has_wildcard, entry_at, is_of, first_of, first_free, block_number, IsFormat, IsWellFormed, IsSound, Volume}
use Rattle.cpm_volume.specs.Names.{is_named}
use Rattle.cpm_volume.specs.Operations.{VolumeOutcome, ends, with_entry, closed, closed_entry, close_extent, opened_extent, open_extent, made_extent, make_extent, made_in, opened_or_made, have_extent, closed_in, cross, next_target, next_place, put_record, write_in, write_next_on_volume}
use Rattle.cpm_volume.proofs.Entries.{entry_at-set_same, entry_at-set_other, in_use_within, is_of_parts, is_of_from, first_of_passes}
use Rattle.cpm_volume.proofs.NameLemmas.{first_match_plain, same_name-refl}
use Rattle.cpm_volume.proofs.Closing as closing
use Rattle.cpm_volume.proofs.Closing.{closed_user, closed_name, closed_blocks, closed_map, closed_newer, after as entries_closed}
use Rattle.cpm_volume.proofs.Opening as opening
use Rattle.cpm_volume.proofs.Making.{made_number, made_name, made_blocks}
use Rattle.cpm_image_files.specs.ImageFiles.{IsBlockOf}
use Rattle.cpm_image_files.specs.Appending.{unused, records_in_entry, IsAtEnd, IsOpenBlockOf, KeepsEntries, KeepsToBlocks}
use Rattle.cpm_image_files.proofs.Counting.{unused-same, unused-taken, unused-none, free_user}
use Rattle.cpm_image_files.proofs.Numbers.{next_follows, next_is_first, group_grows}
use Rattle.cpm_image_files.proofs.EndLemmas.{named_of, named_parts, named_from, count_past, keeps_entries, names_after, last_after, keeps-trans}
use Rattle.cpm_image_files.proofs.PutLemmas.{IsReady}

-- the extent that was moved to: the record is put there, at the end of the file
pub record MovesToEnd (d : Dpb) (user : ℕ) (name : List ℕ) (v : Volume) (x : Extent) (bytes : List ℕ) (v' : Volume) (x' : Extent) : Type 0 where
  pub answer : write_next_on_volume d v user x 128 bytes ≡ put_record d false v' x' 0 (0 + 1) bytes
  pub ready : IsReady d v' x'
  pub at_end : IsAtEnd d user name v' x' 0
  pub reserved : v'.reserved ≡ v.reserved
  pub others : KeepsEntries user name v.entries v'.entries
  pub own : KeepsToBlocks d user name v x v' x'

number_newer : (e : Entry) (x : Extent) → extent_number e.extent ≤ extent_number x → extent_number (closed_entry e x).extent ≡ extent_number x
unfolding extent_number
number_newer e x h = ap (λ (f : Entry). extent_number f.extent) (closed_newer e x h)

module _ (d : Dpb) (user : ℕ) (name : List ℕ) (v : Volume) (x : Extent) (current : ℕ) (user_ok : user ≢ deleted) (sound : IsSound d v user x) (end : IsAtEnd d user name v x current) where
  pub plain_name : has_wildcard name ≡ false
  plain_name = ap has_wildcard (sym end.name_is) ∙ sound.kept.plain

  pub own_named : is_named user name (entry_at v.entries sound.kept.index) ≡ true
  own_named = named_of d user name (group_of d (extent_number x)) (entry_at v.entries sound.kept.index) plain_name (ap (λ (n : List ℕ). is_of d user n (group_of d (extent_number x)) (entry_at v.entries sound.kept.index)) (sym end.name_is) ∙ sound.kept.owner)

  own_user : (entry_at v.entries sound.kept.index).user ≡ user
  own_user = (is_of_parts d user x.name (group_of d (extent_number x)) (entry_at v.entries sound.kept.index) sound.kept.owner).0

  pub own_within : sound.kept.index < length v.entries
  own_within = in_use_within v.entries sound.kept.index (λ e. user_ok (sym own_user ∙ e))

  -- ---- the extent is closed
  unfoldable pub now : Entry
  now = closed_entry (entry_at v.entries sound.kept.index) x

  now_number : extent_number now.extent ≡ extent_number x
  unfolding now
  now_number = number_newer (entry_at v.entries sound.kept.index) x (end.last sound.kept.index own_named)

  pub now_name : now.extent.name ≡ name
  unfolding now
  now_name = closed_name (entry_at v.entries sound.kept.index) x ∙ end.names sound.kept.index own_named

  pub now_user : now.user ≡ user
  unfolding now
  now_user = closed_user (entry_at v.entries sound.kept.index) x ∙ own_user

  pub now_named : is_named user name now ≡ true
  now_named = named_from user name now plain_name now_user now_name

  now_blocks : (s : ℕ) → block_number now.extent s ≡ block_number x s
  unfolding now
  now_blocks s = closed_blocks (entry_at v.entries sound.kept.index) x s

  unfoldable pub entries_now : List Entry
  entries_now = set v.entries sound.kept.index now

  pub closes : close_extent d false v.entries user x ≡ closed sound.kept.index entries_now x
  unfolding entries_now now entries_closed
  closes = closing.answer_free d v.entries v.reserved user x user_ok sound.well_formed sound.kept

  pub sound_now : IsWellFormed d entries_now v.reserved
  unfolding entries_now now entries_closed
  sound_now = closing.well_formed_after d v.entries v.reserved user x user_ok sound.well_formed sound.kept

  pub at_now : entry_at entries_now sound.kept.index ≡ now
  unfolding entries_now
  at_now = entry_at-set_same v.entries sound.kept.index now own_within

  pub names_now : (j : ℕ) → is_named user name (entry_at entries_now j) ≡ true → (entry_at entries_now j).extent.name ≡ name
  unfolding entries_now
  names_now = names_after user name v.entries sound.kept.index now own_within now_named now_name end.names

  pub last_now : (j : ℕ) → is_named user name (entry_at entries_now j) ≡ true → extent_number (entry_at entries_now j).extent ≤ extent_number x
  unfolding entries_now
  last_now = last_after user name v.entries sound.kept.index now own_within now_named (extent_number x) (let e = now_number in omega arith) end.last

  pub keeps_now : KeepsEntries user name v.entries entries_now
  unfolding entries_now
  keeps_now = keeps_entries user name v.entries sound.kept.index now own_within now_named (λ _. own_named)

  -- a block of the open file is then one of an entry
  other_now : (j : ℕ) → j ≢ sound.kept.index → entry_at entries_now j ≡ entry_at v.entries j
  unfolding entries_now
  other_now j h = entry_at-set_other v.entries sound.kept.index j now h

  own_block : (b s : ℕ) → b ≢ 0 → block_number x s ≡ b → IsBlockOf entries_now user name b
  own_block b s some is =
      (sound.kept.index, s, some, ap (is_named user name) at_now ∙ now_named, ap (λ (e : Entry). block_number e.extent s) at_now ∙ (now_blocks s ∙ is))

  pub block_now : (b : ℕ) → IsOpenBlockOf v.entries user name x b → IsBlockOf entries_now user name b
  block_now b own =
      elim own [
        | inl map ↦ own_block b map.0 map.1 map.2
        | inr listed ↦ elim (cases_eq listed.0 sound.kept.index) [
          | inl same ↦
              let stored : block_number (entry_at v.entries sound.kept.index).extent listed.1 ≡ b = ap (λ i. block_number (entry_at v.entries i).extent listed.1) (sym same) ∙ listed.4 in
              own_block b listed.1 listed.2 (sound.kept.agrees listed.1 (λ z. listed.2 (sym stored ∙ z)) ∙ stored)
          | inr other ↦
              let stays = other_now listed.0 other in
              (listed.0, listed.1, listed.2, ap (is_named user name) stays ∙ listed.3, ap (λ (e : Entry). block_number e.extent listed.1) stays ∙ listed.4)
        ]
      ]

  pub unused_now : unused entries_now ≡ unused v.entries
  unfolding entries_now now
  unused_now = unused-same v.entries sound.kept.index (closed_entry (entry_at v.entries sound.kept.index) x) own_within (closed_user _ x)

  -- ---- the next record is behind the extent
  module _ (bytes : List ℕ) (format : IsFormat d) (full : current ≡ 128) (more : extent_number x < 511) where
    zero_reserved : is_reserved v.reserved 0 ≡ true
    zero_reserved = sound.well_formed.directory 0 (let h = format.has_directory in omega arith)

    not_last : extent_number x ≢ 511
    not_last e = absurd (omega arith)

    -- ---- the next extent is in the entry
    module _ (same : group_of d (extent_number x + 1) ≡ group_of d (extent_number x)) where
      next_extent : Extent
      next_extent = opened_extent (entry_at entries_now sound.kept.index).extent (extent_number x + 1)

      next_volume : Volume
      next_volume = with_entry v sound.kept.index entries_now

      next_owner : is_of d user x.name (group_of d (extent_number x + 1)) (entry_at entries_now sound.kept.index) ≡ true
      next_owner =
          rw at_now (is_of_from d user x.name (group_of d (extent_number x + 1)) now now_user (rw (now_name, end.name_is) (same_name-refl name)) (ap (group_of d) now_number ∙ sym same))

      opens : open_extent d entries_now user x.name (extent_number x + 1) ≡ Some next_extent
      unfolding next_extent
      opens =
          opening.open_answer d entries_now v.reserved user x.name (extent_number x + 1) sound.kept.index user_ok sound.kept.plain (omega arith) sound_now next_owner

      next_number : extent_number next_extent ≡ extent_number x + 1
      unfolding next_extent
      next_number = opening.opened_number (entry_at entries_now sound.kept.index).extent (extent_number x + 1) (omega arith)

      next_blocks : (s : ℕ) → block_number next_extent s ≡ block_number x s
      unfolding next_extent
      next_blocks s =
          opening.opened_blocks (entry_at entries_now sound.kept.index).extent (extent_number x + 1) s ∙ (ap (λ (e : Entry). block_number e.extent s) at_now ∙ now_blocks s)

      next_map : length next_extent.blocks ≡ 16
      unfolding next_extent now
      next_map =
          ap length (opening.opened_map (entry_at entries_now sound.kept.index).extent (extent_number x + 1) ∙ (ap (λ (e : Entry). e.extent.blocks) at_now ∙ closed_map (entry_at v.entries sound.kept.index) x)) ∙ sound.map

      next_named : next_extent.name ≡ name
      unfolding next_extent opened_extent
      next_named = ap (λ (e : Entry). e.extent.name) at_now ∙ now_name

      next_count : next_extent.record_count ≡ 0
      unfolding next_extent
      next_count =
          let low = ap (λ (e : Entry). extent_number e.extent) at_now ∙ now_number in
          opening.opened_count (entry_at entries_now sound.kept.index).extent (extent_number x + 1) ∙ count_past (extent_number x + 1) (extent_number (entry_at entries_now sound.kept.index).extent) (entry_at entries_now sound.kept.index).extent.record_count 0 (omega arith)

      next_records : records_in_entry d next_extent 0 ≡ records_in_entry d x current
      next_records = let follows = next_follows d x same in rw next_number (omega arith)

      next_at_end : IsAtEnd d user name next_volume next_extent 0
      unfolding next_volume with_entry
      next_at_end = record {
        name_is = next_named;
        names = names_now;
        last = λ j h. (let low = last_now j h in let number = next_number in omega arith);
        count = next_count;
        small = omega arith;
        taken = λ s h z. end.taken s (rw next_records at h) (sym (next_blocks s) ∙ z);
        rest = λ s h. next_blocks s ∙ end.rest s (rw next_records at h);
      }

      next_ready : IsReady d next_volume next_extent
      unfolding next_volume with_entry
      next_ready = record {
        map = next_map;
        blocks = sound.volume.blocks;
        zero = zero_reserved;
        stored = λ s h. rw (next_blocks s) (sound.kept.stored s (λ z. h (next_blocks s ∙ z))).within;
      }

      next_answer : write_next_on_volume d v user x 128 bytes ≡ put_record d false next_volume next_extent 0 (0 + 1) bytes
      unfolding write_next_on_volume write_in next_place next_target cross closed_in have_extent opened_or_made next_volume with_entry
      next_answer = rw (ne_eqb (extent_number x) 511 not_last, closes, opens) refl

      next_keeps : KeepsToBlocks d user name v x next_volume next_extent
      unfolding next_volume with_entry
      next_keeps = record { records = λ n. inl refl; blocks = λ b own. inr (block_now b own) }

      pub moves_on : (v' : Volume) × (x' : Extent) × MovesToEnd d user name v x bytes v' x' × (unused v'.entries ≡ unused v.entries)
      unfolding next_volume with_entry
      moves_on = (
        next_volume,
        next_extent,
        record { answer = next_answer; ready = next_ready; at_end = next_at_end; reserved = refl; others = keeps_now; own = next_keeps },
        unused_now,
      )

    -- ---- the next extent is of another entry: none of the file's
    module _ (other : group_of d (extent_number x + 1) ≢ group_of d (extent_number x)) where
      none : (j : ℕ) → is_of d user x.name (group_of d (extent_number x + 1)) (entry_at entries_now j) ≡ false
      none j =
          false_from_ne_true _ (λ t.
          let named = named_of d user name (group_of d (extent_number x + 1)) (entry_at entries_now j) plain_name (ap (λ (n : List ℕ). is_of d user n (group_of d (extent_number x + 1)) (entry_at entries_now j)) (sym end.name_is) ∙ t) in
          let group = (is_of_parts d user x.name (group_of d (extent_number x + 1)) (entry_at entries_now j) t).2 in
          let low = group_grows d _ _ (last_now j named) in
          let high = group_grows d (extent_number x) (extent_number x + 1) (omega arith) in
          other (omega arith))

      past : length entries_now ≤ first_of d entries_now user x.name (group_of d (extent_number x + 1))
      past =
          elim (cases_lt (first_of d entries_now user x.name (group_of d (extent_number x + 1))) (length entries_now)) [
            | inl lt ↦ absurd (false≢true (sym (none _) ∙ first_of_passes d entries_now user x.name (group_of d (extent_number x + 1)) lt))
            | inr ge ↦ ge
          ]

      opens_none : open_extent d entries_now user x.name (extent_number x + 1) ≡ None
      unfolding open_extent
      opens_none =
          rw (first_match_plain d entries_now user x.name (group_of d (extent_number x + 1)) sound.kept.plain, le-ltb _ _ past) refl

      module _ (free : first_free entries_now < length entries_now) where
        new_entry : Entry
        new_entry = record { user = user; extent = made_extent x (extent_number x + 1) }

        new_entries : List Entry
        new_entries = set entries_now (first_free entries_now) new_entry

        new_volume : Volume
        new_volume = with_entry (with_entry v sound.kept.index entries_now) (first_free entries_now) new_entries

        makes : make_extent entries_now user x (extent_number x + 1) ≡ Some (new_entries, made_extent x (extent_number x + 1))
        unfolding make_extent new_entries new_entry
        makes = rw (lt-ltb _ _ free) refl

        new_number : extent_number (made_extent x (extent_number x + 1)) ≡ extent_number x + 1
        new_number = made_number x (extent_number x + 1) (omega arith)

        new_name : new_entry.extent.name ≡ name
        unfolding new_entry
        new_name = made_name x (extent_number x + 1) ∙ end.name_is

        new_named : is_named user name new_entry ≡ true
        unfolding new_entry
        new_named = named_from user name (record { user = user; extent = made_extent x (extent_number x + 1) }) plain_name refl (made_name x (extent_number x + 1) ∙ end.name_is)

        new_last : (j : ℕ) → is_named user name (entry_at new_entries j) ≡ true → extent_number (entry_at new_entries j).extent ≤ extent_number x + 1
        unfolding new_entries new_entry
        new_last =
            last_after user name entries_now (first_free entries_now) (record { user = user; extent = made_extent x (extent_number x + 1) }) free new_named (extent_number x + 1) (let e = new_number in omega arith) (λ j h. let low = last_now j h in omega arith)

        new_names : (j : ℕ) → is_named user name (entry_at new_entries j) ≡ true → (entry_at new_entries j).extent.name ≡ name
        unfolding new_entries
        new_names = names_after user name entries_now (first_free entries_now) new_entry free new_named new_name names_now

        new_unused : unused new_entries + 1 ≡ unused v.entries
        unfolding new_entries new_entry
        new_unused = unused-taken entries_now (first_free entries_now) (record { user = user; extent = made_extent x (extent_number x + 1) }) free (free_user entries_now free) user_ok ∙ unused_now

        new_keeps : KeepsEntries user name v.entries new_entries
        unfolding new_entries
        new_keeps = keeps-trans user name v.entries entries_now (set entries_now (first_free entries_now) new_entry) keeps_now (keeps_entries user name entries_now (first_free entries_now) new_entry free new_named (λ used. absurd (used.used (free_user entries_now free))))

        -- the entry that is written was not in use
        new_block : (b : ℕ) → IsBlockOf entries_now user name b → IsBlockOf new_entries user name b
        unfolding new_entries
        new_block b listed =
            let used = (named_parts user name (entry_at entries_now listed.0) plain_name listed.3).0 in
            let apart : listed.0 ≢ first_free entries_now = λ same. user_ok (sym used ∙ (ap (λ i. (entry_at entries_now i).user) same ∙ free_user entries_now free)) in
            let stays = entry_at-set_other entries_now (first_free entries_now) listed.0 new_entry apart in
            (listed.0, listed.1, listed.2, ap (is_named user name) stays ∙ listed.3, ap (λ (e : Entry). block_number e.extent listed.1) stays ∙ listed.4)

        new_own : KeepsToBlocks d user name v x new_volume (made_extent x (extent_number x + 1))
        unfolding new_volume with_entry
        new_own = record { records = λ n. inl refl; blocks = λ b own. inr (new_block b (block_now b own)) }

        new_records : records_in_entry d (made_extent x (extent_number x + 1)) 0 ≡ 0
        new_records = let first = next_is_first d x other in rw new_number (omega arith)

        new_count : (made_extent x (extent_number x + 1)).record_count ≡ 0
        unfolding made_extent
        new_count = refl

        new_at_end : IsAtEnd d user name new_volume (made_extent x (extent_number x + 1)) 0
        unfolding new_volume with_entry
        new_at_end = record {
          name_is = made_name x (extent_number x + 1) ∙ end.name_is;
          names = new_names;
          last = rw new_number new_last;
          count = new_count;
          small = omega arith;
          taken = λ s h. absurd (let low = rw new_records at h in omega arith);
          rest = λ s h. made_blocks x (extent_number x + 1) s;
        }

        new_ready : IsReady d new_volume (made_extent x (extent_number x + 1))
        unfolding new_volume with_entry made_extent
        new_ready = record {
          map = length-replicate {A = ℕ} 16 0;
          blocks = sound.volume.blocks;
          zero = zero_reserved;
          stored = λ s h. absurd (h (made_blocks x (extent_number x + 1) s));
        }

        new_answer : write_next_on_volume d v user x 128 bytes ≡ put_record d false new_volume (made_extent x (extent_number x + 1)) 0 (0 + 1) bytes
        unfolding write_next_on_volume write_in next_place next_target cross closed_in have_extent opened_or_made made_in new_volume with_entry
        new_answer = rw (ne_eqb (extent_number x) 511 not_last, closes, opens_none, makes) refl

        moves_new : (v' : Volume) × (x' : Extent) × MovesToEnd d user name v x bytes v' x' × (unused v'.entries + 1 ≡ unused v.entries)
        unfolding new_volume with_entry
        moves_new = (
          new_volume,
          made_extent x (extent_number x + 1),
          record { answer = new_answer; ready = new_ready; at_end = new_at_end; reserved = refl; others = new_keeps; own = new_own },
          new_unused,
        )

      stops_answer : length entries_now ≤ first_free entries_now → write_next_on_volume d v user x 128 bytes ≡ ends no_record (with_entry v sound.kept.index entries_now) x 128
      unfolding write_next_on_volume write_in next_place next_target cross closed_in have_extent opened_or_made made_in make_extent with_entry
      stops_answer full =
          rw (ne_eqb (extent_number x) 511 not_last, closes, opens_none, le-ltb (first_free entries_now) (length entries_now) full) refl

      pub moves_or_stops : ((v' : Volume) × (x' : Extent) × MovesToEnd d user name v x bytes v' x' × (unused v'.entries + 1 ≡ unused v.entries)) ⊎ (((write_next_on_volume d v user x 128 bytes).answer ≡ no_record) × (unused v.entries ≡ 0))
      unfolding ends
      moves_or_stops =
          elim (cases_lt (first_free entries_now) (length entries_now)) [
            | inl free ↦ inl (moves_new free)
            | inr full ↦ inr (ap (λ (o : VolumeOutcome). o.answer) (stops_answer full), sym unused_now ∙ unused-none entries_now full)
          ]
