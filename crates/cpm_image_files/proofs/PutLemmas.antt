-- A record that is put at the end of a file, within its extent.
use Rattle.std.proofs.Common.{◌≡◌, ◌≢◌, ◌⊎◌, ℕ, max, ◌+◌, ◌*◌, ◌/◌, ◌%◌, ◌<◌, ◌≤◌, true, false, cond, eqb, List, [], ◌∷◌, ◌++◌, length, set, sym, refl, ap, ◌∙◌, inl, inr, arith}
use Rattle.std.proofs.lemmas.List.{get_or-set_same, get_or-set_other}
use Rattle.std.proofs.lemmas.Nat.{mod_below, div-mul-add}
use Rattle.std.proofs.lemmas.Bool.{false≢true, eq-eqb, ne_eqb, cases_eq, cases_lt, lt-ltb, le-ltb}
use Rattle.cpm_geom.specs.declared.dpb.Dpb.{Dpb}
use Rattle.cpm_volume.specs.declared.extent.Extent.{Extent}
use Rattle.cpm_volume.specs.declared.answer.Answer.TheVariants.{Done as done, NoBlock as no_block}
use Rattle.cpm_volume.specs.Reserved.{is_reserved, least_free}
use Rattle.cpm_volume.specs.Files.{extent_number, entry_place_of, map_place, block_number, IsFormat, Volume, record_put}
use Rattle.cpm_volume.specs.Operations.{VolumeOutcome, ends, with_block, block_to_write, counting, record_in_block, put_found, put_record, taken_records, taken_writes}
use Rattle.cpm_volume.proofs.Records.{place_back, place_below}
use Rattle.cpm_image_files.specs.Appending.{unreserved, records_in_entry, IsAtEnd, KeepsToBlocks}
use Rattle.cpm_image_files.proofs.Counting.{unreserved-none, unreserved-taken, least_is_free}
use Rattle.cpm_image_files.proofs.Numbers.{place_starts, apart_from, same_factor}

-- the record is put, and the entries are as they were
pub record PutsAtEnd (d : Dpb) (user : ℕ) (name : List ℕ) (v : Volume) (x : Extent) (current : ℕ) (o : VolumeOutcome) : Type 0 where
  pub answer : o.answer ≡ done
  pub at_end : IsAtEnd d user name o.volume o.extent o.current
  pub next : o.current ≡ current + 1
  pub entries : o.volume.entries ≡ v.entries
  pub own : KeepsToBlocks d user name v x o.volume o.extent
  pub blocks : unreserved o.volume.reserved + cond {A = ℕ} (eqb (current % (d.block_mask + 1)) 0) 1 0 ≡ unreserved v.reserved

-- no block is free for it
pub record LacksThere (d : Dpb) (v : Volume) (current : ℕ) (o : VolumeOutcome) : Type 0 where
  pub answer : o.answer ≡ no_block
  pub begins : current % (d.block_mask + 1) ≡ 0
  pub none : unreserved v.reserved ≡ 0

-- the numbers of the map are blocks of the drive, and block 0 is not free
pub record IsReady (d : Dpb) (v : Volume) (x : Extent) : Type 0 where
  pub map : length x.blocks ≡ 16
  pub blocks : length v.reserved ≡ d.last_block + 1
  pub zero : is_reserved v.reserved 0 ≡ true
  pub stored : (s : ℕ) → block_number x s ≢ 0 → block_number x s ≤ d.last_block

module _ (d : Dpb) (user : ℕ) (name : List ℕ) (v : Volume) (x : Extent) (current : ℕ) (bytes : List ℕ) (format : IsFormat d) (ready : IsReady d v x) (end : IsAtEnd d user name v x current) (small : current < 128) where
  starts : entry_place_of d x current * (d.block_mask + 1) + current % (d.block_mask + 1) ≡ records_in_entry d x current
  starts = place_starts d x current format

  below : current % (d.block_mask + 1) < d.block_mask + 1
  below = mod_below _ _ (omega arith)

  -- the place is one of the map's sixteen
  place_within : entry_place_of d x current < 16
  place_within =
      let here : (128 * extent_number x + current) % 128 ≡ current = omega arith in
      let same : entry_place_of d x current ≡ map_place d (128 * extent_number x + current) = ap (entry_place_of d x) (sym here) ∙ place_back d x (128 * extent_number x + current) (omega arith) in
      rw same (place_below d (128 * extent_number x + current) format)

  -- another place whose records begin at the new one is none
  other_start : (s : ℕ) → s ≢ entry_place_of d x current → s * (d.block_mask + 1) ≢ records_in_entry d x current
  other_start s other e =
      elim (cases_eq (current % (d.block_mask + 1)) 0) [
        | inl z ↦ other (same_factor s (entry_place_of d x current) (d.block_mask + 1) (omega arith) (let p = starts in omega arith))
        | inr some ↦ apart_from s (entry_place_of d x current) (current % (d.block_mask + 1)) (d.block_mask + 1) below some (let p = starts in omega arith)
      ]

  -- the extent once it counts the record, with a block at its place
  ends_after : (v' : Volume) (x' : Extent) → v'.entries ≡ v.entries → x'.name ≡ x.name → extent_number x' ≡ extent_number x → x'.record_count ≡ max x.record_count (current + 1) → block_number x' (entry_place_of d x current) ≢ 0 → ((s : ℕ) → s ≢ entry_place_of d x current → block_number x' s ≡ block_number x s) → IsAtEnd d user name v' x' (current + 1)
  ends_after v' x' entries named number count there others = record {
    name_is = named ∙ end.name_is;
    names = rw entries end.names;
    last = rw (entries, number) end.last;
    count = (let was = end.count in count ∙ omega arith);
    small = omega arith;
    taken = λ s h. elim (cases_eq s (entry_place_of d x current)) [
      | inl same ↦ rw same there
      | inr other ↦
          let not_there = other_start s other in
          let low = rw number at h in
          λ z. end.taken s (omega arith) (sym (others s other) ∙ z)
    ];
    rest = λ s h.
        let high = rw number at h in
        let p = starts in
        others s (λ same. (let both = ap (λ k. k * (d.block_mask + 1)) same in absurd (omega arith))) ∙ end.rest s (omega arith);
  }

  -- the record is in the block, and the others are as they were
  in_block : (b : ℕ) → record_in_block d b current / (d.block_mask + 1) ≡ b
  unfolding record_in_block
  in_block b = div-mul-add b (d.block_mask + 1) (current % (d.block_mask + 1)) below

  keeps_to : (v' : Volume) (x' : Extent) (b : ℕ) → v'.entries ≡ v.entries → v'.records ≡ set v.records (record_in_block d b current) bytes → block_number x' (entry_place_of d x current) ≢ 0 → block_number x' (entry_place_of d x current) ≡ b → ((s : ℕ) → block_number x s ≢ 0 → block_number x' s ≡ block_number x s) → KeepsToBlocks d user name v x v' x'
  keeps_to v' x' b entries records some there stays = record {
    records = λ n. elim (cases_eq n (record_in_block d b current)) [
      | inl at ↦
          let block : n / (d.block_mask + 1) ≡ b = ap (λ k. k / (d.block_mask + 1)) at ∙ in_block b in
          inr (inl (entry_place_of d x current, (λ z. some (there ∙ (sym block ∙ z))), there ∙ sym block))
      | inr other ↦ inl (rw records (get_or-set_other v.records (record_in_block d b current) n bytes [] other))
    ];
    blocks = λ k own. elim own [
      | inl map ↦ inl (map.0, map.1, stays map.0 (λ z. map.1 (sym map.2 ∙ z)) ∙ map.2)
      | inr listed ↦ inr (rw entries listed)
    ];
  }

  -- ---- a record that begins no block is in that of the record before it
  old_volume : Volume
  old_volume =
      record v { records = set v.records (record_in_block d (block_number x (entry_place_of d x current)) current) bytes; written = v.written ++ record_put (record_in_block d (block_number x (entry_place_of d x current)) current) bytes ∷ [] }

  old_answer : block_number x (entry_place_of d x current) ≢ 0 → put_record d false v x current (current + 1) bytes ≡ ends done old_volume (counting x current) (current + 1)
  unfolding put_record put_found block_to_write old_volume
  old_answer there = rw (le-ltb _ _ (ready.stored (entry_place_of d x current) there), ne_eqb _ _ there) refl

  old_ends : block_number x (entry_place_of d x current) ≢ 0 → IsAtEnd d user name old_volume (counting x current) (current + 1)
  unfolding old_volume counting block_number extent_number
  old_ends there = ends_after old_volume (counting x current) refl refl refl refl there (λ s other. refl)

  old_keeps : block_number x (entry_place_of d x current) ≢ 0 → KeepsToBlocks d user name v x old_volume (counting x current)
  unfolding old_volume counting block_number
  old_keeps there = keeps_to old_volume (counting x current) (block_number x (entry_place_of d x current)) refl refl there refl (λ s some. refl)

  puts_old : current % (d.block_mask + 1) ≢ 0 → PutsAtEnd d user name v x current (put_record d false v x current (current + 1) bytes)
  unfolding ends old_volume
  puts_old within =
      let there : block_number x (entry_place_of d x current) ≢ 0 = end.taken (entry_place_of d x current) (let p = starts in omega arith) in
      rw (old_answer there) (record {
        answer = refl;
        at_end = old_ends there;
        next = refl;
        entries = refl;
        own = old_keeps there;
        blocks = rw (ne_eqb _ _ within) (omega arith);
      })

  -- ---- a record that begins a block takes the least that is free
  none_there : current % (d.block_mask + 1) ≡ 0 → block_number x (entry_place_of d x current) ≡ 0
  none_there begins = end.rest (entry_place_of d x current) (let p = starts in omega arith)

  new_volume : Volume
  new_volume =
      record v { reserved = set v.reserved (least_free v.reserved) true; records = set v.records (record_in_block d (least_free v.reserved) current) bytes; written = (v.written ++ []) ++ record_put (record_in_block d (least_free v.reserved) current) bytes ∷ [] }

  new_extent : Extent
  new_extent = counting (with_block x (entry_place_of d x current) (least_free v.reserved)) current

  new_answer : block_number x (entry_place_of d x current) ≡ 0 → least_free v.reserved < length v.reserved → put_record d false v x current (current + 1) bytes ≡ ends done new_volume new_extent (current + 1)
  unfolding put_record put_found block_to_write taken_records taken_writes new_volume new_extent
  new_answer none free =
      let size = ready.blocks in
      rw (none, le-ltb d.last_block 0 (omega arith), lt-ltb (least_free v.reserved) (length v.reserved) free, lt-ltb (least_free v.reserved) (d.last_block + 1) (omega arith)) refl

  new_block_is : block_number new_extent (entry_place_of d x current) ≡ least_free v.reserved
  unfolding new_extent counting with_block block_number
  new_block_is = get_or-set_same x.blocks (entry_place_of d x current) (least_free v.reserved) 0 (rw ready.map place_within)

  new_there : least_free v.reserved < length v.reserved → block_number new_extent (entry_place_of d x current) ≢ 0
  new_there free z =
      let block : least_free v.reserved ≡ 0 = sym new_block_is ∙ z in
      false≢true (sym (least_is_free v.reserved free) ∙ rw block ready.zero)

  new_others : (s : ℕ) → s ≢ entry_place_of d x current → block_number new_extent s ≡ block_number x s
  unfolding new_extent counting with_block block_number
  new_others s other = get_or-set_other x.blocks (entry_place_of d x current) s (least_free v.reserved) 0 other

  new_ends : least_free v.reserved < length v.reserved → IsAtEnd d user name new_volume new_extent (current + 1)
  unfolding new_volume new_extent counting with_block extent_number
  new_ends free = ends_after new_volume new_extent refl refl refl refl (new_there free) new_others

  new_stays : current % (d.block_mask + 1) ≡ 0 → (s : ℕ) → block_number x s ≢ 0 → block_number new_extent s ≡ block_number x s
  new_stays begins s some = new_others s (λ same. some (ap (block_number x) same ∙ none_there begins))

  new_keeps : current % (d.block_mask + 1) ≡ 0 → least_free v.reserved < length v.reserved → KeepsToBlocks d user name v x new_volume new_extent
  unfolding new_volume
  new_keeps begins free = keeps_to new_volume new_extent (least_free v.reserved) refl refl (new_there free) new_block_is (new_stays begins)

  puts_new : current % (d.block_mask + 1) ≡ 0 → least_free v.reserved < length v.reserved → PutsAtEnd d user name v x current (put_record d false v x current (current + 1) bytes)
  unfolding ends new_volume
  puts_new begins free =
      rw (new_answer (none_there begins) free) (record {
        answer = refl;
        at_end = new_ends free;
        next = refl;
        entries = refl;
        own = new_keeps begins free;
        blocks = rw (eq-eqb _ _ begins) (unreserved-taken v.reserved free);
      })

  lacks_answer : block_number x (entry_place_of d x current) ≡ 0 → length v.reserved ≤ least_free v.reserved → put_record d false v x current (current + 1) bytes ≡ ends no_block v x current
  unfolding put_record put_found block_to_write
  lacks_answer none full =
      rw (none, le-ltb d.last_block 0 (omega arith), le-ltb (least_free v.reserved) (length v.reserved) full) refl

  lacks_there : current % (d.block_mask + 1) ≡ 0 → length v.reserved ≤ least_free v.reserved → LacksThere d v current (put_record d false v x current (current + 1) bytes)
  unfolding ends
  lacks_there begins full =
      rw (lacks_answer (none_there begins) full) (record { answer = refl; begins = begins; none = unreserved-none v.reserved full })

  pub puts_at_end : PutsAtEnd d user name v x current (put_record d false v x current (current + 1) bytes) ⊎ LacksThere d v current (put_record d false v x current (current + 1) bytes)
  puts_at_end =
      elim (cases_eq (current % (d.block_mask + 1)) 0) [
        | inr within ↦ inl (puts_old within)
        | inl begins ↦ elim (cases_lt (least_free v.reserved) (length v.reserved)) [
          | inl free ↦ inl (puts_new begins free)
          | inr full ↦ inr (lacks_there begins full)
        ]
      ]
