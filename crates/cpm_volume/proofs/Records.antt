-- The writing of a record in its extent, block and all.
use Rattle.std.proofs.Common.{◌≡◌, ◌≢◌, ◌⊎◌, ℕ, ◌/◌, ◌%◌, ◌*◌, ◌+◌, ◌<◌, ◌≤◌, Bool, true, false, not, List, [], ◌∷◌, ◌++◌, Some, length, set, replicate, sym, refl, ap, ◌∙◌, inl, inr, arith}
use Rattle.std.proofs.lemmas.List.{length-set, get_or-set_other, get_or_past}
use Rattle.std.proofs.lemmas.List.Sums.{fails_before_first}
use Rattle.std.proofs.lemmas.Nat.{mod_below, div_below, mul-add-lt}
use Rattle.std.proofs.lemmas.Bool.{false≢true, ne_eqb, not-false, cases_eq, cases_lt, le-ltb}
use Rattle.cpm_geom.specs.declared.dpb.Dpb.{Dpb}
use Rattle.cpm_volume.specs.declared.extent.Extent.{Extent}
use Rattle.cpm_volume.specs.Files.{extent_number, entry_place_of, map_place, block_offset, deleted, block_number, file_block, open_file_block, is_reserved, IsFileBlock, IsFormat, least_free, drive_record, record_in, file_record, open_file_record, Volume, record_put, IsSound}
use Rattle.cpm_volume.specs.Operations.{done, no_block, ends, with_block, block_to_write, new_block, counting, record_in_block, put_found, put_record, cleared_records, taken_records, taken_writes}
use Rattle.cpm_volume.specs.Laws.{HasCleared, OthersStay}
use Rattle.cpm_volume.proofs.Taking as taking
use Rattle.cpm_volume.proofs.Writing as writing
use Rattle.cpm_volume.proofs.Clearing.{length-taken, taken_other, cleared_inside}

-- record n has these bytes; each other that the file had is as it was
pub record IsRecordWritten (d : Dpb) (user : ℕ) (v : Volume) (x : Extent) (n : ℕ) (bytes : List ℕ) (v' : Volume) (x' : Extent) : Type 0 where
  pub there : open_file_record d v'.entries v'.records user x' n ≡ Some bytes
  pub others : (m : ℕ) → m ≢ n → open_file_block d v.entries user x m ≢ 0 → open_file_record d v'.entries v'.records user x' m ≡ open_file_record d v.entries v.records user x m

-- record n is written
pub record Puts (d : Dpb) (user : ℕ) (v : Volume) (x : Extent) (n : ℕ) (bytes : List ℕ) (clears : Bool) (next : ℕ) (v' : Volume) (x' : Extent) : Type 0 where
  pub answer : put_record d clears v x (n % 128) next bytes ≡ ends done v' x' next
  pub number : extent_number x' ≡ extent_number x
  pub written : IsRecordWritten d user v x n bytes v' x'
  pub others : OthersStay d user x.name v v'
  pub sound : IsSound d v' user x'
  pub reserved : (b : ℕ) → is_reserved v.reserved b ≡ true → is_reserved v'.reserved b ≡ true
  pub zeros : clears ≡ true → HasCleared d user v n v' x'

-- there is no block for it
pub record LacksBlock (d : Dpb) (v : Volume) (x : Extent) (n : ℕ) (bytes : List ℕ) (clears : Bool) (next : ℕ) : Type 0 where
  pub answer : put_record d clears v x (n % 128) next bytes ≡ ends no_block v x (n % 128)
  pub none : block_number x (map_place d n) ≡ 0
  pub full : (b : ℕ) → is_reserved v.reserved b ≡ true

pub place_back : (d : Dpb) (x : Extent) (n : ℕ) → n / 128 ≡ extent_number x → entry_place_of d x (n % 128) ≡ map_place d n
unfolding entry_place_of map_place
place_back d x n inside = rw inside refl

pub record_back : (d : Dpb) (b n : ℕ) → record_in_block d b (n % 128) ≡ drive_record d b n
unfolding record_in_block drive_record block_offset
record_back d b n = refl

-- a record's place is within the map
pub place_below : (d : Dpb) (n : ℕ) → IsFormat d → map_place d n < 16
unfolding map_place
place_below d n format =
    let pos : 0 < d.block_mask + 1 = omega arith in
    let below : n % 128 < 128 / (d.block_mask + 1) * (d.block_mask + 1) = rw format.whole_blocks (omega (arith, mod_below n 128)) in
    let rest = div_below (n % 128) (d.block_mask + 1) (128 / (d.block_mask + 1)) pos below in
    let row : n / 128 % (d.extent_mask + 1) < d.extent_mask + 1 = mod_below (n / 128) (d.extent_mask + 1) (omega arith) in
    omega (arith, format.places, mul-add-lt (n / 128 % (d.extent_mask + 1)) (128 / (d.block_mask + 1)) (n % 128 / (d.block_mask + 1)) (d.extent_mask + 1) row rest)

-- a block's record is on the drive
pub drive_record_below : (d : Dpb) (b n : ℕ) → b ≤ d.last_block → drive_record d b n < (d.last_block + 1) * (d.block_mask + 1)
unfolding drive_record block_offset
drive_record_below d b n h =
    let o : n % 128 % (d.block_mask + 1) < d.block_mask + 1 = mod_below _ _ (omega arith) in
    omega (arith, mul-add-lt b (d.block_mask + 1) (n % 128 % (d.block_mask + 1)) (d.last_block + 1) (omega arith) o)

-- block 0 is the directory's
zero_reserved : (d : Dpb) (user : ℕ) (v : Volume) (x : Extent) → IsFormat d → IsSound d v user x → is_reserved v.reserved 0 ≡ true
zero_reserved d user v x format sound = sound.well_formed.directory 0 (let h = format.has_directory in omega arith)

not_zero : (d : Dpb) (user : ℕ) (v : Volume) (x : Extent) (b : ℕ) → IsFormat d → IsSound d v user x → is_reserved v.reserved b ≡ false → b ≢ 0
not_zero d user v x b format sound free e =
    false≢true (sym free ∙ rw e (zero_reserved d user v x format sound))

-- ---- the write at a block that is there
module _ (d : Dpb) (user : ℕ) (v : Volume) (x : Extent) (n : ℕ) (bytes : List ℕ) (user_ok : user ≢ deleted) (format : IsFormat d) (sound : IsSound d v user x) (inside : n / 128 ≡ extent_number x) (there : block_number x (map_place d n) ≢ 0) where
  unfoldable pub volume_after : Volume
  volume_after =
      record v { records = set v.records (drive_record d (block_number x (map_place d n)) n) bytes; written = v.written ++ record_put (drive_record d (block_number x (map_place d n)) n) bytes ∷ [] }

  within : drive_record d (block_number x (map_place d n)) n < length v.records
  within =
      omega (arith, drive_record_below d (block_number x (map_place d n)) n (sound.kept.stored (map_place d n) there).within, sound.volume.space)

  put_answer : (clears : Bool) (next : ℕ) → put_record d clears v x (n % 128) next bytes ≡ ends done volume_after (counting x (n % 128)) next
  unfolding put_record put_found block_to_write volume_after
  put_answer clears next =
      rw (place_back d x n inside, le-ltb _ _ (sound.kept.stored (map_place d n) there).within, ne_eqb _ _ there, record_back d (block_number x (map_place d n)) n) refl

  pub put_written : IsRecordWritten d user v x n bytes volume_after (counting x (n % 128))
  unfolding volume_after
  put_written = record {
    there = writing.written_record d v.entries v.reserved user x n user_ok format sound.well_formed sound.kept inside there v.records bytes within;
    others = writing.other_records d v.entries v.reserved user x n user_ok format sound.well_formed sound.kept inside there v.records bytes;
  }

  pub put_others : OthersStay d user x.name v volume_after
  unfolding volume_after
  put_others = record { stay = writing.other_files d v.entries v.reserved user x n user_ok format sound.well_formed sound.kept inside there v.records bytes }

  pub put_sound : IsSound d volume_after user (counting x (n % 128))
  unfolding volume_after counting
  put_sound = record {
    volume = record { blocks = sound.volume.blocks; space = rw (length-set v.records _ bytes) sound.volume.space; maps = sound.volume.maps };
    well_formed = sound.well_formed;
    kept = writing.written_kept d v.entries v.reserved user x n user_ok format sound.well_formed sound.kept inside there;
    map = sound.map;
  }

  -- all its blocks were reserved
  old_reserved : (m : ℕ) → open_file_block d volume_after.entries user (counting x (n % 128)) m ≢ 0 → is_reserved v.reserved (open_file_block d volume_after.entries user (counting x (n % 128)) m) ≡ true
  unfolding volume_after
  old_reserved m h =
      (writing.open_stored d v.entries v.reserved user (counting x (n % 128)) user_ok sound.well_formed (writing.written_kept d v.entries v.reserved user x n user_ok format sound.well_formed sound.kept inside there) m h).kept

  put_reserved : (b : ℕ) → is_reserved v.reserved b ≡ true → is_reserved volume_after.reserved b ≡ true
  unfolding volume_after
  put_reserved b h = h

  puts_there : (clears : Bool) (next : ℕ) → Puts d user v x n bytes clears next volume_after (counting x (n % 128))
  puts_there clears next = record {
    answer = put_answer clears next;
    number = writing.counting_number d v.entries v.reserved user x n user_ok format sound.well_formed sound.kept inside there;
    written = put_written;
    others = put_others;
    sound = put_sound;
    reserved = put_reserved;
    zeros = λ _. record { zeros = λ m other free. absurd (false≢true (sym free ∙ old_reserved m (not_zero d user v x _ format sound free))) };
  }

empty_record : (d : Dpb) (rs ss : List (List ℕ)) (m : ℕ) → record_in d rs 0 m ≡ record_in d ss 0 m
unfolding record_in
empty_record d rs ss m = refl

lacks_answer : (d : Dpb) (v : Volume) (x : Extent) (n : ℕ) (bytes : List ℕ) (clears : Bool) (next : ℕ) → n / 128 ≡ extent_number x → block_number x (map_place d n) ≡ 0 → length v.reserved ≤ least_free v.reserved → put_record d clears v x (n % 128) next bytes ≡ ends no_block v x (n % 128)
unfolding put_record put_found block_to_write
lacks_answer d v x n bytes clears next inside none full =
    rw (place_back d x n inside, none, le-ltb d.last_block 0 (omega arith), le-ltb _ _ full) refl

all_reserved : (reserved : List Bool) → length reserved ≤ least_free reserved → (b : ℕ) → is_reserved reserved b ≡ true
unfolding is_reserved least_free
all_reserved reserved full b =
    elim (cases_lt b (length reserved)) [
      | inl lt ↦ not-false _ (fails_before_first not reserved b true (omega arith))
      | inr ge ↦ get_or_past reserved b true ge
    ]

-- ---- the write at a new block
module _ (d : Dpb) (user : ℕ) (v : Volume) (x : Extent) (n : ℕ) (bytes : List ℕ) (clears : Bool) (user_ok : user ≢ deleted) (format : IsFormat d) (sound : IsSound d v user x) (inside : n / 128 ≡ extent_number x) (none : block_number x (map_place d n) ≡ 0) (free : least_free v.reserved < length v.reserved) where
  room : map_place d n < length x.blocks
  room = rw sound.map (place_below d n format)

  with_new : Extent
  with_new = taking.taken d v.entries v.reserved user x n format sound.well_formed sound.kept sound.volume.blocks room none free

  reserved_new : List Bool
  reserved_new = taking.now_reserved d v.entries v.reserved user x n format sound.well_formed sound.kept sound.volume.blocks room none free

  -- its records, which a call may clear
  ready : List (List ℕ)
  ready = taken_records d clears (least_free v.reserved) v.records

  volume_new : Volume
  volume_new = record v { reserved = reserved_new; records = ready; written = v.written ++ taken_writes d clears (least_free v.reserved) }

  sound_new : IsSound d volume_new user with_new
  unfolding volume_new with_new reserved_new taking.taken with_block taking.now_reserved ready
  sound_new = record {
    volume = record { blocks = length-set v.reserved _ true ∙ sound.volume.blocks; space = rw (length-taken d clears (least_free v.reserved) v.records) sound.volume.space; maps = sound.volume.maps };
    well_formed = taking.take_well_formed d v.entries v.reserved user x n format sound.well_formed sound.kept sound.volume.blocks room none free;
    kept = taking.take_kept d v.entries v.reserved user x n format sound.well_formed sound.kept sound.volume.blocks room none free;
    map = length-set x.blocks _ _ ∙ sound.map;
  }

  own_block : block_number with_new (map_place d n) ≡ least_free v.reserved
  unfolding with_new
  own_block = taking.taken_own d v.entries v.reserved user x n format sound.well_formed sound.kept sound.volume.blocks room none free

  fresh_there : least_free v.reserved ≢ 0
  fresh_there = taking.fresh_there d v.entries v.reserved user x n format sound.well_formed sound.kept sound.volume.blocks room none free

  own_there : block_number with_new (map_place d n) ≢ 0
  own_there e = fresh_there (sym own_block ∙ e)

  number_new : extent_number with_new ≡ extent_number x
  unfolding with_new
  number_new = taking.taken_number d v.entries v.reserved user x n format sound.well_formed sound.kept sound.volume.blocks room none free

  inside_new : n / 128 ≡ extent_number with_new
  inside_new = inside ∙ sym number_new

  volume_last : Volume
  volume_last = volume_after d user volume_new with_new n bytes user_ok format sound_new inside_new own_there

  counted : Extent
  counted = counting with_new (n % 128)

  new_found : (next : ℕ) → ends done (record v { reserved = reserved_new; records = set ready (record_in_block d (least_free v.reserved) (n % 128)) bytes; written = (v.written ++ taken_writes d clears (least_free v.reserved)) ++ record_put (record_in_block d (least_free v.reserved) (n % 128)) bytes ∷ [] }) counted next ≡ ends done volume_last counted next
  unfolding volume_last volume_after volume_new
  new_found next = rw (own_block, record_back d (least_free v.reserved) n) refl

  found_new : (next : ℕ) → put_found d clears v x (n % 128) next bytes (new_block (least_free v.reserved)) ≡ ends done volume_last counted next
  unfolding put_found with_new reserved_new ready counted taking.taken taking.now_reserved
  found_new next = rw (place_back d x n inside) (new_found next)

  new_answer : (next : ℕ) → put_record d clears v x (n % 128) next bytes ≡ ends done volume_last counted next
  unfolding put_record
  new_answer next =
      rw (place_back d x n inside, taking.take_answer d v.entries v.reserved user x n format sound.well_formed sound.kept sound.volume.blocks room none free) (found_new next)

  -- a record that the file had is in the block where it was
  kept_block : (m : ℕ) → open_file_block d v.entries user x m ≢ 0 → open_file_block d v.entries user with_new m ≡ open_file_block d v.entries user x m
  unfolding with_new
  kept_block m h =
      elim (taking.take_blocks d v.entries v.reserved user x n format sound.well_formed sound.kept sound.volume.blocks room none free m) [
        | inl e ↦ e
        | inr e ↦ absurd (h e.0)
      ]

  not_fresh : (b : ℕ) → IsFileBlock d v.reserved b → b ≢ least_free v.reserved
  not_fresh b h e = false≢true (sym (taking.was_free d v.entries v.reserved user x n format sound.well_formed sound.kept sound.volume.blocks room none free) ∙ (rw e at h.kept))

  stored_block : (m : ℕ) → open_file_block d v.entries user x m ≢ 0 → IsFileBlock d v.reserved (open_file_block d v.entries user x m)
  stored_block = writing.open_stored d v.entries v.reserved user x user_ok sound.well_formed sound.kept

  old_record : (m : ℕ) → open_file_block d v.entries user x m ≢ 0 → open_file_record d v.entries ready user with_new m ≡ open_file_record d v.entries v.records user x m
  unfolding open_file_record ready
  old_record m h =
      rw (kept_block m h) (taken_other d clears v.records (least_free v.reserved) (open_file_block d v.entries user x m) m (not_fresh _ (stored_block m h)))

  new_written : IsRecordWritten d user v x n bytes volume_last counted
  unfolding volume_last volume_new counted
  new_written =
      let w = put_written d user volume_new with_new n bytes user_ok format sound_new inside_new own_there in
      record {
        there = w.there;
        others = λ m other h. w.others m other (λ z. h (sym (kept_block m h) ∙ z)) ∙ old_record m h;
      }

  old_directory : (o : ℕ) (nm : List ℕ) (m : ℕ) → o ≢ deleted → file_record d v.entries ready o nm m ≡ file_record d v.entries v.records o nm m
  unfolding file_record ready
  old_directory o nm m ok =
      elim (cases_eq (file_block d v.entries o nm m) 0) [
        | inl z ↦ rw z (empty_record d ready v.records m)
        | inr h ↦
            let entry = writing.file_entry d v.entries o nm m ok h in
            taken_other d clears v.records (least_free v.reserved) (file_block d v.entries o nm m) m (λ e. not_fresh _ (sound.well_formed.stored entry.0 (map_place d m) entry.1 (λ z. h (entry.3 ∙ z))) (sym entry.3 ∙ e))
      ]

  new_others : OthersStay d user x.name v volume_last
  unfolding volume_last volume_new with_new taking.taken with_block
  new_others = record {
    stay = λ o nm m ok apart. (put_others d user volume_new with_new n bytes user_ok format sound_new inside_new own_there).stay o nm m ok apart ∙ old_directory o nm m ok;
  }

  new_sound : IsSound d volume_last user counted
  unfolding volume_last counted
  new_sound = put_sound d user volume_new with_new n bytes user_ok format sound_new inside_new own_there

  counted_block : block_number counted (map_place d n) ≡ least_free v.reserved
  unfolding counted
  counted_block = writing.counting_blocks d volume_new.entries volume_new.reserved user with_new n user_ok format sound_new.well_formed sound_new.kept inside_new own_there (map_place d n) ∙ own_block

  counted_number : extent_number counted ≡ extent_number x
  unfolding counted
  counted_number =
      writing.counting_number d volume_new.entries volume_new.reserved user with_new n user_ok format sound_new.well_formed sound_new.kept inside_new own_there ∙ number_new

  fresh_within : least_free v.reserved * (d.block_mask + 1) + (d.block_mask + 1) ≤ length v.records
  fresh_within =
      let s = sound.volume.space in
      let l = sound.volume.blocks in
      let p = mul-add-lt (least_free v.reserved) (d.block_mask + 1) d.block_mask (d.last_block + 1) (omega arith) (omega arith) in
      omega arith

  cleared_ready : clears ≡ true → ready ≡ cleared_records (least_free v.reserved * (d.block_mask + 1)) (d.block_mask + 1) v.records
  unfolding ready taken_records
  cleared_ready e = rw e refl

  -- the other records in the new block are zeros
  zero_at : clears ≡ true → (m : ℕ) → m ≢ n → open_file_block d volume_last.entries user counted m ≡ least_free v.reserved → open_file_record d volume_last.entries volume_last.records user counted m ≡ Some (replicate 128 0)
  unfolding open_file_record record_in volume_last volume_after volume_new drive_record block_offset
  zero_at clear m other h =
      let apart = writing.distinct d volume_last.entries volume_last.reserved user counted n user_ok format new_sound.well_formed new_sound.kept (inside ∙ sym counted_number) (λ z. fresh_there (sym counted_block ∙ z)) m (λ z. fresh_there (sym h ∙ z)) other in
      let o : m % 128 % (d.block_mask + 1) < d.block_mask + 1 = mod_below _ _ (omega arith) in
      let here = rw (h, counted_block) at apart in
      rw (h, ne_eqb _ _ fresh_there, own_block) (ap Some (get_or-set_other ready _ _ bytes [] here ∙ rw (cleared_ready clear) (cleared_inside (least_free v.reserved * (d.block_mask + 1)) (d.block_mask + 1) _ v.records (omega arith) (omega arith) fresh_within)))

  is_fresh : (b : ℕ) → is_reserved reserved_new b ≡ true → is_reserved v.reserved b ≡ false → b ≡ least_free v.reserved
  unfolding reserved_new taking.now_reserved is_reserved
  is_fresh b now was =
      elim (cases_eq b (least_free v.reserved)) [
        | inl e ↦ e
        | inr other ↦ absurd (false≢true (sym was ∙ (sym (get_or-set_other v.reserved (least_free v.reserved) b true true other) ∙ now)))
      ]

  last_reserved : (m : ℕ) → open_file_block d volume_last.entries user counted m ≢ 0 → is_reserved reserved_new (open_file_block d volume_last.entries user counted m) ≡ true
  unfolding volume_last volume_after volume_new
  last_reserved m h =
      (writing.open_stored d volume_last.entries volume_last.reserved user counted user_ok new_sound.well_formed new_sound.kept m h).kept

  new_reserved : (b : ℕ) → is_reserved v.reserved b ≡ true → is_reserved volume_last.reserved b ≡ true
  unfolding volume_last volume_after volume_new reserved_new
  new_reserved b h =
      taking.still_reserved d v.entries v.reserved user x n format sound.well_formed sound.kept sound.volume.blocks room none free b h

  puts_new : (next : ℕ) → Puts d user v x n bytes clears next volume_last counted
  puts_new next = record {
    answer = new_answer next;
    number = counted_number;
    written = new_written;
    others = new_others;
    sound = new_sound;
    reserved = new_reserved;
    zeros = λ clear. record { zeros = λ m other free_before. zero_at clear m other (is_fresh _ (last_reserved m (not_zero d user v x _ format sound free_before)) free_before) };
  }

-- a record of the extent is written, or there is no block for it
pub puts : (d : Dpb) (user : ℕ) (v : Volume) (x : Extent) (n : ℕ) (bytes : List ℕ) (clears : Bool) (next : ℕ) → user ≢ deleted → IsFormat d → IsSound d v user x → n / 128 ≡ extent_number x → ((v' : Volume) × (x' : Extent) × Puts d user v x n bytes clears next v' x') ⊎ LacksBlock d v x n bytes clears next
puts d user v x n bytes clears next user_ok format sound inside =
    elim (cases_eq (block_number x (map_place d n)) 0) [
      | inl none ↦ elim (cases_lt (least_free v.reserved) (length v.reserved)) [
        | inl free ↦ inl (volume_last d user v x n bytes clears user_ok format sound inside none free, counted d user v x n bytes clears user_ok format sound inside none free, puts_new d user v x n bytes clears user_ok format sound inside none free next)
        | inr full ↦ inr (record { answer = lacks_answer d v x n bytes clears next inside none full; none = none; full = all_reserved v.reserved full })
      ]
      | inr there ↦ inl (volume_after d user v x n bytes user_ok format sound inside there, counting x (n % 128), puts_there d user v x n bytes user_ok format sound inside there clears next)
    ]
