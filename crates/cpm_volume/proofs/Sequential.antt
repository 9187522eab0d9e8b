-- The laws of writes.
use Rattle.std.proofs.Common.{◌≡◌, ◌≢◌, ◌⊎◌, ℕ, ◌/◌, ◌%◌, ◌*◌, ◌+◌, ◌<◌, ◌≤◌, Bool, true, false, List, None, sym, refl, ap, ◌∙◌, inl, inr, arith}
use Rattle.std.proofs.lemmas.Bool.{false≢true, eq-eqb, ne_eqb, cases_eq, cases_lt, lt-ltb, le-ltb}
use Rattle.cpm_geom.specs.declared.dpb.Dpb.{Dpb}
use Rattle.cpm_volume.specs.declared.extent.Extent.{Extent}
use Rattle.cpm_volume.specs.Files.{extent_number, same_name, deleted, open_file_block, open_file_record, file_record, IsFormat, Volume, IsSound}
use Rattle.cpm_volume.specs.Operations.{Answer, done, no_block, no_record, cannot_close, no_extent, no_entry_free, fault, VolumeOutcome, ends, writing, next_target, target_of, next_place, place_at, put_record, write_in, write_next_on_volume, write_random_on_volume, write_random_cleared_on_volume}
use Rattle.cpm_volume.specs.Laws.{OthersStay, FileStays, LosesNone, HasWritten, HasCleared, position, StaysSound, IsFull, HasNoExtent, HasNoBlock, HasDone, WritesNext, WritesRandom, ClearsBlock}
use Rattle.cpm_volume.proofs.NameLemmas.{same_name-trans, same_name-sym}
use Rattle.cpm_volume.proofs.Records.{IsRecordWritten, Puts, LacksBlock, puts}
use Rattle.cpm_volume.proofs.Moving.{MovesOn, LacksExtent, stays_there, no_file, closed_volume, closes_free, goes_on, number_below}
use Rattle.cpm_volume.proofs.Making.{no_blocks}
use Rattle.cpm_volume.proofs.Reading.{own_block, past_file}

-- a file has a record where it has a block for it
has_block : (d : Dpb) (v : Volume) (user : ℕ) (x : Extent) (n : ℕ) → open_file_record d v.entries v.records user x n ≢ None → open_file_block d v.entries user x n ≢ 0
has_block d v user x n h z = h (no_file d v user x n z)

-- ---- the write in the extent that was moved to
module _ (d : Dpb) (user : ℕ) (v : Volume) (x : Extent) (number : ℕ) (v1 : Volume) (x1 : Extent) (move : MovesOn d user v x number v1 x1) where
  same_bytes : (m : ℕ) → open_file_block d v.entries user x m ≢ 0 → open_file_record d v1.entries v1.records user x1 m ≡ open_file_record d v.entries v.records user x m
  unfolding open_file_record
  same_bytes m h = rw (move.file m h, move.records) refl

  exact_file : d.extent_mask ≡ 0 → FileStays d user v x v1 x1
  unfolding open_file_record
  exact_file e = record { stay = λ m. rw (move.exact e m, move.records) refl }

  loses_none : LosesNone d user v x v1 x1
  loses_none = record { stay = λ m h. same_bytes m (has_block d v user x m h) }

  same_directory : (other : ℕ) (name : List ℕ) (m : ℕ) → other ≢ deleted → (other ≡ user → same_name name x.name ≡ true → ⊥) → file_record d v1.entries v1.records other name m ≡ file_record d v.entries v.records other name m
  unfolding file_record
  same_directory other name m ok apart = rw (move.others other name m ok apart, move.records) refl

  others_moved : OthersStay d user x.name v v1
  others_moved = record { stay = same_directory }

  others_after : (v' : Volume) → OthersStay d user x1.name v1 v' → OthersStay d user x.name v v'
  others_after v' stay = record {
    stay = λ other name m ok apart.
        stay.stay other name m ok (λ u s. apart u (same_name-trans _ _ _ s (same_name-sym _ _ move.name_is))) ∙ same_directory other name m ok apart;
  }

  written_after : (n : ℕ) (bytes : List ℕ) (v' : Volume) (x' : Extent) → IsRecordWritten d user v1 x1 n bytes v' x' → HasWritten d user v x n bytes v' x'
  written_after n bytes v' x' written = record {
    there = written.there;
    others = λ m other h.
        let there = has_block d v user x m h in
        written.others m other (λ z. there (sym (move.file m there) ∙ z)) ∙ same_bytes m there;
  }

  cleared_after : (n : ℕ) (v' : Volume) (x' : Extent) → HasCleared d user v1 n v' x' → HasCleared d user v n v' x'
  cleared_after n v' x' cleared = record { zeros = λ m other free. cleared.zeros m other (rw move.reserved free) }

-- what is said of a call that came to its record
abbrev Writes : Dpb → ℕ → Volume → Extent → ℕ → List ℕ → Bool → ℕ → VolumeOutcome → Type 0
Writes d user v x n bytes clears after o =
    StaysSound d user v x o × ((HasDone d user v x n bytes after o × (clears ≡ true → HasCleared d user v n o.volume o.extent)) ⊎ ((o.answer ≡ no_block) × HasNoBlock d user v x n o))

done_there : (d : Dpb) (user : ℕ) (v : Volume) (x : Extent) (n : ℕ) (bytes : List ℕ) (clears : Bool) (next after : ℕ) (v1 : Volume) (x1 : Extent) → MovesOn d user v x (n / 128) v1 x1 → next ≤ 128 → 128 * (n / 128) + next ≡ after → (v' : Volume) (x' : Extent) → Puts d user v1 x1 n bytes clears next v' x' → Writes d user v x n bytes clears after (ends done v' x' next)
unfolding ends position
done_there d user v x n bytes clears next after v1 x1 move small last v' x' put = (
  record { sound = put.sound; current = small; reserved = λ b h. put.reserved b (rw move.reserved h); others = others_after d user v x (n / 128) v1 x1 move v' put.others },
  inl (
    record {
      answer = refl;
      written = written_after d user v x (n / 128) v1 x1 move n bytes v' x' put.written;
      position_is = rw (put.number, move.number_is) last;
      none_read = refl;
    },
    λ clear. cleared_after d user v x (n / 128) v1 x1 move n v' x' (put.zeros clear),
  ),
)

lacks_there : (d : Dpb) (user : ℕ) (v : Volume) (x : Extent) (n : ℕ) (bytes : List ℕ) (clears : Bool) (next after : ℕ) (v1 : Volume) (x1 : Extent) → MovesOn d user v x (n / 128) v1 x1 → LacksBlock d v1 x1 n bytes clears next → Writes d user v x n bytes clears after (ends no_block v1 x1 (n % 128))
unfolding ends position
lacks_there d user v x n bytes clears next after v1 x1 move lack =
    let none : open_file_block d v1.entries user x1 n ≡ 0 = own_block d v1.entries user x1 n (sym move.number_is) ∙ no_blocks x1.record_count (n % 128) _ x1 lack.none in (
      record { sound = move.sound; current = omega arith; reserved = λ b h. rw move.reserved h; others = others_moved d user v x (n / 128) v1 x1 move },
      inr (
        refl,
        record {
          file = loses_none d user v x (n / 128) v1 x1 move;
          exact = exact_file d user v x (n / 128) v1 x1 move;
          position_is = rw move.number_is (omega arith);
          read = refl;
          none = elim (cases_eq (open_file_block d v.entries user x n) 0) [
            | inl z ↦ no_file d v user x n z
            | inr h ↦ absurd (h (sym (move.file n h) ∙ none))
          ];
          full = λ b. (let f = lack.full b in rw move.reserved at f);
        },
      ),
    )

writes_there : (d : Dpb) (user : ℕ) (v : Volume) (x : Extent) (n here : ℕ) (bytes : List ℕ) (clears : Bool) (next after : ℕ) (v1 : Volume) (x1 : Extent) → user ≢ deleted → IsFormat d → MovesOn d user v x (n / 128) v1 x1 → here ≡ n % 128 → next ≤ 128 → 128 * (n / 128) + next ≡ after → Writes d user v x n bytes clears after (put_record d clears v1 x1 here next bytes)
writes_there d user v x n here bytes clears next after v1 x1 user_ok format move at_here small last =
    elim (puts d user v1 x1 n bytes clears next user_ok format move.sound (sym move.number_is)) [
      | inl w ↦ rw (at_here, w.2.answer) (done_there d user v x n bytes clears next after v1 x1 move small last w.0 w.1 w.2)
      | inr l ↦ rw (at_here, l.answer) (lacks_there d user v x n bytes clears next after v1 x1 move l)
    ]

-- ---- a call that did not come to its record
abbrev Misses : Dpb → ℕ → Volume → Extent → ℕ → ℕ → Answer → VolumeOutcome → Type 0
Misses d user v x current n answer o =
    StaysSound d user v x o × (o.answer ≡ answer) × HasNoExtent d user v x current n o

misses : (d : Dpb) (user : ℕ) (v : Volume) (x : Extent) (current n number : ℕ) (answer : Answer) (v1 : Volume) → current ≤ 128 → LacksExtent d user v x number v1 → n / 128 ≡ number → Misses d user v x current n answer (ends answer v1 x current)
unfolding ends
misses d user v x current n number answer v1 small lack inside = (
  record { sound = lack.sound; current = small; reserved = λ b h. rw lack.reserved h; others = lack.others },
  refl,
  record { file = lack.file; extent = refl; current_is = refl; read = refl; none = lack.none n inside },
)

misses_last : (d : Dpb) (user : ℕ) (v : Volume) (x : Extent) (current n : ℕ) → current ≤ 128 → IsSound d v user x → 511 < n / 128 → Misses d user v x current n no_record (ends no_record v x current)
unfolding ends
misses_last d user v x current n small sound past = (
  record { sound = sound; current = small; reserved = λ b h. h; others = record { stay = λ other name m ok apart. refl } },
  refl,
  record { file = record { stay = λ m. refl }; extent = refl; current_is = refl; read = refl; none = no_file d v user x n (past_file d v.entries user x n past) },
)

-- ---- a random write, clearing or not
random : Dpb → Bool → Volume → ℕ → Extent → ℕ → ℕ → List ℕ → VolumeOutcome
random d clears v user x current n bytes =
    write_in d clears current 0 bytes (place_at d writing false v user x (target_of no_entry_free n))

abbrev WritesAtPlace : Dpb → Bool → ℕ → Volume → Extent → ℕ → ℕ → List ℕ → VolumeOutcome → Type 0
WritesAtPlace d clears user v x current n bytes o =
    WritesRandom d user v x current n bytes o × (clears ≡ true → ClearsBlock d user v n o)

is_done : Answer → Bool
is_done done = true
is_done no_record = false
is_done no_block = false
is_done cannot_close = false
is_done no_extent = false
is_done no_entry_free = false
is_done (fault which) = false

from_there : (d : Dpb) (clears : Bool) (user : ℕ) (v : Volume) (x : Extent) (current n : ℕ) (bytes : List ℕ) (o : VolumeOutcome) → Writes d user v x n bytes clears n o → WritesAtPlace d clears user v x current n bytes o
unfolding is_done
from_there d clears user v x current n bytes o w =
    elim w.1 [
      | inl h ↦ ((w.0, inl h.0), λ clear _. h.1 clear)
      | inr h ↦ ((w.0, inr (inr h)), λ clear e. absurd (false≢true (ap is_done (sym h.0 ∙ e))))
    ]

from_miss : (d : Dpb) (clears : Bool) (user : ℕ) (v : Volume) (x : Extent) (current n : ℕ) (bytes : List ℕ) (o : VolumeOutcome) → IsFull v.entries → Misses d user v x current n no_entry_free o → WritesAtPlace d clears user v x current n bytes o
unfolding is_done
from_miss d clears user v x current n bytes o full m =
    ((m.0, inr (inl (m.1, m.2, full))), λ clear e. absurd (false≢true (ap is_done (sym m.1 ∙ e))))

writes_random : (d : Dpb) (clears : Bool) (user : ℕ) (v : Volume) (x : Extent) (current n : ℕ) (bytes : List ℕ) → user ≢ deleted → IsFormat d → IsSound d v user x → current ≤ 128 → n < 65536 → WritesAtPlace d clears user v x current n bytes (random d clears v user x current n bytes)
unfolding random write_in place_at target_of
writes_random d clears user v x current n bytes user_ok format sound small h =
    elim (cases_eq (n / 128) (extent_number x)) [
      | inl same ↦ rw (eq-eqb _ _ same) (from_there d clears user v x current n bytes _ (writes_there d user v x n (n % 128) bytes clears (n % 128 + 0) n v x user_ok format (stays_there d user v x (n / 128) sound (sym same)) refl (omega arith) (omega arith)))
      | inr other ↦
          let inside : n / 128 < 512 = omega arith in
          let step = closes_free d user v x user_ok sound writing (target_of no_entry_free n) in
          elim (goes_on d user v x user_ok sound (target_of no_entry_free n) inside) [
            | inl m ↦ rw (ne_eqb _ _ other, step, m.2) (from_there d clears user v x current n bytes _ (writes_there d user v x n (n % 128) bytes clears (n % 128 + 0) n m.0 m.1 user_ok format m.3 refl (omega arith) (omega arith)))
            | inr s ↦ rw (ne_eqb _ _ other, step, s.0) (from_miss d clears user v x current n bytes _ s.2 (misses d user v x current n (n / 128) no_entry_free (closed_volume d user v x user_ok sound) small s.1 refl))
          ]
    ]

pub writes_at : (d : Dpb) (user : ℕ) (v : Volume) (x : Extent) (current n : ℕ) (bytes : List ℕ) → user ≢ deleted → IsFormat d → IsSound d v user x → current ≤ 128 → n < 65536 → WritesRandom d user v x current n bytes (write_random_on_volume d v user x current n bytes)
unfolding write_random_on_volume random
writes_at d user v x current n bytes user_ok format sound small h =
    (writes_random d false user v x current n bytes user_ok format sound small h).0

pub writes_at_cleared : (d : Dpb) (user : ℕ) (v : Volume) (x : Extent) (current n : ℕ) (bytes : List ℕ) → user ≢ deleted → IsFormat d → IsSound d v user x → current ≤ 128 → n < 65536 → WritesRandom d user v x current n bytes (write_random_cleared_on_volume d v user x current n bytes) × ClearsBlock d user v n (write_random_cleared_on_volume d v user x current n bytes)
unfolding write_random_cleared_on_volume random
writes_at_cleared d user v x current n bytes user_ok format sound small h =
    let w = writes_random d true user v x current n bytes user_ok format sound small h in (w.0, w.1 refl)

-- ---- a sequential write
next_from : (d : Dpb) (user : ℕ) (v : Volume) (x : Extent) (current : ℕ) (bytes : List ℕ) (o : VolumeOutcome) → Writes d user v x (position x current) bytes false (position x current + 1) o → WritesNext d user v x current bytes o
next_from d user v x current bytes o w = elim w.1 [ inl h ↦ (w.0, inl h.0) | inr h ↦ (w.0, inr (inr h)) ]

pub writes_next : (d : Dpb) (user : ℕ) (v : Volume) (x : Extent) (current : ℕ) (bytes : List ℕ) → user ≢ deleted → IsFormat d → IsSound d v user x → current ≤ 128 → WritesNext d user v x current bytes (write_next_on_volume d v user x current bytes)
unfolding write_next_on_volume write_in next_place next_target position
writes_next d user v x current bytes user_ok format sound small =
    elim (cases_lt current 128) [
      | inl lt ↦
          let number : extent_number x ≡ (128 * extent_number x + current) / 128 = omega arith in
          rw (lt-ltb _ _ lt) (next_from d user v x current bytes _ (writes_there d user v x (128 * extent_number x + current) current bytes false (current + 1) (128 * extent_number x + current + 1) v x user_ok format (stays_there d user v x _ sound number) (omega arith) (omega arith) (omega arith)))
      | inr ge ↦ elim (cases_eq (extent_number x) 511) [
        | inl last ↦
            let m = misses_last d user v x current (128 * extent_number x + current) small sound (omega arith) in
            rw (le-ltb _ _ ge, eq-eqb _ _ last) (m.0, inr (inl (m.1, m.2, inl last)))
        | inr more ↦
            let inside : extent_number x + 1 < 512 = let b = number_below x in omega arith in
            let number : (128 * extent_number x + current) / 128 ≡ extent_number x + 1 = omega arith in
            let step = closes_free d user v x user_ok sound writing (next_target x) in
            elim (goes_on d user v x user_ok sound (next_target x) inside) [
              | inl m ↦ rw (le-ltb _ _ ge, ne_eqb _ _ more, step, m.2) (next_from d user v x current bytes _ (writes_there d user v x (128 * extent_number x + current) 0 bytes false 1 (128 * extent_number x + current + 1) m.0 m.1 user_ok format (rw number m.3) (omega arith) (omega arith) (omega arith)))
              | inr s ↦
                  let m = misses d user v x current (128 * extent_number x + current) (extent_number x + 1) no_record (closed_volume d user v x user_ok sound) small s.1 number in
                  rw (le-ltb _ _ ge, ne_eqb _ _ more, step, s.0) (m.0, inr (inl (m.1, m.2, inr s.2)))
            ]
      ]
    ]
