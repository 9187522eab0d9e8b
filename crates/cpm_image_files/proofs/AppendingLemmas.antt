-- The law of records that are written at the end of a file.
use Rattle.std.proofs.Common.{◌≡◌, ◌≢◌, ◌⊎◌, ℕ, ◌+◌, ◌%◌, ◌<◌, false, cond, eqb, List, sym, refl, ◌∙◌, inl, inr, arith}
use Rattle.std.proofs.lemmas.Bool.{cases_eq, cases_lt, lt-ltb, cond-true, eq-eqb}
use Rattle.cpm_geom.specs.declared.dpb.Dpb.{Dpb}
use Rattle.cpm_volume.specs.declared.extent.Extent.{Extent}
use Rattle.cpm_volume.specs.Files.{deleted, extent_number, group_of, IsFormat, IsSound, Volume}
use Rattle.cpm_volume.specs.Operations.{VolumeOutcome, next_place, put_record, write_in, write_next_on_volume}
use Rattle.cpm_volume.specs.Laws.{position}
use Rattle.cpm_image_files.specs.Appending.{unused, entries_begun, IsAtEnd, IsAppending, IsAppended, KeepsToBlocks, LacksEntry, LacksBlock}
use Rattle.cpm_image_files.specs.Laws.{AppendingLaw}
use Rattle.cpm_image_files.proofs.Numbers.{blocks_begun_at, extent_begins_block, begins_no_entry, extent_begins_no_entry, extent_begins_entry, zero_rest}
use Rattle.cpm_image_files.proofs.EndLemmas.{no_more_records, keeps-refl}
use Rattle.cpm_image_files.proofs.PutLemmas.{PutsAtEnd, LacksThere, IsReady, puts_at_end}
use Rattle.cpm_image_files.proofs.Crossing.{MovesToEnd, moves_on, moves_or_stops}

abbrev Appends : Dpb → ℕ → List ℕ → Volume → Extent → ℕ → VolumeOutcome → Type 0
Appends d user name v x n o = IsAppended d user name v x n o ⊎ (LacksEntry d v n o ⊎ LacksBlock d v n o)

keeps_to-trans : (d : Dpb) (user : ℕ) (name : List ℕ) (v : Volume) (x : Extent) (v' : Volume) (x' : Extent) (v'' : Volume) (x'' : Extent) → KeepsToBlocks d user name v x v' x' → KeepsToBlocks d user name v' x' v'' x'' → KeepsToBlocks d user name v x v'' x''
keeps_to-trans d user name v x v' x' v'' x'' p q = record {
  records = λ n. elim (q.records n) [
    | inl same ↦ elim (p.records n) [ inl was ↦ inl (same ∙ was) | inr block ↦ inr (q.blocks _ block) ]
    | inr block ↦ inr block
  ];
  blocks = λ b own. q.blocks b (p.blocks b own);
}

-- ---- within the extent
module _ (d : Dpb) (user : ℕ) (name : List ℕ) (v : Volume) (x : Extent) (current : ℕ) (bytes : List ℕ) (format : IsFormat d) (sound : IsSound d v user x) (appending : IsAppending d user name v x current) (small : current < 128) where
  ready : IsReady d v x
  ready = record {
    map = sound.map;
    blocks = sound.volume.blocks;
    zero = sound.well_formed.directory 0 (let h = format.has_directory in omega arith);
    stored = λ s h. (sound.kept.stored s h).within;
  }

  answer : write_next_on_volume d v user x current bytes ≡ put_record d false v x current (current + 1) bytes
  unfolding write_next_on_volume write_in next_place
  answer = rw (lt-ltb _ _ small) refl

  put_within : (o : VolumeOutcome) → PutsAtEnd d user name v x current o → IsAppended d user name v x (position x current) o
  put_within o puts = record {
    answer = puts.answer;
    appending = record { at_end = puts.at_end; begun = λ z. absurd (let next = puts.next in omega arith) };
    others = rw puts.entries (keeps-refl user name v.entries);
    own = puts.own;
    entries = rw (puts.entries, begins_no_entry d x current small appending.begun) (omega arith);
    blocks = rw (blocks_begun_at d x current format) puts.blocks;
  }

  lacks_within : (o : VolumeOutcome) → LacksThere d v current o → LacksBlock d v (position x current) o
  lacks_within o lacks = record {
    answer = lacks.answer;
    due = blocks_begun_at d x current format ∙ cond-true (eqb (current % (d.block_mask + 1)) 0) 1 0 (eq-eqb _ _ lacks.begins);
    none = lacks.none;
  }

  appends_within : Appends d user name v x (position x current) (write_next_on_volume d v user x current bytes)
  appends_within =
      elim (puts_at_end d user name v x current bytes format ready appending.at_end small) [
        | inl puts ↦ rw answer (inl (put_within _ puts))
        | inr lacks ↦ rw answer (inr (inr (lacks_within _ lacks)))
      ]

-- ---- behind it
module _ (d : Dpb) (user : ℕ) (name : List ℕ) (v : Volume) (x : Extent) (bytes : List ℕ) (user_ok : user ≢ deleted) (format : IsFormat d) (sound : IsSound d v user x) (end : IsAtEnd d user name v x 128) (more : extent_number x < 511) where
  put_behind : (v' : Volume) (x' : Extent) → MovesToEnd d user name v x bytes v' x' → unused v'.entries + entries_begun d (position x 128) ≡ unused v.entries → (o : VolumeOutcome) → PutsAtEnd d user name v' x' 0 o → IsAppended d user name v x (position x 128) o
  put_behind v' x' moves entries o puts = record {
    answer = puts.answer;
    appending = record { at_end = puts.at_end; begun = λ z. absurd (let next = puts.next in omega arith) };
    others = rw puts.entries moves.others;
    own = keeps_to-trans d user name v x v' x' o.volume o.extent moves.own puts.own;
    entries = rw puts.entries entries;
    blocks =
        let begun : cond {A = ℕ} (eqb (0 % (d.block_mask + 1)) 0) 1 0 ≡ 1 = cond-true _ _ _ (eq-eqb _ _ (zero_rest (d.block_mask + 1))) in
        rw (extent_begins_block d x format, sym begun, ← moves.reserved) puts.blocks;
  }

  lacks_behind : (v' : Volume) (x' : Extent) → MovesToEnd d user name v x bytes v' x' → (o : VolumeOutcome) → LacksThere d v' 0 o → LacksBlock d v (position x 128) o
  lacks_behind v' x' moves o lacks = record {
    answer = lacks.answer;
    due = extent_begins_block d x format;
    none = (let none = lacks.none in rw moves.reserved at none);
  }

  appends_there : (v' : Volume) (x' : Extent) → MovesToEnd d user name v x bytes v' x' → unused v'.entries + entries_begun d (position x 128) ≡ unused v.entries → Appends d user name v x (position x 128) (write_next_on_volume d v user x 128 bytes)
  appends_there v' x' moves entries =
      elim (puts_at_end d user name v' x' 0 bytes format moves.ready moves.at_end (omega arith)) [
        | inl puts ↦ rw moves.answer (inl (put_behind v' x' moves entries _ puts))
        | inr lacks ↦ rw moves.answer (inr (inr (lacks_behind v' x' moves _ lacks)))
      ]

  appends_behind : Appends d user name v x (position x 128) (write_next_on_volume d v user x 128 bytes)
  appends_behind =
      elim (cases_eq (group_of d (extent_number x + 1)) (group_of d (extent_number x))) [
        | inl same ↦
            let moved = moves_on d user name v x 128 user_ok sound end bytes format refl more same in
            appends_there moved.0 moved.1 moved.2 (rw (extent_begins_no_entry d x same) (let e = moved.3 in omega arith))
        | inr other ↦ elim (moves_or_stops d user name v x 128 user_ok sound end bytes format refl more other) [
          | inl moved ↦ appends_there moved.0 moved.1 moved.2 (rw (extent_begins_entry d x other) moved.3)
          | inr stops ↦ inr (inl (record { answer = stops.0; due = extent_begins_entry d x other; none = stops.1 }))
        ]
      ]

last_not : (x : Extent) (current : ℕ) → current ≡ 128 → position x current < 65536 → extent_number x < 511
unfolding position
last_not x current full within = omega arith

pub appends : AppendingLaw
appends d user name v x current bytes user_ok format sound appending = (
  no_more_records d user name v x current user_ok sound.kept.plain appending.at_end,
  λ within. elim (cases_lt current 128) [
    | inl small ↦ appends_within d user name v x current bytes format sound appending small
    | inr ge ↦
        let end = appending.at_end in
        let full : current ≡ 128 = let low = end.small in omega arith in
        rw full (appends_behind d user name v x bytes user_ok format sound (rw full at end) (last_not x current full within))
  ],
)
