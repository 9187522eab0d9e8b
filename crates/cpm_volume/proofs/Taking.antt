-- What the taking of a block leaves.
use Rattle.std.proofs.Common.{◌≡◌, ◌≢◌, ◌⊎◌, ℕ, ◌/◌, ◌%◌, ◌*◌, ◌+◌, ◌<◌, Bool, true, false, not, List, length, set, sym, refl, ◌∙◌, inl, inr, arith}
use Rattle.std.proofs.lemmas.List.{get_or-set_same, get_or-set_other}
use Rattle.std.proofs.lemmas.List.Sums.{passes_at_first}
use Rattle.std.proofs.lemmas.Bool.{false≢true, eq-eqb, ne_eqb, cases_eq, cases_lt, lt-ltb, le-ltb, not-true}
use Rattle.cpm_geom.specs.declared.dpb.Dpb.{Dpb}
use Rattle.cpm_volume.specs.declared.extent.Extent.{Extent}
use Rattle.cpm_volume.specs.declared.extent.Entry.{Entry}
use Rattle.cpm_volume.specs.Files.{extent_number, group_of, map_place, entry_at, InUse, first_of, open_record_count, block_number, block_if, open_block, open_file_block, IsFileBlock, IsWellFormed, IsFcbKept, IsFormat, is_reserved, directory_records, least_free}
use Rattle.cpm_volume.specs.Operations.{with_block, block_to_write, new_block}

module _ (d : Dpb) (es : List Entry) (reserved : List Bool) (user : ℕ) (x : Extent) (n : ℕ) (format : IsFormat d) (wf : IsWellFormed d es reserved) (kept : IsFcbKept d es reserved user x) (blocks : length reserved ≡ d.last_block + 1) (room : map_place d n < length x.blocks) (none : block_number x (map_place d n) ≡ 0) (free : least_free reserved < length reserved) where
  unfoldable pub taken : Extent
  taken = with_block x (map_place d n) (least_free reserved)

  unfoldable pub now_reserved : List Bool
  now_reserved = set reserved (least_free reserved) true

  pub take_answer : block_to_write d reserved (block_number x (map_place d n)) ≡ new_block (least_free reserved)
  unfolding block_to_write
  take_answer =
      let there : least_free reserved < d.last_block + 1 = omega arith in
      rw (none, le-ltb d.last_block 0 (omega arith), lt-ltb _ _ free, lt-ltb _ _ there) refl

  pub was_free : is_reserved reserved (least_free reserved) ≡ false
  unfolding is_reserved least_free
  was_free = not-true _ (passes_at_first not reserved true free)

  -- what was reserved still is
  pub still_reserved : (b : ℕ) → is_reserved reserved b ≡ true → is_reserved now_reserved b ≡ true
  unfolding is_reserved now_reserved
  still_reserved b h =
      elim (cases_eq b (least_free reserved)) [
        | inl e ↦ rw e (get_or-set_same reserved _ true true free)
        | inr n ↦ get_or-set_other reserved _ b true true n ∙ h
      ]

  still_stored : (b : ℕ) → IsFileBlock d reserved b → IsFileBlock d now_reserved b
  still_stored b h = record { within = h.within; outside = h.outside; kept = still_reserved b h.kept }

  new_stored : IsFileBlock d now_reserved (least_free reserved)
  unfolding is_reserved now_reserved
  new_stored = record {
    within = omega arith;
    outside = elim (cases_lt (least_free reserved * (d.block_mask + 1)) (directory_records d)) [
      | inl lt ↦ absurd (false≢true (sym was_free ∙ wf.directory _ lt))
      | inr ge ↦ ge
    ];
    kept = get_or-set_same reserved _ true true free;
  }

  pub fresh_there : least_free reserved ≢ 0
  fresh_there e = absurd (false≢true (sym was_free ∙ wf.directory _ (rw e (let h = format.has_directory in omega arith))))

  not_new : (b : ℕ) → IsFileBlock d reserved b → b ≢ least_free reserved
  not_new b h e = false≢true (sym was_free ∙ (rw e at h.kept))

  pub taken_own : block_number taken (map_place d n) ≡ least_free reserved
  unfolding block_number taken with_block
  taken_own = get_or-set_same x.blocks _ _ 0 room

  pub taken_other : (s : ℕ) → s ≢ map_place d n → block_number taken s ≡ block_number x s
  unfolding block_number taken with_block
  taken_other s h = get_or-set_other x.blocks _ s _ 0 h

  pub taken_name : taken.name ≡ x.name
  unfolding taken with_block
  taken_name = refl

  pub taken_number : extent_number taken ≡ extent_number x
  unfolding taken with_block extent_number
  taken_number = refl

  pub taken_count : taken.record_count ≡ x.record_count
  unfolding taken with_block
  taken_count = refl

  pub take_well_formed : IsWellFormed d es now_reserved
  take_well_formed = record {
    once = wf.once;
    stored = λ i s p h. still_stored _ (wf.stored i s p h);
    directory = λ b h. still_reserved b (wf.directory b h);
    apart = wf.apart;
  }

  -- a number of the extent with the block
  at_place : (s : ℕ) → ((s ≡ map_place d n) × (block_number taken s ≡ least_free reserved)) ⊎ ((s ≢ map_place d n) × (block_number taken s ≡ block_number x s))
  at_place s =
      elim (cases_eq s (map_place d n)) [ inl e ↦ inl (e, rw e taken_own) | inr h ↦ inr (h, taken_other s h) ]

  taken_once : (s t : ℕ) → block_number taken s ≢ 0 → block_number taken s ≡ block_number taken t → s ≡ t
  taken_once s t h e =
      elim (at_place s) [
        | inl a ↦ elim (at_place t) [
          | inl b ↦ a.0 ∙ sym b.0
          | inr b ↦ absurd (not_new _ (kept.stored t (λ z. h (e ∙ (b.1 ∙ z)))) (sym b.1 ∙ (sym e ∙ a.1)))
        ]
        | inr a ↦ elim (at_place t) [
          | inl b ↦ absurd (not_new _ (kept.stored s (λ z. h (a.1 ∙ z))) (sym a.1 ∙ (e ∙ b.1)))
          | inr b ↦ kept.once s t (λ z. h (a.1 ∙ z)) (sym a.1 ∙ (e ∙ b.1))
        ]
      ]

  taken_stored : (s : ℕ) → block_number taken s ≢ 0 → IsFileBlock d now_reserved (block_number taken s)
  taken_stored s h =
      elim (at_place s) [
        | inl a ↦ rw a.1 new_stored
        | inr a ↦ rw a.1 (still_stored _ (kept.stored s (λ z. h (a.1 ∙ z))))
      ]

  taken_apart : (j s t : ℕ) → InUse es j → j ≢ kept.index → block_number taken s ≢ 0 → block_number taken s ≢ block_number (entry_at es j).extent t
  taken_apart j s t p other h e =
      elim (at_place s) [
        | inl a ↦ not_new _ (wf.stored j t p (λ z. h (e ∙ z))) (sym e ∙ a.1)
        | inr a ↦ kept.apart j s t p other (λ z. h (a.1 ∙ z)) (sym a.1 ∙ e)
      ]

  taken_agrees : (s : ℕ) → block_number (entry_at es kept.index).extent s ≢ 0 → block_number taken s ≡ block_number (entry_at es kept.index).extent s
  taken_agrees s h =
      elim (at_place s) [
        | inl a ↦ absurd (h (sym (kept.agrees s h) ∙ (rw a.0 none)))
        | inr a ↦ a.1 ∙ kept.agrees s h
      ]

  pub take_kept : IsFcbKept d es now_reserved user taken
  unfolding taken with_block extent_number
  take_kept = record {
    index = kept.index;
    plain = kept.plain;
    owner = kept.owner;
    full = kept.full;
    once = taken_once;
    stored = taken_stored;
    apart = taken_apart;
    agrees = taken_agrees;
  }

  by_count : (count m : ℕ) → (block_if count (m % 128) taken (map_place d m) ≡ block_if count (m % 128) x (map_place d m)) ⊎ ((block_if count (m % 128) x (map_place d m) ≡ 0) × (block_if count (m % 128) taken (map_place d m) ≡ least_free reserved))
  unfolding block_if
  by_count count m =
      elim (cases_lt (m % 128) count) [
        | inl lt ↦ rw (lt-ltb _ _ lt) (elim (at_place (map_place d m)) [
          | inl a ↦ inr (rw a.0 none, a.1)
          | inr a ↦ inl a.1
        ])
        | inr ge ↦ rw (le-ltb _ _ ge) (inl refl)
      ]

  in_group : (m : ℕ) → group_of d (m / 128) ≡ group_of d (extent_number x) → open_file_block d es user taken m ≡ block_if (open_record_count (m / 128) x (entry_at es (first_of d es user x.name (group_of d (m / 128)))).extent) (m % 128) taken (map_place d m)
  unfolding open_file_block open_block taken with_block open_record_count extent_number
  in_group m g = rw (eq-eqb _ _ g) refl

  was_in_group : (m : ℕ) → group_of d (m / 128) ≡ group_of d (extent_number x) → open_file_block d es user x m ≡ block_if (open_record_count (m / 128) x (entry_at es (first_of d es user x.name (group_of d (m / 128)))).extent) (m % 128) x (map_place d m)
  unfolding open_file_block open_block
  was_in_group m g = rw (eq-eqb _ _ g) refl

  elsewhere : (m : ℕ) → group_of d (m / 128) ≢ group_of d (extent_number x) → open_file_block d es user taken m ≡ open_file_block d es user x m
  unfolding open_file_block taken with_block extent_number
  elsewhere m g = rw (ne_eqb _ _ g) refl

  -- the records that the file had keep their blocks; those that it newly has are in the new one
  pub take_blocks : (m : ℕ) → (open_file_block d es user taken m ≡ open_file_block d es user x m) ⊎ ((open_file_block d es user x m ≡ 0) × (open_file_block d es user taken m ≡ least_free reserved))
  take_blocks m =
      elim (cases_eq (group_of d (m / 128)) (group_of d (extent_number x))) [
        | inl g ↦ rw (in_group m g, was_in_group m g) (by_count _ m)
        | inr g ↦ inl (elsewhere m g)
      ]
