-- What a make leaves.
use Rattle.std.proofs.Common.{◌≡◌, ◌≢◌, ℕ, ◌/◌, ◌<◌, Bool, true, false, eqb, ltb, List, Some, length, set, replicate, sym, refl, ap, ◌∙◌, inl, inr, arith}
use Rattle.std.proofs.lemmas.List.{get_or-replicate, get_or_past, length-replicate}
use Rattle.std.proofs.lemmas.List.Sums.{passes_at_first}
use Rattle.std.proofs.lemmas.Bool.{false≢true, eqb-true, eq-eqb, ne_eqb, cases_eq, cases_lt, cases_Bool, lt-ltb, false_from_ne_true, cond_both}
use Rattle.cpm_geom.specs.declared.dpb.Dpb.{Dpb}
use Rattle.cpm_volume.specs.declared.extent.Extent.{Extent}
use Rattle.cpm_volume.specs.declared.extent.Entry.{Entry}
use Rattle.cpm_volume.specs.Files.{extent_number, group_of, same_name, has_wildcard, deleted, no_entry, entry_at, InUse, is_of, first_of, block_number, block_if, entry_block, file_block, open_block, open_file_block, IsFileBlock, IsWellFormed, IsFcbKept, first_free}
use Rattle.cpm_volume.specs.Operations.{made_extent, make_extent}
use Rattle.cpm_volume.proofs.Entries.{entry_at-set_same, entry_at-set_other, is_of_parts, is_of_from, first_of_is, first_of_passes, first_of_other, first_of-set}
use Rattle.cpm_volume.proofs.NameLemmas.{same_name-trans, same_name-sym, same_name-refl}

pub made_number : (x : Extent) (number : ℕ) → number < 512 → extent_number (made_extent x number) ≡ number
unfolding made_extent extent_number
made_number x number h = omega arith

pub made_name : (x : Extent) (number : ℕ) → (made_extent x number).name ≡ x.name
unfolding made_extent
made_name x number = refl

pub made_blocks : (x : Extent) (number s : ℕ) → block_number (made_extent x number) s ≡ 0
unfolding made_extent block_number
made_blocks x number s =
    elim (cases_lt s 16) [
      | inl lt ↦ get_or-replicate 16 s 0 0 lt
      | inr ge ↦ get_or_past (replicate 16 0) s 0 ge
    ]

-- an extent without blocks has no records
pub no_blocks : (count k place : ℕ) (x : Extent) → block_number x place ≡ 0 → block_if count k x place ≡ 0
unfolding block_if
no_blocks count k place x h = cond_both (ltb k count) _ _ (λ b. b ≡ 0) (λ _. h) (λ _. refl)

pub no_entry_block : (d : Dpb) (n : ℕ) → entry_block d no_entry n ≡ 0
unfolding entry_block no_entry block_number
no_entry_block d n = no_blocks _ _ _ _ refl

-- a file without an entry in the group has no records there
pub none_block : (d : Dpb) (es : List Entry) (user : ℕ) (name : List ℕ) (n : ℕ) → ((j : ℕ) → is_of d user name (group_of d (n / 128)) (entry_at es j) ≡ false) → file_block d es user name n ≡ 0
unfolding file_block entry_at
none_block d es user name n none =
    elim (cases_lt (first_of d es user name (group_of d (n / 128))) (length es)) [
      | inl lt ↦ absurd (false≢true (sym (none _) ∙ first_of_passes d es user name _ lt))
      | inr ge ↦ rw (get_or_past es (first_of d es user name (group_of d (n / 128))) no_entry ge) (no_entry_block d n)
    ]

module _ (d : Dpb) (es : List Entry) (reserved : List Bool) (user : ℕ) (x : Extent) (number : ℕ) (user_ok : user ≢ deleted) (plain : has_wildcard x.name ≡ false) (small : number < 512) (wf : IsWellFormed d es reserved) (none : (j : ℕ) → is_of d user x.name (group_of d number) (entry_at es j) ≡ false) (free : first_free es < length es) where
  unfoldable pub entry : Entry
  entry = record { user = user; extent = made_extent x number }

  unfoldable pub after : List Entry
  after = set es (first_free es) (record { user = user; extent = made_extent x number })

  pub make_answer : make_extent es user x number ≡ Some (after, made_extent x number)
  unfolding make_extent after
  make_answer = rw (lt-ltb _ _ free) refl

  pub free_user : (entry_at es (first_free es)).user ≡ deleted
  unfolding first_free entry_at
  free_user = eqb-true _ _ (passes_at_first (λ (e : Entry). eqb e.user deleted) es no_entry free)

  after_own : entry_at after (first_free es) ≡ record { user = user; extent = made_extent x number }
  unfolding after
  after_own = entry_at-set_same es _ _ free

  after_other : (j : ℕ) → j ≢ first_free es → entry_at after j ≡ entry_at es j
  unfolding after
  after_other j h = entry_at-set_other es _ j _ h

  used_before : (j : ℕ) → j ≢ first_free es → InUse after j → InUse es j
  used_before j n h = record { used = λ e. h.used (rw (after_other j n) e) }

  own_numbers : (s : ℕ) → block_number (entry_at after (first_free es)).extent s ≡ 0
  own_numbers s = rw after_own (made_blocks x number s)

  once_after : (i j s t : ℕ) → InUse after i → InUse after j → block_number (entry_at after i).extent s ≢ 0 → block_number (entry_at after i).extent s ≡ block_number (entry_at after j).extent t → (i ≡ j) × (s ≡ t)
  once_after i j s t p q h e =
      elim (cases_eq i (first_free es)) [
        | inl a ↦ absurd (h (rw (a, own_numbers s) refl))
        | inr a ↦ elim (cases_eq j (first_free es)) [
          | inl b ↦ absurd (h (e ∙ rw (b, own_numbers t) refl))
          | inr b ↦ wf.once i j s t (used_before i a p) (used_before j b q) (λ z. h (rw (after_other i a) z)) (let e' = rw (after_other i a, after_other j b) at e in e')
        ]
      ]

  stored_after : (i s : ℕ) → InUse after i → block_number (entry_at after i).extent s ≢ 0 → IsFileBlock d reserved (block_number (entry_at after i).extent s)
  stored_after i s p h =
      elim (cases_eq i (first_free es)) [
        | inl a ↦ absurd (h (rw (a, own_numbers s) refl))
        | inr a ↦ rw (after_other i a) (wf.stored i s (used_before i a p) (λ z. h (rw (after_other i a) z)))
      ]

  -- the new entry is of a file as a `made` extent says
  is_of_new : (v : ℕ) (name : List ℕ) (group : ℕ) → is_of d v name group (entry_at after (first_free es)) ≡ true → (v ≡ user) × (same_name name x.name ≡ true) × (group ≡ group_of d number)
  is_of_new v name group h =
      let p = is_of_parts d v name group _ (rw after_own at h) in
      (sym p.0, (rw (made_name x number) at p.1), sym p.2 ∙ ap (group_of d) (made_number x number small))

  apart_after : (i j : ℕ) → InUse after i → is_of d (entry_at after i).user (entry_at after i).extent.name (group_of d (extent_number (entry_at after i).extent)) (entry_at after j) ≡ true → i ≡ j
  apart_after i j p h =
      elim (cases_eq i (first_free es)) [
        | inl a ↦ elim (cases_eq j (first_free es)) [
          | inl b ↦ a ∙ sym b
          | inr b ↦ absurd (false≢true (sym (none j) ∙ (let h' = rw (a, after_own, made_number x number small, made_name x number, after_other j b) at h in h')))
        ]
        | inr a ↦ elim (cases_eq j (first_free es)) [
          | inl b ↦ absurd (
              let q = is_of_new _ _ _ (rw (b, after_other i a) at h) in
              false≢true (sym (none i) ∙ is_of_from d user x.name _ (entry_at es i) q.0 (same_name-sym _ _ q.1) q.2))
          | inr b ↦ wf.apart i j (used_before i a p) (rw (after_other i a, after_other j b) at h)
        ]
      ]

  pub make_well_formed : IsWellFormed d after reserved
  make_well_formed = record { once = once_after; stored = stored_after; directory = wf.directory; apart = apart_after }

  new_is_of : (name : List ℕ) → same_name name x.name ≡ true → is_of d user name (group_of d number) (entry_at after (first_free es)) ≡ true
  new_is_of name same = rw after_own (is_of_from d user name _ (record { user = user; extent = made_extent x number }) refl (rw (made_name x number) same) (ap (group_of d) (made_number x number small)))

  pub make_kept : IsFcbKept d after reserved user (made_extent x number)
  make_kept = record {
    index = first_free es;
    plain = rw (made_name x number) plain;
    owner = rw (made_number x number small, made_name x number) (new_is_of x.name (same_name-refl _));
    full = λ h. absurd (let e = ap (λ (f : Entry). extent_number f.extent) after_own in omega arith);
    once = λ s t h e. absurd (h (made_blocks x number s));
    stored = λ s h. absurd (h (made_blocks x number s));
    apart = λ j s t p n h e. absurd (h (made_blocks x number s));
    agrees = λ s h. absurd (h (own_numbers s));
  }

  new_block : (n : ℕ) → entry_block d (record { user = user; extent = made_extent x number }) n ≡ 0
  unfolding entry_block
  new_block n = no_blocks _ _ _ _ (made_blocks x number _)

  one_new : (v : ℕ) (name : List ℕ) (group j : ℕ) → is_of d v name group (entry_at after (first_free es)) ≡ true → is_of d v name group (entry_at after j) ≡ true → j ≡ first_free es
  one_new v name group j t u =
      elim (cases_eq j (first_free es)) [
        | inl e ↦ e
        | inr n ↦ absurd (
            let q = is_of_new v name group t in
            let p = is_of_parts d v name group _ (rw (after_other j n) at u) in
            false≢true (sym (none j) ∙ is_of_from d user x.name _ (entry_at es j) (p.0 ∙ q.0) (same_name-trans _ _ _ (same_name-sym _ _ q.1) (same_name-sym _ _ p.1)) (p.2 ∙ q.2)))
      ]

  same_first : (v : ℕ) (name : List ℕ) (n : ℕ) → first_of d after v name (group_of d (n / 128)) ≡ first_of d es v name (group_of d (n / 128)) → first_of d es v name (group_of d (n / 128)) ≢ first_free es → file_block d after v name n ≡ file_block d es v name n
  unfolding file_block
  same_first v name n keys other = rw (keys, after_other _ other) refl

  -- every file in the directory stays
  pub make_files : (v : ℕ) (name : List ℕ) (n : ℕ) → v ≢ deleted → file_block d after v name n ≡ file_block d es v name n
  unfolding file_block after
  make_files v name n ok =
      let before : is_of d v name (group_of d (n / 128)) (entry_at es (first_free es)) ≡ false = false_from_ne_true _ (λ t. ok (sym (is_of_parts d v name _ _ t).0 ∙ free_user)) in
      elim (cases_Bool (is_of d v name (group_of d (n / 128)) (entry_at after (first_free es)))) [
        | inl t ↦
            let q = is_of_new v name _ t in
            let first : first_of d after v name (group_of d (n / 128)) ≡ first_free es = first_of_is d after v name _ (first_free es) ok t (λ j u. one_new v name (group_of d (n / 128)) j t u) in
            rw (first, after_own) (new_block n ∙ sym (none_block d es v name n (λ j. false_from_ne_true _ (λ u.
            let r = is_of_parts d v name _ _ u in
            false≢true (sym (none j) ∙ is_of_from d user x.name _ (entry_at es j) (r.0 ∙ q.0) (same_name-trans _ _ _ (same_name-sym _ _ q.1) (same_name-sym _ _ r.1)) (r.2 ∙ q.2))))))
        | inr f ↦
            let keys = first_of-set d es v name (group_of d (n / 128)) (first_free es) (record { user = user; extent = made_extent x number }) ((let f' = rw after_own at f in f') ∙ sym before) in
            let other = first_of_other d es v name (group_of d (n / 128)) (first_free es) free before in
            same_first v name n keys other
      ]

  -- the new extent's file is that of the directory
  pub make_file : (n : ℕ) → open_file_block d after user (made_extent x number) n ≡ file_block d es user x.name n
  unfolding open_file_block open_block
  make_file n =
      elim (cases_eq (group_of d (n / 128)) (group_of d number)) [
        | inl g ↦ rw (made_number x number small, eq-eqb _ _ g) (no_blocks _ _ _ _ (made_blocks x number _) ∙ sym (none_block d es user x.name n (λ j. rw g (none j))))
        | inr g ↦ rw (made_number x number small, ne_eqb _ _ g, made_name x number) (make_files user x.name n user_ok)
      ]

  pub make_maps : ((i : ℕ) → InUse es i → length (entry_at es i).extent.blocks ≡ 16) → (i : ℕ) → InUse after i → length (entry_at after i).extent.blocks ≡ 16
  unfolding made_extent
  make_maps maps i used =
      elim (cases_eq i (first_free es)) [
        | inl a ↦ rw (a, after_own) (length-replicate {A = ℕ} 16 0)
        | inr a ↦ rw (after_other i a) (maps i (used_before i a used))
      ]
