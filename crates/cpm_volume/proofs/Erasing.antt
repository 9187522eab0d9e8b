-- The law of an erase.
use Rattle.std.proofs.Common.{◌≡◌, ◌++◌, ◌≢◌, ℕ, ◌/◌, ◌%◌, ◌+◌, ◌<◌, ◌≤◌, Bool, true, false, not, cond, ◌&&◌, ◌||◌, eqb, ltb, List, [], ◌∷◌, None, length, get_or, map, sym, refl, ap, ◌∙◌, inl, inr, arith}
use Rattle.std.specs.List.{position_or_len, list_any}
use Rattle.std.proofs.lemmas.List.{get_or_past, get_or-map, length-map}
use Rattle.std.proofs.lemmas.List.Folds.{list_any_at}
use Rattle.std.proofs.lemmas.List.FromFn.{length-map-range_with_len, get_or-map-range_with_len}
use Rattle.std.proofs.lemmas.List.Sums.{fails_before_first}
use Rattle.std.proofs.lemmas.Bool.{false≢true, eqb-true, eq-eqb, ne_eqb, and_parts, and_from, and_left, or_left, or_right, cases_Bool, cases_lt, lt-ltb, le-ltb, false_from_ne_true}
use Rattle.cpm_geom.specs.declared.dpb.Dpb.{Dpb}
use Rattle.cpm_volume.specs.declared.extent.Entry.{Entry}
use Rattle.cpm_volume.specs.Files.{extent_number, group_of, same_name, name_matches, deleted, no_entry, entry_at, InUse, is_of, first_of, block_number, file_block, is_reserved, is_directory_block, IsFileBlock, IsFormat, record_in, file_record, Volume, IsSoundDrive}
use Rattle.cpm_volume.specs.Names.{is_named, first_named, is_read_only, change_named, named, protects, deletion, is_erased, reserved_after, named_writes, erase_files_on_volume}
use Rattle.cpm_volume.specs.NameLaws.{ErasesFiles, EraseLaw}
use Rattle.cpm_volume.proofs.Entries.{in_use_within, is_of_parts, first_of_passes, any_index}
use Rattle.cpm_volume.proofs.Making.{none_block}

-- a pattern matches two names that agree, or neither
same_matches : (pattern a b : List ℕ) → same_name a b ≡ true → name_matches pattern a ≡ name_matches pattern b
unfolding same_name name_matches
same_matches [] [] [] h = refl
same_matches [] [] (y ∷ b) h = absurd (false≢true h)
same_matches [] (x ∷ a) [] h = absurd (false≢true h)
same_matches [] (x ∷ a) (y ∷ b) h = refl
same_matches (p ∷ ps) [] [] h = refl
same_matches (p ∷ ps) [] (y ∷ b) h = absurd (false≢true h)
same_matches (p ∷ ps) (x ∷ a) [] h = absurd (false≢true h)
same_matches (p ∷ ps) (x ∷ a) (y ∷ b) h =
    let q = and_parts (eqb (x % 128) (y % 128)) (same_name a b) h in
    rw (eqb-true _ _ q.0, same_matches ps a b q.1) refl

-- what a match of a name says
named_parts : (user : ℕ) (pattern : List ℕ) (e : Entry) → is_named user pattern e ≡ true → (e.user ≡ user) × (name_matches pattern e.extent.name ≡ true)
unfolding is_named
named_parts user pattern e h =
    let p = and_parts (eqb e.user user) _ h in (eqb-true _ _ p.0, p.1)

named_from : (user : ℕ) (pattern : List ℕ) (e : Entry) → e.user ≡ user → name_matches pattern e.extent.name ≡ true → is_named user pattern e ≡ true
unfolding is_named
named_from user pattern e a b = and_from _ _ (eq-eqb _ _ a) b

no_entry_named : (user : ℕ) (pattern : List ℕ) → user ≢ deleted → is_named user pattern no_entry ≡ false
unfolding is_named no_entry
no_entry_named user pattern h = and_left _ _ (ne_eqb _ _ (λ e. h (sym e)))

-- the first that passes, where a change keeps what is tested
same_first : {X : Type 0} (p : X → Bool) (f : X → X) → ((x : X) → p (f x) ≡ p x) → (xs : List X) → position_or_len p (map f xs) ≡ position_or_len p xs
same_first p f h [] = refl
same_first p f h (x ∷ xs) =
    ap (λ b. cond (not b) (1 + position_or_len p (map f xs)) 0) (h x) ∙ ap (λ k. cond (not (p x)) (1 + k) 0) (same_first p f h xs)

-- an erased entry
change : ℕ → List ℕ → Entry → Entry
change user pattern e = cond (is_named user pattern e) (deletion e) e

changed_named : (user : ℕ) (pattern : List ℕ) (e : Entry) → is_named user pattern e ≡ true → (change user pattern e).user ≡ deleted
unfolding change deletion
changed_named user pattern e h = rw h refl

changed_other : (user : ℕ) (pattern : List ℕ) (e : Entry) → is_named user pattern e ≡ false → change user pattern e ≡ e
unfolding change
changed_other user pattern e h = rw h refl

module _ (d : Dpb) (user : ℕ) (v : Volume) (pattern : List ℕ) (user_ok : user ≢ deleted) (format : IsFormat d) (drive : IsSoundDrive d v) where
  unfoldable after : List Entry
  after = change_named user pattern deletion v.entries

  after_is : after ≡ map (change user pattern) v.entries
  unfolding after change_named change
  after_is = refl

  unfoldable freed_list : List Bool
  freed_list = reserved_after d user pattern v.entries v.reserved

  unfoldable volume_after : Volume
  volume_after =
      record v { entries = after; reserved = freed_list; written = v.written ++ named_writes user pattern 0 v.entries after }

  named_used : (i : ℕ) → is_named user pattern (entry_at v.entries i) ≡ true → InUse v.entries i
  named_used i h = record { used = λ e. user_ok (sym (named_parts user pattern _ h).0 ∙ e) }

  inside : (i : ℕ) → i < length v.entries → entry_at after i ≡ change user pattern (entry_at v.entries i)
  unfolding entry_at
  inside i h = rw after_is (get_or-map (change user pattern) v.entries i no_entry no_entry h)

  at_named : (i : ℕ) → is_named user pattern (entry_at v.entries i) ≡ true → (entry_at after i).user ≡ deleted
  at_named i h =
      ap (λ (e : Entry). e.user) (inside i (in_use_within v.entries i (named_used i h).used)) ∙ changed_named user pattern _ h

  outside : (i : ℕ) → length v.entries ≤ i → entry_at after i ≡ entry_at v.entries i
  unfolding entry_at
  outside i h =
      rw after_is (get_or_past (map (change user pattern) v.entries) i no_entry (rw (length-map v.entries) h) ∙ sym (get_or_past v.entries i no_entry h))

  at_other : (i : ℕ) → is_named user pattern (entry_at v.entries i) ≡ false → entry_at after i ≡ entry_at v.entries i
  at_other i h =
      elim (cases_lt i (length v.entries)) [
        | inl lt ↦ inside i lt ∙ changed_other user pattern _ h
        | inr ge ↦ outside i ge
      ]

  used_before : (i : ℕ) → InUse after i → (is_named user pattern (entry_at v.entries i) ≡ false) × InUse v.entries i
  used_before i h =
      elim (cases_Bool (is_named user pattern (entry_at v.entries i))) [
        | inl t ↦ absurd (h.used (at_named i t))
        | inr f ↦ (f, record { used = λ e. h.used (rw (at_other i f) e) })
      ]

  -- ---- the reserved blocks
  within : (b : ℕ) → b < length v.reserved → is_reserved freed_list b ≡ (is_reserved v.reserved b && (is_directory_block d b || not (is_erased user pattern v.entries b)))
  unfolding freed_list reserved_after is_reserved
  within b h =
      get_or-map-range_with_len (λ b. is_reserved v.reserved b && (is_directory_block d b || not (is_erased user pattern v.entries b))) 0 (length v.reserved) b b true h (omega arith)

  freed_length : length freed_list ≡ length v.reserved
  unfolding freed_list reserved_after
  freed_length = length-map-range_with_len (λ b. is_reserved v.reserved b && (is_directory_block d b || not (is_erased user pattern v.entries b))) 0 (length v.reserved)

  past : (b : ℕ) → length v.reserved ≤ b → is_reserved freed_list b ≡ true
  unfolding is_reserved
  past b h = get_or_past freed_list b true (rw freed_length h)

  still : (b : ℕ) → is_reserved v.reserved b ≡ true → (is_directory_block d b || not (is_erased user pattern v.entries b)) ≡ true → is_reserved freed_list b ≡ true
  still b a c =
      elim (cases_lt b (length v.reserved)) [ inl lt ↦ within b lt ∙ and_from _ _ a c | inr ge ↦ past b ge ]

  -- an erased block is a number of an erased entry
  erased_in : (b : ℕ) → is_erased user pattern v.entries b ≡ true → (i : ℕ) × (s : ℕ) × (is_named user pattern (entry_at v.entries i) ≡ true) × (block_number (entry_at v.entries i).extent s ≡ b)
  unfolding is_erased entry_at block_number
  erased_in b h =
      let parts = and_parts (ltb 0 b) _ h in
      let at_entry = any_index (λ e. is_named user pattern e && list_any (λ number. eqb number b) e.extent.blocks) v.entries no_entry parts.1 in
      let both = and_parts (is_named user pattern (get_or v.entries at_entry.0 no_entry)) _ at_entry.2 in
      let at_number = any_index (λ number. eqb number b) (get_or v.entries at_entry.0 no_entry).extent.blocks 0 both.1 in
      (at_entry.0, at_number.0, both.0, eqb-true _ _ at_number.2)

  not_erased : (i s : ℕ) → InUse v.entries i → is_named user pattern (entry_at v.entries i) ≡ false → block_number (entry_at v.entries i).extent s ≢ 0 → is_erased user pattern v.entries (block_number (entry_at v.entries i).extent s) ≡ false
  not_erased i s used other h =
      false_from_ne_true _ (λ t.
      let found = erased_in _ t in
      let same = drive.well_formed.once i found.0 s found.1 used (named_used found.0 found.2) h (sym found.3) in
      false≢true (sym other ∙ rw same.0 found.2))

  number_within : (e : Entry) (s : ℕ) → block_number e.extent s ≢ 0 → s < length e.extent.blocks
  unfolding block_number
  number_within e s h =
      elim (cases_lt s (length e.extent.blocks)) [
        | inl lt ↦ lt
        | inr ge ↦ absurd (h (get_or_past e.extent.blocks s 0 ge))
      ]

  has_number : (e : Entry) (s : ℕ) → block_number e.extent s ≢ 0 → list_any (λ number. eqb number (block_number e.extent s)) e.extent.blocks ≡ true
  unfolding block_number
  has_number e s h =
      list_any_at (λ number. eqb number (get_or e.extent.blocks s 0)) e.extent.blocks s 0 (number_within e s h) (eq-eqb _ _ refl)

  erased_number : (i s : ℕ) → is_named user pattern (entry_at v.entries i) ≡ true → block_number (entry_at v.entries i).extent s ≢ 0 → is_erased user pattern v.entries (block_number (entry_at v.entries i).extent s) ≡ true
  unfolding is_erased entry_at
  erased_number i s t h =
      and_from _ _ (lt-ltb 0 _ (omega arith)) (list_any_at (λ e. is_named user pattern e && list_any (λ number. eqb number (block_number (get_or v.entries i no_entry).extent s)) e.extent.blocks) v.entries i no_entry (in_use_within v.entries i (named_used i t).used) (and_from _ _ t (has_number (get_or v.entries i no_entry) s h)))

  freed_number : (i s : ℕ) → is_named user pattern (entry_at v.entries i) ≡ true → block_number (entry_at v.entries i).extent s ≢ 0 → is_reserved freed_list (block_number (entry_at v.entries i).extent s) ≡ false
  freed_number i s t h =
      let stored = drive.well_formed.stored i s (named_used i t) h in
      let low = stored.within in
      let size = drive.volume.blocks in
      let apart : is_directory_block d (block_number (entry_at v.entries i).extent s) ≡ false = false_from_ne_true _ (λ b. let l = (format.reserves (block_number (entry_at v.entries i).extent s)).0 b in let o = stored.outside in absurd (omega arith)) in
      within (block_number (entry_at v.entries i).extent s) (omega arith) ∙ rw (apart, erased_number i s t h, stored.kept) refl

  -- ---- the drive agrees with itself
  kept_stored : (i s : ℕ) → InUse after i → block_number (entry_at after i).extent s ≢ 0 → IsFileBlock d freed_list (block_number (entry_at after i).extent s)
  kept_stored i s used h =
      let was = used_before i used in
      let there : block_number (entry_at v.entries i).extent s ≢ 0 = λ z. h (rw (at_other i was.0) z) in
      let stored = drive.well_formed.stored i s was.1 there in
      rw (at_other i was.0) (record {
        within = stored.within;
        outside = stored.outside;
        kept = still _ stored.kept (or_right _ _ (ap not (not_erased i s was.1 was.0 there)));
      })

  kept_once : (i j s t : ℕ) → InUse after i → InUse after j → block_number (entry_at after i).extent s ≢ 0 → block_number (entry_at after i).extent s ≡ block_number (entry_at after j).extent t → (i ≡ j) × (s ≡ t)
  kept_once i j s t p q h e =
      let a = used_before i p in
      let b = used_before j q in
      drive.well_formed.once i j s t a.1 b.1 (λ z. h (rw (at_other i a.0) z)) (let e' = rw (at_other i a.0, at_other j b.0) at e in e')

  kept_apart : (i j : ℕ) → InUse after i → is_of d (entry_at after i).user (entry_at after i).extent.name (group_of d (extent_number (entry_at after i).extent)) (entry_at after j) ≡ true → i ≡ j
  kept_apart i j p h =
      let a = used_before i p in
      elim (cases_Bool (is_named user pattern (entry_at v.entries j))) [
        | inl t ↦ absurd (p.used (sym (is_of_parts d _ _ _ _ h).0 ∙ at_named j t))
        | inr f ↦ drive.well_formed.apart i j a.1 (rw (at_other i a.0, at_other j f) at h)
      ]

  kept_maps : (i : ℕ) → InUse after i → length (entry_at after i).extent.blocks ≡ 16
  kept_maps i p = let a = used_before i p in rw (at_other i a.0) (drive.volume.maps i a.1)

  sound_after : IsSoundDrive d volume_after
  unfolding volume_after
  sound_after = record {
    volume = record { blocks = freed_length ∙ drive.volume.blocks; space = drive.volume.space; maps = kept_maps };
    well_formed = record {
      once = kept_once;
      stored = kept_stored;
      directory = λ b h. still b (drive.well_formed.directory b h) (or_left _ _ ((format.reserves b).1 h));
      apart = kept_apart;
    };
  }

  -- ---- the files
  gone_entry : (name : List ℕ) (group j : ℕ) → name_matches pattern name ≡ true → is_of d user name group (entry_at after j) ≡ false
  gone_entry name group j matches =
      false_from_ne_true _ (λ t. elim (cases_Bool (is_named user pattern (entry_at v.entries j))) [
        | inl is ↦ user_ok (sym (is_of_parts d user name group (entry_at after j) t).0 ∙ at_named j is)
        | inr f ↦
            let old = is_of_parts d user name group (entry_at v.entries j) (rw (at_other j f) at t) in
            false≢true (sym f ∙ named_from user pattern (entry_at v.entries j) old.0 (sym (same_matches pattern name (entry_at v.entries j).extent.name old.1) ∙ matches))
      ])

  gone : (name : List ℕ) (m : ℕ) → name_matches pattern name ≡ true → file_record d volume_after.entries volume_after.records user name m ≡ None
  unfolding file_record record_in volume_after
  gone name m matches =
      rw (none_block d after user name m (λ j. gone_entry name (group_of d (m / 128)) j matches)) refl

  module _ (other : ℕ) (name : List ℕ) (ok : other ≢ deleted) (apart : other ≡ user → name_matches pattern name ≡ true → ⊥) where
    named_apart : (group : ℕ) (e : Entry) → is_named user pattern e ≡ true → is_of d other name group e ≡ false
    named_apart group e h =
        false_from_ne_true _ (λ t.
        let parts = is_of_parts d other name group e t in
        let own = named_parts user pattern e h in
        apart (sym parts.0 ∙ own.0) (same_matches pattern name _ parts.1 ∙ own.1))

    deleted_apart : (group : ℕ) (e : Entry) → e.user ≡ deleted → is_of d other name group e ≡ false
    deleted_apart group e h = false_from_ne_true _ (λ t. ok (sym (is_of_parts d other name group e t).0 ∙ h))

    same_test : (group : ℕ) (e : Entry) → is_of d other name group (change user pattern e) ≡ is_of d other name group e
    same_test group e =
        elim (cases_Bool (is_named user pattern e)) [
          | inl t ↦ deleted_apart group (change user pattern e) (changed_named user pattern e t) ∙ sym (named_apart group e t)
          | inr f ↦ rw (changed_other user pattern e f) refl
        ]

    same_place : (group : ℕ) → first_of d after other name group ≡ first_of d v.entries other name group
    unfolding first_of
    same_place group =
        rw after_is (same_first (is_of d other name group) (change user pattern) (same_test group) v.entries)

    same_entry : (group : ℕ) → entry_at after (first_of d v.entries other name group) ≡ entry_at v.entries (first_of d v.entries other name group)
    same_entry group =
        elim (cases_lt (first_of d v.entries other name group) (length v.entries)) [
          | inl lt ↦ at_other _ (false_from_ne_true _ (λ t. false≢true (sym (named_apart group _ t) ∙ first_of_passes d v.entries other name group lt)))
          | inr ge ↦ outside _ ge
        ]

    same_block : (m : ℕ) → file_block d after other name m ≡ file_block d v.entries other name m
    unfolding file_block
    same_block m = rw (same_place (group_of d (m / 128)), same_entry (group_of d (m / 128))) refl

    same_file : (m : ℕ) → file_record d volume_after.entries volume_after.records other name m ≡ file_record d v.entries v.records other name m
    unfolding file_record volume_after
    same_file m = rw (same_block m) refl

  erases_files : ErasesFiles d user v pattern volume_after
  unfolding volume_after
  erases_files = record {
    gone = gone;
    freed = freed_number;
    others = λ other name m ok apart. same_file other name ok apart m;
    sound = sound_after;
  }

  -- ---- the answers
  none_answer : length v.entries ≤ first_named v.entries user pattern → (i : ℕ) → is_named user pattern (entry_at v.entries i) ≡ false
  unfolding first_named entry_at
  none_answer h i =
      elim (cases_lt i (length v.entries)) [
        | inl lt ↦ fails_before_first (is_named user pattern) v.entries i no_entry (omega arith)
        | inr ge ↦ rw (get_or_past v.entries i no_entry ge) (no_entry_named user pattern user_ok)
      ]

  protected_entry : list_any (protects user pattern) v.entries ≡ true → (i : ℕ) × (is_named user pattern (entry_at v.entries i) ≡ true) × (is_read_only (entry_at v.entries i).extent.name ≡ true)
  unfolding protects entry_at
  protected_entry h =
      let found = any_index (protects user pattern) v.entries no_entry h in
      let parts = and_parts (is_named user pattern (get_or v.entries found.0 no_entry)) _ found.2 in
      (found.0, parts.0, parts.1)

  erased_answer : first_named v.entries user pattern < length v.entries → list_any (protects user pattern) v.entries ≡ false → erase_files_on_volume d v user pattern ≡ named (first_named v.entries user pattern) volume_after
  unfolding erase_files_on_volume volume_after after freed_list
  erased_answer there free = rw (lt-ltb _ _ there, free) refl

pub erases : EraseLaw
unfolding erase_files_on_volume
erases d user v pattern user_ok format drive =
    elim (cases_lt (first_named v.entries user pattern) (length v.entries)) [
      | inr past ↦ inl (rw (le-ltb _ _ past) refl, none_answer d user v pattern user_ok format drive past)
      | inl there ↦ elim (cases_Bool (list_any (protects user pattern) v.entries)) [
        | inl t ↦ inr (inl (rw (lt-ltb _ _ there, t) refl, protected_entry d user v pattern user_ok format drive t))
        | inr f ↦ inr (inr (first_named v.entries user pattern, volume_after d user v pattern user_ok format drive, erased_answer d user v pattern user_ok format drive there f, erases_files d user v pattern user_ok format drive))
      ]
    ]
