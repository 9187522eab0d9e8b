-- What a close leaves.
use Rattle.std.proofs.Common.{◌≡◌, ◌≢◌, ◌⊎◌, ℕ, ◌/◌, ◌<◌, ◌≤◌, Bool, true, false, not, ◌&&◌, cond, eqb, List, [], ◌∷◌, length, get_or, set, sym, refl, ap, ap₂, ◌∙◌, inl, inr, arith}
use Rattle.std.proofs.lemmas.List.{set-get_or, length-set}
use Rattle.std.proofs.lemmas.Bool.{false≢true, eq-eqb, eqb-true, ne_eqb, and_parts, cases_eq, cases_lt, cases_Bool, lt-ltb, le-ltb, false_from_ne_true}
use Rattle.cpm_geom.specs.declared.dpb.Dpb.{Dpb}
use Rattle.cpm_volume.specs.declared.extent.Extent.{Extent}
use Rattle.cpm_volume.specs.declared.extent.Entry.{Entry}
use Rattle.cpm_volume.specs.Files.{extent_number, group_of, map_place, same_name, deleted, entry_at, InUse, is_of, first_of, first_match, record_count_of, open_record_count, block_number, block_if, entry_block, file_block, open_block, open_file_block, IsFileBlock, IsWellFormed, IsFcbKept, no_entry}
use Rattle.cpm_volume.specs.Operations.{closed_entry, close_extent, closed, close_fault, read_only, is_unchanged, same_numbers}
use Rattle.cpm_volume.proofs.Entries.{entry_at-set_same, entry_at-set_other, in_use_within, is_of_parts, is_of_from, is_of_same, first_of_is, first_of_other, first_of-set}
use Rattle.cpm_volume.proofs.NameLemmas.{first_match_plain, same_name-trans, same_name-sym, same_name-refl}
use Rattle.cpm_volume.proofs.Maps.{agree_covering, merged_covering, no_bad_block, open_count_newer, open_count_older}

-- a closed entry's user, name, number and map
pub closed_user : (e : Entry) (x : Extent) → (closed_entry e x).user ≡ e.user
unfolding closed_entry
closed_user e x = refl

pub closed_older : (e : Entry) (x : Extent) → extent_number x < extent_number e.extent → closed_entry e x ≡ record e { extent = record e.extent { blocks = x.blocks } }
unfolding closed_entry
closed_older e x h = rw (lt-ltb _ _ h) refl

pub closed_newer : (e : Entry) (x : Extent) → extent_number e.extent ≤ extent_number x → closed_entry e x ≡ record e { extent = record e.extent { ex = x.ex; s2 = x.s2; record_count = x.record_count; blocks = x.blocks } }
unfolding closed_entry
closed_newer e x h = rw (le-ltb _ _ h) refl

pub closed_name : (e : Entry) (x : Extent) → (closed_entry e x).extent.name ≡ e.extent.name
closed_name e x =
    elim (cases_lt (extent_number x) (extent_number e.extent)) [
      | inl lt ↦ rw (closed_older e x lt) refl
      | inr ge ↦ rw (closed_newer e x ge) refl
    ]

pub closed_blocks : (e : Entry) (x : Extent) (s : ℕ) → block_number (closed_entry e x).extent s ≡ block_number x s
unfolding block_number
closed_blocks e x s =
    elim (cases_lt (extent_number x) (extent_number e.extent)) [
      | inl lt ↦ rw (closed_older e x lt) refl
      | inr ge ↦ rw (closed_newer e x ge) refl
    ]

pub closed_map : (e : Entry) (x : Extent) → (closed_entry e x).extent.blocks ≡ x.blocks
closed_map e x =
    elim (cases_lt (extent_number x) (extent_number e.extent)) [
      | inl lt ↦ rw (closed_older e x lt) refl
      | inr ge ↦ rw (closed_newer e x ge) refl
    ]

number_older : (e : Entry) (x : Extent) → extent_number x < extent_number e.extent → extent_number (closed_entry e x).extent ≡ extent_number e.extent
unfolding extent_number
number_older e x h = ap (λ (f : Entry). extent_number f.extent) (closed_older e x h)

number_newer : (e : Entry) (x : Extent) → extent_number e.extent ≤ extent_number x → extent_number (closed_entry e x).extent ≡ extent_number x
unfolding extent_number
number_newer e x h = ap (λ (f : Entry). extent_number f.extent) (closed_newer e x h)

pub closed_group : (d : Dpb) (e : Entry) (x : Extent) → group_of d (extent_number e.extent) ≡ group_of d (extent_number x) → group_of d (extent_number (closed_entry e x).extent) ≡ group_of d (extent_number e.extent)
closed_group d e x h =
    elim (cases_lt (extent_number x) (extent_number e.extent)) [
      | inl lt ↦ ap (group_of d) (number_older e x lt)
      | inr ge ↦ ap (group_of d) (number_newer e x ge) ∙ sym h
    ]

-- the counts of a closed entry are those of the file control block
pub closed_count : (number : ℕ) (e : Entry) (x : Extent) → (extent_number x < extent_number e.extent → x.record_count ≡ 128) → record_count_of number (extent_number (closed_entry e x).extent) (closed_entry e x).extent.record_count ≡ open_record_count number x e.extent
closed_count number e x full =
    elim (cases_lt (extent_number x) (extent_number e.extent)) [
      | inl lt ↦ rw (number_older e x lt, closed_older e x lt) (sym (open_count_older number x e.extent lt (full lt)))
      | inr ge ↦ rw (number_newer e x ge, closed_newer e x ge) (sym (open_count_newer number x e.extent ge))
    ]

-- so its blocks are the file control block's
pub closed_block : (d : Dpb) (e : Entry) (x : Extent) (n : ℕ) → (extent_number x < extent_number e.extent → x.record_count ≡ 128) → entry_block d (closed_entry e x) n ≡ open_block d x e.extent n
unfolding entry_block open_block block_if
closed_block d e x n full = rw (closed_count (n / 128) e x full, closed_blocks e x (map_place d n)) refl

same_counts : (number : ℕ) (x e : Extent) (blocks : List ℕ) → open_record_count number x (record e { blocks = blocks }) ≡ open_record_count number x e
unfolding open_record_count record_count_of extent_number
same_counts number x e blocks = refl

-- two lists that are tested as equal
same_numbers-true : (xs ys : List ℕ) → same_numbers xs ys ≡ true → xs ≡ ys
unfolding same_numbers
same_numbers-true [] [] h = refl
same_numbers-true [] (y ∷ ys) h = absurd (false≢true h)
same_numbers-true (x ∷ xs) [] h = absurd (false≢true h)
same_numbers-true (x ∷ xs) (y ∷ ys) h =
    let p = and_parts _ _ h in ap₂ (λ a b. a ∷ b) (eqb-true _ _ p.0) (same_numbers-true xs ys p.1)

same_fields : (e : Entry) (x : Extent) → e.extent.ex ≡ x.ex → e.extent.s2 ≡ x.s2 → e.extent.record_count ≡ x.record_count → e.extent.blocks ≡ x.blocks → record e { extent = record e.extent { ex = x.ex; s2 = x.s2; record_count = x.record_count; blocks = x.blocks } } ≡ e
same_fields e x a b c f =
    ap₂ (λ (p q : ℕ × ℕ). record e { extent = record e.extent { ex = p.0; s2 = p.1; record_count = q.0; blocks = x.blocks } }) (ap₂ (λ m n. (m, n)) (sym a) (sym b)) (ap (λ k. (k, 0)) (sym c)) ∙ ap (λ k. record e { extent = record e.extent { blocks = k } }) (sym f)

-- closing again changes no count
count_closed : (number : ℕ) (e : Entry) (x : Extent) → open_record_count number x (closed_entry e x).extent ≡ open_record_count number x e.extent
count_closed number e x =
    elim (cases_lt (extent_number x) (extent_number e.extent)) [
      | inl lt ↦ rw (closed_older e x lt) (same_counts number x e.extent x.blocks)
      | inr ge ↦ open_count_newer number x (closed_entry e x).extent (let n = number_newer e x ge in omega arith) ∙ sym (open_count_newer number x e.extent ge)
    ]

-- an entry whose fields a close leaves is as it was
unchanged_parts : (x y : Extent) → is_unchanged x y ≡ true → (x.ex ≡ y.ex) × (x.s2 ≡ y.s2) × (x.record_count ≡ y.record_count) × (x.blocks ≡ y.blocks)
unfolding is_unchanged
unchanged_parts x y h =
    let p = and_parts (eqb x.ex y.ex) _ h in
    let q = and_parts (eqb x.s2 y.s2) _ p.1 in
    let r = and_parts (eqb x.record_count y.record_count) (same_numbers x.blocks y.blocks) q.1 in
    (eqb-true _ _ p.0, eqb-true _ _ q.0, eqb-true _ _ r.0, same_numbers-true x.blocks y.blocks r.1)

older_same : (e : Entry) (x : Extent) → extent_number x < extent_number e.extent → is_unchanged e.extent (closed_entry e x).extent ≡ true → closed_entry e x ≡ e
older_same e x lt h =
    let p = unchanged_parts e.extent (record e.extent { blocks = x.blocks }) (rw (closed_older e x lt) at h) in
    closed_older e x lt ∙ ap (λ b. record e { extent = record e.extent { blocks = b } }) (sym p.3)

newer_same : (e : Entry) (x : Extent) → extent_number e.extent ≤ extent_number x → is_unchanged e.extent (closed_entry e x).extent ≡ true → closed_entry e x ≡ e
newer_same e x ge h =
    let p = unchanged_parts e.extent (record e.extent { ex = x.ex; s2 = x.s2; record_count = x.record_count; blocks = x.blocks }) (rw (closed_newer e x ge) at h) in
    closed_newer e x ge ∙ same_fields e x p.0 p.1 p.2 p.3

same_entry : (e : Entry) (x : Extent) → is_unchanged e.extent (closed_entry e x).extent ≡ true → closed_entry e x ≡ e
same_entry e x h =
    elim (cases_lt (extent_number x) (extent_number e.extent)) [
      | inl lt ↦ older_same e x lt h
      | inr ge ↦ newer_same e x ge h
    ]

-- ---- a file control block that fits a well-formed directory
module _ (d : Dpb) (es : List Entry) (reserved : List Bool) (user : ℕ) (x : Extent) (user_ok : user ≢ deleted) (wf : IsWellFormed d es reserved) (kept : IsFcbKept d es reserved user x) where
  own : Entry
  own = entry_at es kept.index

  unfoldable pub after : List Entry
  after = set es kept.index (closed_entry (entry_at es kept.index) x)

  own_parts : ((entry_at es kept.index).user ≡ user) × (same_name x.name (entry_at es kept.index).extent.name ≡ true) × (group_of d (extent_number (entry_at es kept.index).extent) ≡ group_of d (extent_number x))
  own_parts = is_of_parts d user x.name _ _ kept.owner

  own_used : InUse es kept.index
  own_used = record { used = λ e. user_ok (sym own_parts.0 ∙ e) }

  pub same_length : length after ≡ length es
  unfolding after
  same_length = length-set es _ _

  own_within : kept.index < length es
  own_within = in_use_within es kept.index own_used.used

  -- two entries of one user, name and group are one
  only : (v : ℕ) (name : List ℕ) (group i j : ℕ) → v ≢ deleted → is_of d v name group (entry_at es i) ≡ true → is_of d v name group (entry_at es j) ≡ true → i ≡ j
  only v name group i j ok p q =
      let a = is_of_parts d v name group _ p in
      let b = is_of_parts d v name group _ q in
      wf.apart i j (record { used = λ e. ok (sym a.0 ∙ e) }) (is_of_from d _ _ _ _ (b.0 ∙ sym a.0) (same_name-trans _ _ _ (same_name-sym _ _ a.1) (same_name-sym _ _ b.1)) (b.2 ∙ sym a.2))

  own_first : (name : List ℕ) → same_name name x.name ≡ true → first_of d es user name (group_of d (extent_number x)) ≡ kept.index
  own_first name same =
      let p : is_of d user name (group_of d (extent_number x)) (entry_at es kept.index) ≡ true = is_of_from d _ _ _ _ own_parts.0 (same_name-trans _ _ _ same (same_name-sym _ _ own_parts.1)) own_parts.2 in
      first_of_is d es user name _ kept.index user_ok p (λ j q. only user name _ j kept.index user_ok q p)

  -- the keys of the entries stay
  same_keys : (v : ℕ) (name : List ℕ) (group : ℕ) → first_of d after v name group ≡ first_of d es v name group
  unfolding after
  same_keys v name group =
      first_of-set d es v name group kept.index _ (is_of_same d v name group _ _ (closed_user _ x) (closed_name _ x) (closed_group d _ x own_parts.2))

  after_own : entry_at after kept.index ≡ closed_entry (entry_at es kept.index) x
  unfolding after
  after_own = entry_at-set_same es kept.index _ own_within

  after_other : (j : ℕ) → j ≢ kept.index → entry_at after j ≡ entry_at es j
  unfolding after
  after_other j h = entry_at-set_other es kept.index j _ h

  -- the entries of other keys stay
  stays : (v : ℕ) (name : List ℕ) (n : ℕ) → is_of d v name (group_of d (n / 128)) (entry_at es kept.index) ≡ false → file_block d after v name n ≡ file_block d es v name n
  unfolding file_block
  stays v name n h =
      let other = first_of_other d es v name (group_of d (n / 128)) kept.index own_within h in
      rw (same_keys v name (group_of d (n / 128)), after_other _ other) refl

  -- so do all files of another user or name
  pub others : (v : ℕ) (name : List ℕ) → (v ≡ user → same_name name x.name ≡ true → ⊥) → (n : ℕ) → file_block d after v name n ≡ file_block d es v name n
  others v name apart n =
      stays v name n (false_from_ne_true _ (λ t.
      let p = is_of_parts d v name _ _ t in
      apart (sym p.0 ∙ own_parts.0) (same_name-trans _ _ _ p.1 own_parts.1)))

  -- the file in the directory is now what the file control block knew
  group_own : (n : ℕ) → group_of d (n / 128) ≡ group_of d (extent_number x) → file_block d after user x.name n ≡ open_file_block d es user x n
  unfolding file_block open_file_block
  group_own n h =
      let f : first_of d es user x.name (group_of d (n / 128)) ≡ kept.index = rw h (own_first x.name (same_name-refl x.name)) in
      rw (same_keys user x.name (group_of d (n / 128)), f, after_own, eq-eqb _ _ h) (closed_block d _ x n kept.full)

  group_other : (n : ℕ) → group_of d (n / 128) ≢ group_of d (extent_number x) → file_block d after user x.name n ≡ open_file_block d es user x n
  unfolding open_file_block
  group_other n h =
      let f : is_of d user x.name (group_of d (n / 128)) (entry_at es kept.index) ≡ false = false_from_ne_true _ (λ t. h (sym (is_of_parts d user x.name _ _ t).2 ∙ own_parts.2)) in
      rw (ne_eqb _ _ h) (stays user x.name n f)

  pub same_file : (n : ℕ) → file_block d after user x.name n ≡ open_file_block d es user x n
  same_file n =
      elim (cases_eq (group_of d (n / 128)) (group_of d (extent_number x))) [ inl h ↦ group_own n h | inr h ↦ group_other n h ]

  -- an entry in use is now the file control block's or was in use
  pub used_before : (j : ℕ) → InUse after j → InUse es j
  used_before j h =
      elim (cases_eq j kept.index) [
        | inl e ↦ rw e own_used
        | inr n ↦ record { used = λ e. h.used (rw (after_other j n) e) }
      ]

  numbers_own : (s : ℕ) → block_number (entry_at after kept.index).extent s ≡ block_number x s
  numbers_own s = rw after_own (closed_blocks _ x s)

  numbers_other : (j s : ℕ) → j ≢ kept.index → block_number (entry_at after j).extent s ≡ block_number (entry_at es j).extent s
  numbers_other j s h = rw (after_other j h) refl

  once_after : (i j s t : ℕ) → InUse after i → InUse after j → block_number (entry_at after i).extent s ≢ 0 → block_number (entry_at after i).extent s ≡ block_number (entry_at after j).extent t → (i ≡ j) × (s ≡ t)
  once_after i j s t p q h e =
      elim (cases_eq i kept.index) [
        | inl a ↦ elim (cases_eq j kept.index) [
          | inl b ↦ (a ∙ sym b, kept.once s t (λ z. h (rw (a, numbers_own s) z)) (let e' = rw (a, b, numbers_own s, numbers_own t) at e in e'))
          | inr b ↦ absurd (kept.apart j s t (used_before j q) b (λ z. h (rw (a, numbers_own s) z)) (let e' = rw (a, numbers_own s, numbers_other j t b) at e in e'))
        ]
        | inr a ↦ elim (cases_eq j kept.index) [
          | inl b ↦ absurd (kept.apart i t s (used_before i p) a (λ z. h (e ∙ rw (b, numbers_own t) z)) (let e' = rw (b, numbers_own t, numbers_other i s a) at e in sym e'))
          | inr b ↦ wf.once i j s t (used_before i p) (used_before j q) (λ z. h (rw (numbers_other i s a) z)) (let e' = rw (numbers_other i s a, numbers_other j t b) at e in e')
        ]
      ]

  stored_after : (i s : ℕ) → InUse after i → block_number (entry_at after i).extent s ≢ 0 → IsFileBlock d reserved (block_number (entry_at after i).extent s)
  stored_after i s p h =
      elim (cases_eq i kept.index) [
        | inl a ↦ rw (a, numbers_own s) (kept.stored s (λ z. h (rw (a, numbers_own s) z)))
        | inr a ↦ rw (numbers_other i s a) (wf.stored i s (used_before i p) (λ z. h (rw (numbers_other i s a) z)))
      ]

  users_same : (j : ℕ) → (entry_at after j).user ≡ (entry_at es j).user
  users_same j = elim (cases_eq j kept.index) [ inl a ↦ rw (a, after_own) (closed_user _ x) | inr a ↦ rw (after_other j a) refl ]

  names_same : (j : ℕ) → (entry_at after j).extent.name ≡ (entry_at es j).extent.name
  names_same j = elim (cases_eq j kept.index) [ inl a ↦ rw (a, after_own) (closed_name _ x) | inr a ↦ rw (after_other j a) refl ]

  groups_same : (j : ℕ) → group_of d (extent_number (entry_at after j).extent) ≡ group_of d (extent_number (entry_at es j).extent)
  groups_same j = elim (cases_eq j kept.index) [ inl a ↦ rw (a, after_own) (closed_group d _ x own_parts.2) | inr a ↦ rw (after_other j a) refl ]

  apart_after : (i j : ℕ) → InUse after i → is_of d (entry_at after i).user (entry_at after i).extent.name (group_of d (extent_number (entry_at after i).extent)) (entry_at after j) ≡ true → i ≡ j
  apart_after i j p h =
      wf.apart i j (used_before i p) (
      sym (is_of_same d _ _ _ (entry_at after j) (entry_at es j) (users_same j) (names_same j) (groups_same j)) ∙ (rw (users_same i, names_same i, groups_same i) at h))

  pub well_formed_after : IsWellFormed d after reserved
  well_formed_after = record { once = once_after; stored = stored_after; directory = wf.directory; apart = apart_after }

  pub kept_after : IsFcbKept d after reserved user x
  kept_after = record {
    index = kept.index;
    plain = kept.plain;
    owner = is_of_same d user x.name _ (entry_at after kept.index) (entry_at es kept.index) (users_same _) (names_same _) (groups_same _) ∙ kept.owner;
    full = λ h. elim (cases_lt (extent_number x) (extent_number (entry_at es kept.index).extent)) [
      | inl lt ↦ kept.full lt
      | inr ge ↦ absurd (let n = number_newer (entry_at es kept.index) x ge in let e = ap (λ (f : Entry). extent_number f.extent) after_own in omega arith)
    ];
    once = kept.once;
    stored = kept.stored;
    apart = λ j s t p n h e. kept.apart j s t (used_before j p) n h (e ∙ numbers_other j t n);
    agrees = λ s h. sym (numbers_own s);
  }

  -- what the close answers
  by_protection : (protected : Bool) → close_extent d protected es user x ≡ cond (protected && not (is_unchanged (entry_at es kept.index).extent (closed_entry (entry_at es kept.index) x).extent)) (close_fault read_only) (closed kept.index after x)
  unfolding close_extent after block_number
  by_protection protected =
      let f : first_match d es user x.name (group_of d (extent_number x)) ≡ kept.index = first_match_plain d es user x.name _ kept.plain ∙ own_first x.name (same_name-refl x.name) in
      let covers : (s : ℕ) → get_or (entry_at es kept.index).extent.blocks s 0 ≢ 0 → get_or x.blocks s 0 ≡ get_or (entry_at es kept.index).extent.blocks s 0 = kept.agrees in
      let good = no_bad_block d x.blocks (λ s. elim (cases_eq (get_or x.blocks s 0) 0) [ inl z ↦ omega arith | inr n ↦ (kept.stored s n).within ]) in
      rw (f, lt-ltb _ _ own_within, good, agree_covering _ _ covers, merged_covering _ _ covers) refl

  pub answer_free : close_extent d false es user x ≡ closed kept.index after x
  answer_free = by_protection false

  -- on a protected drive a close that goes through changes nothing
  unchanged_after : is_unchanged (entry_at es kept.index).extent (closed_entry (entry_at es kept.index) x).extent ≡ true → after ≡ es
  unfolding after entry_at
  unchanged_after h = rw (same_entry (entry_at es kept.index) x h) (set-get_or es kept.index no_entry)

  pub answer : (protected : Bool) → ((close_extent d protected es user x ≡ closed kept.index after x) × (protected ≡ true → after ≡ es)) ⊎ ((protected ≡ true) × (close_extent d protected es user x ≡ close_fault read_only))
  answer false = inl (by_protection false, λ e. absurd (false≢true e))
  answer true =
      elim (cases_Bool (is_unchanged (entry_at es kept.index).extent (closed_entry (entry_at es kept.index) x).extent)) [
        | inl t ↦ inl (rw (by_protection true, t) refl, λ _. unchanged_after t)
        | inr f ↦ inr (refl, rw (by_protection true, f) refl)
      ]

  -- the file control block knows the same file
  same_count : (number : ℕ) → open_record_count number x (entry_at after kept.index).extent ≡ open_record_count number x (entry_at es kept.index).extent
  same_count number = rw after_own (count_closed number (entry_at es kept.index) x)

  pub same_open : (n : ℕ) → open_file_block d after user x n ≡ open_file_block d es user x n
  unfolding open_file_block open_block
  same_open n =
      elim (cases_eq (group_of d (n / 128)) (group_of d (extent_number x))) [
        | inl g ↦
            let f : first_of d es user x.name (group_of d (n / 128)) ≡ kept.index = rw g (own_first x.name (same_name-refl x.name)) in
            rw (eq-eqb _ _ g, same_keys user x.name (group_of d (n / 128)), f, same_count (n / 128)) refl
        | inr g ↦
            let f : is_of d user x.name (group_of d (n / 128)) (entry_at es kept.index) ≡ false = false_from_ne_true _ (λ t. g (sym (is_of_parts d user x.name _ _ t).2 ∙ own_parts.2)) in
            rw (ne_eqb _ _ g) (stays user x.name n f)
      ]

  pub maps_after : length x.blocks ≡ 16 → ((i : ℕ) → InUse es i → length (entry_at es i).extent.blocks ≡ 16) → (i : ℕ) → InUse after i → length (entry_at after i).extent.blocks ≡ 16
  maps_after own maps i used =
      elim (cases_eq i kept.index) [
        | inl a ↦ rw (a, after_own, closed_map) own
        | inr a ↦ rw (after_other i a) (maps i (used_before i used))
      ]
