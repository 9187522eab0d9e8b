-- The entries of a file under another name.
use Rattle.std.proofs.Common.{◌≡◌, ◌≢◌, ◌⊎◌, ℕ, ◌/◌, ◌<◌, ◌≤◌, Bool, true, false, cond, not, List, [], ◌∷◌, length, get_or, map, sym, refl, ap, ◌∙◌, inl, inr, arith}
use Rattle.std.proofs.lemmas.List.{get_or_past, get_or-map, length-map}
use Rattle.std.proofs.lemmas.List.Sums.{fails_before_first, prefix_len-le-length}
use Rattle.std.proofs.lemmas.Bool.{false≢true, eq-eqb, and_from, cases_Bool, cases_lt, false_from_ne_true}
use Rattle.cpm_geom.specs.declared.dpb.Dpb.{Dpb}
use Rattle.cpm_volume.specs.declared.extent.Entry.{Entry}
use Rattle.cpm_volume.specs.Files.{deleted, extent_number, group_of, same_name, has_wildcard, no_entry, entry_at, InUse, block_number, is_of, first_of, block_if, entry_block, file_block, IsWellFormed}
use Rattle.cpm_volume.specs.Names.{is_named, change_named, renaming, with_attributes}
use Rattle.cpm_volume.proofs.Entries.{is_of_parts, is_of_from, first_of_passes}
use Rattle.cpm_volume.proofs.NameLemmas.{name_matches_plain, same_name-sym, same_name-refl, same_name-trans, same_wildcard}
use Rattle.cpm_image_files.proofs.EndLemmas.{named_parts}
use Rattle.cpm_image_files.proofs.RemovingLemmas.{no_entry_named}
use Rattle.cpm_image_files.proofs.GettingLemmas.{first_is}

-- ---- names

pub same_but_attributes : (name attributes : List ℕ) → same_name name (with_attributes name attributes) ≡ true
unfolding with_attributes same_name
same_but_attributes [] attributes = refl
same_but_attributes (c ∷ cs) [] = same_name-refl (c ∷ cs)
same_but_attributes (c ∷ cs) (b ∷ bs) =
    and_from _ _ (eq-eqb _ _ (omega arith)) (same_but_attributes cs bs)

pub kept_plain : (name attributes : List ℕ) → has_wildcard name ≡ false → has_wildcard (with_attributes name attributes) ≡ false
kept_plain name attributes plain = same_wildcard name (with_attributes name attributes) (same_but_attributes name attributes) ∙ plain

pub named_like : (user : ℕ) (name : List ℕ) (e : Entry) → has_wildcard name ≡ false → e.user ≡ user → same_name name e.extent.name ≡ true → is_named user name e ≡ true
unfolding is_named
named_like user name e plain a b = and_from _ _ (eq-eqb _ _ a) (name_matches_plain name e.extent.name plain ∙ b)

-- ---- the entries

change : ℕ → List ℕ → List ℕ → Entry → Entry
change user name kept e = cond (is_named user name e) (renaming kept e) e

changed_named : (user : ℕ) (name kept : List ℕ) (e : Entry) → is_named user name e ≡ true → change user name kept e ≡ renaming kept e
unfolding change
changed_named user name kept e h = rw h refl

changed_other : (user : ℕ) (name kept : List ℕ) (e : Entry) → is_named user name e ≡ false → change user name kept e ≡ e
unfolding change
changed_other user name kept e h = rw h refl

new_name : (kept : List ℕ) (e : Entry) → (renaming kept e).extent.name ≡ kept
unfolding renaming
new_name kept e = refl

new_block : (d : Dpb) (kept : List ℕ) (e : Entry) (n : ℕ) → entry_block d (renaming kept e) n ≡ entry_block d e n
unfolding renaming entry_block block_if block_number extent_number
new_block d kept e n = refl

-- what a change leaves of an entry
record Same (e e' : Entry) : Type 0 where
  user : e'.user ≡ e.user
  number : extent_number e'.extent ≡ extent_number e.extent
  maps : e'.extent.blocks ≡ e.extent.blocks
  blocks : (d : Dpb) (n : ℕ) → entry_block d e' n ≡ entry_block d e n

same_renamed : (kept : List ℕ) (e : Entry) → Same e (renaming kept e)
unfolding renaming extent_number
same_renamed kept e = record { user = refl; number = refl; maps = refl; blocks = λ d n. new_block d kept e n }

same_changed : (user : ℕ) (name kept : List ℕ) (e : Entry) → Same e (change user name kept e)
same_changed user name kept e =
    elim (cases_Bool (is_named user name e)) [
      | inl t ↦ rw (changed_named user name kept e t) (same_renamed kept e)
      | inr f ↦ rw (changed_other user name kept e f) (record { user = refl; number = refl; maps = refl; blocks = λ d n. refl })
    ]

module _ (d : Dpb) (es : List Entry) (user : ℕ) (name kept : List ℕ) (live : user ≢ deleted) (plain : has_wildcard name ≡ false) (kept_plain : has_wildcard kept ≡ false) (free : (same_name name kept ≡ true) ⊎ ((i : ℕ) → is_named user kept (entry_at es i) ≡ false)) where
  unfoldable pub after : List Entry
  after = change_named user name (renaming kept) es

  after_is : after ≡ map (change user name kept) es
  unfolding after change_named change
  after_is = refl

  past_change : change user name kept no_entry ≡ no_entry
  past_change = changed_other user name kept no_entry (no_entry_named user name live)

  at : (i : ℕ) → entry_at after i ≡ change user name kept (entry_at es i)
  unfolding entry_at
  at i =
      elim (cases_lt i (length es)) [
        | inl lt ↦ rw after_is (get_or-map (change user name kept) es i no_entry no_entry lt)
        | inr ge ↦ rw after_is (get_or_past (map (change user name kept) es) i no_entry (rw (length-map es) ge) ∙ (sym past_change ∙ ap (change user name kept) (sym (get_or_past es i no_entry ge))))
      ]

  same : (i : ℕ) → Same (entry_at es i) (entry_at after i)
  same i = rw (at i) (same_changed user name kept (entry_at es i))

  at_named : (i : ℕ) → is_named user name (entry_at es i) ≡ true → entry_at after i ≡ renaming kept (entry_at es i)
  at_named i h = at i ∙ changed_named user name kept (entry_at es i) h

  pub at_other : (i : ℕ) → is_named user name (entry_at es i) ≡ false → entry_at after i ≡ entry_at es i
  at_other i h = at i ∙ changed_other user name kept (entry_at es i) h

  pub used_before : (i : ℕ) → InUse after i → InUse es i
  used_before i used = record { used = λ z. used.used ((same i).user ∙ z) }

  -- no other entry has the new name
  no_other : (i : ℕ) → is_named user name (entry_at es i) ≡ false → (entry_at es i).user ≡ user → same_name kept (entry_at es i).extent.name ≡ true → ⊥
  no_other i other u names =
      elim free [
        | inl own ↦ false≢true (sym other ∙ named_like user name (entry_at es i) plain u (same_name-trans name (entry_at es i).extent.name kept own (same_name-sym kept (entry_at es i).extent.name names)))
        | inr absent ↦ false≢true (sym (absent i) ∙ named_like user kept (entry_at es i) kept_plain u names)
      ]

  -- ---- the entries of a file
  other_is_of : (other : ℕ) (other_name : List ℕ) (group i : ℕ) → (other ≡ user → same_name other_name name ≡ true → ⊥) → (other ≡ user → same_name other_name kept ≡ true → ⊥) → is_of d other other_name group (entry_at after i) ≡ is_of d other other_name group (entry_at es i)
  other_is_of other other_name group i apart apart' =
      elim (cases_Bool (is_named user name (entry_at es i))) [
        | inr f ↦ ap (is_of d other other_name group) (at_other i f)
        | inl t ↦
            let own = named_parts user name (entry_at es i) plain t in
            let not_after : is_of d other other_name group (entry_at after i) ≡ false = false_from_ne_true _ (λ h.
            let p = is_of_parts d other other_name group (entry_at after i) h in
            apart' (sym p.0 ∙ ((same i).user ∙ own.0)) (rw (at_named i t, new_name) at p.1)) in
            let not_before : is_of d other other_name group (entry_at es i) ≡ false = false_from_ne_true _ (λ h.
            let p = is_of_parts d other other_name group (entry_at es i) h in
            apart (sym p.0 ∙ own.0) (same_name-trans other_name name (entry_at es i).extent.name p.1 own.1)) in
            not_after ∙ sym not_before
      ]

  own_is_of : (group i : ℕ) → is_of d user kept group (entry_at after i) ≡ is_of d user name group (entry_at es i)
  own_is_of group i =
      elim (cases_Bool (is_named user name (entry_at es i))) [
        | inl t ↦
            let own = named_parts user name (entry_at es i) plain t in
            let kept_there : same_name kept (entry_at after i).extent.name ≡ true = rw (at_named i t, new_name) (same_name-refl kept) in
            elim (cases_Bool (is_of d user name group (entry_at es i))) [
              | inl there ↦ is_of_from d user kept group (entry_at after i) ((same i).user ∙ own.0) kept_there (ap (group_of d) (same i).number ∙ (is_of_parts d user name group (entry_at es i) there).2) ∙ sym there
              | inr none ↦ false_from_ne_true _ (λ h. false≢true (sym none ∙ is_of_from d user name group (entry_at es i) own.0 own.1 (ap (group_of d) (sym (same i).number) ∙ (is_of_parts d user kept group (entry_at after i) h).2))) ∙ sym none
            ]
        | inr f ↦
            let not_after : is_of d user kept group (entry_at after i) ≡ false = false_from_ne_true _ (λ h.
            let p = is_of_parts d user kept group (entry_at es i) (rw (at_other i f) at h) in
            no_other i f p.0 p.1) in
            let not_before : is_of d user name group (entry_at es i) ≡ false = false_from_ne_true _ (λ h.
            let p = is_of_parts d user name group (entry_at es i) h in
            false≢true (sym f ∙ named_like user name (entry_at es i) plain p.0 p.1)) in
            not_after ∙ sym not_before
      ]

  first_before : (u : ℕ) (n : List ℕ) (group k : ℕ) → k < first_of d es u n group → is_of d u n group (entry_at es k) ≡ false
  unfolding first_of entry_at
  first_before u n group k h = fails_before_first (is_of d u n group) es k no_entry h

  first_within : (u : ℕ) (n : List ℕ) (group : ℕ) → first_of d es u n group ≤ length after
  unfolding first_of
  first_within u n group =
      let size : length after ≡ length es = ap length after_is ∙ length-map es (change user name kept) in
      rw size (prefix_len-le-length (λ e. not (is_of d u n group e)) es)

  same_first : (u u' : ℕ) (n n' : List ℕ) (group : ℕ) → ((i : ℕ) → is_of d u' n' group (entry_at after i) ≡ is_of d u n group (entry_at es i)) → first_of d after u' n' group ≡ first_of d es u n group
  same_first u u' n n' group eq =
      let size : length after ≡ length es = ap length after_is ∙ length-map es (change user name kept) in
      first_is d after u' n' group (first_of d es u n group) (first_within u n group) (λ k h. eq k ∙ first_before u n group k h) (λ h. eq (first_of d es u n group) ∙ first_of_passes d es u n group (rw size at h))

  same_file : (u u' : ℕ) (n n' : List ℕ) (m : ℕ) → ((group i : ℕ) → is_of d u' n' group (entry_at after i) ≡ is_of d u n group (entry_at es i)) → file_block d after u' n' m ≡ file_block d es u n m
  unfolding file_block
  same_file u u' n n' m eq =
      rw (same_first u u' n n' (group_of d (m / 128)) (eq (group_of d (m / 128)))) ((same (first_of d es u n (group_of d (m / 128)))).blocks d m)

  pub own_file : (m : ℕ) → file_block d after user kept m ≡ file_block d es user name m
  own_file m = same_file user user name kept m own_is_of

  pub other_file : (other : ℕ) (other_name : List ℕ) (m : ℕ) → (other ≡ user → same_name other_name name ≡ true → ⊥) → (other ≡ user → same_name other_name kept ≡ true → ⊥) → file_block d after other other_name m ≡ file_block d es other other_name m
  other_file other other_name m apart apart' = same_file other other other_name other_name m (λ group i. other_is_of other other_name group i apart apart')

  -- ---- the directory agrees with itself
  block_after : (i s : ℕ) → block_number (entry_at after i).extent s ≡ block_number (entry_at es i).extent s
  unfolding block_number
  block_after i s = ap (λ xs. get_or xs s 0) (same i).maps

  -- two entries of one name have one before
  names_before : (i j : ℕ) → (entry_at es j).user ≡ (entry_at es i).user → same_name (entry_at after i).extent.name (entry_at after j).extent.name ≡ true → same_name (entry_at es i).extent.name (entry_at es j).extent.name ≡ true
  names_before i j u names =
      elim (cases_Bool (is_named user name (entry_at es i))) [
        | inl t ↦
            let p = named_parts user name (entry_at es i) plain t in
            elim (cases_Bool (is_named user name (entry_at es j))) [
              | inl t' ↦
                  let q = named_parts user name (entry_at es j) plain t' in
                  same_name-trans (entry_at es i).extent.name (entry_at es j).extent.name name (same_name-sym _ _ p.1) (same_name-sym _ _ q.1)
              | inr f' ↦ absurd (no_other j f' (u ∙ p.0) (rw (at_named i t, new_name, at_other j f') at names))
            ]
        | inr f ↦ elim (cases_Bool (is_named user name (entry_at es j))) [
          | inl t' ↦
              let q = named_parts user name (entry_at es j) plain t' in
              absurd (no_other i f (sym u ∙ q.0) (same_name-sym _ _ (rw (at_other i f, at_named j t', new_name) at names)))
          | inr f' ↦ rw (at_other i f, at_other j f') at names
        ]
      ]

  pub well_after : (reserved : List Bool) → IsWellFormed d es reserved → IsWellFormed d after reserved
  well_after reserved well = record {
    once = λ i j s t used used' some eq. well.once i j s t (used_before i used) (used_before j used') (rw block_after at some) (rw (block_after i s, block_after j t) at eq);
    stored = λ i s used some. rw (block_after i s) (well.stored i s (used_before i used) (rw block_after at some));
    directory = well.directory;
    apart = λ i j used h.
        let p = is_of_parts d (entry_at after i).user (entry_at after i).extent.name (group_of d (extent_number (entry_at after i).extent)) (entry_at after j) h in
        let u : (entry_at es j).user ≡ (entry_at es i).user = sym (same j).user ∙ (p.0 ∙ (same i).user) in
        let g : group_of d (extent_number (entry_at es j).extent) ≡ group_of d (extent_number (entry_at es i).extent) = ap (group_of d) (sym (same j).number) ∙ (p.2 ∙ ap (group_of d) (same i).number) in
        well.apart i j (used_before i used) (is_of_from d (entry_at es i).user (entry_at es i).extent.name (group_of d (extent_number (entry_at es i).extent)) (entry_at es j) u (names_before i j u p.1) g);
  }

  pub maps_after : ((i : ℕ) → InUse es i → length (entry_at es i).extent.blocks ≡ 16) → (i : ℕ) → InUse after i → length (entry_at after i).extent.blocks ≡ 16
  maps_after maps i used = ap length (same i).maps ∙ maps i (used_before i used)

  -- ---- who has which name
  pub named_after : (i : ℕ) → is_named user name (entry_at es i) ≡ true → is_named user kept (entry_at after i) ≡ true
  named_after i t =
      let p = named_parts user name (entry_at es i) plain t in
      named_like user kept (entry_at after i) kept_plain ((same i).user ∙ p.0) (rw (at_named i t, new_name) (same_name-refl kept))

  pub kept_after : (i : ℕ) → is_named user kept (entry_at after i) ≡ true → (entry_at after i).extent.name ≡ kept
  kept_after i h =
      elim (cases_Bool (is_named user name (entry_at es i))) [
        | inl t ↦ ap (λ (e : Entry). e.extent.name) (at_named i t) ∙ new_name kept (entry_at es i)
        | inr f ↦
            let p = named_parts user kept (entry_at es i) kept_plain (rw (at_other i f) at h) in
            absurd (no_other i f p.0 p.1)
      ]

  pub other_after : (i : ℕ) → is_named user kept (entry_at after i) ≡ false → entry_at es i ≡ entry_at after i
  other_after i h =
      elim (cases_Bool (is_named user name (entry_at es i))) [
        | inl t ↦ absurd (false≢true (sym h ∙ named_after i t))
        | inr f ↦ sym (at_other i f)
      ]

  pub absent_after : same_name name kept ≡ false → (i : ℕ) → is_named user name (entry_at after i) ≡ false
  absent_after other i =
      false_from_ne_true _ (λ h.
      let p = named_parts user name (entry_at after i) plain h in
      elim (cases_Bool (is_named user name (entry_at es i))) [
        | inl t ↦ false≢true (sym other ∙ (rw (at_named i t, new_name) at p.1))
        | inr f ↦ false≢true (sym f ∙ (rw (at_other i f) at h))
      ])
