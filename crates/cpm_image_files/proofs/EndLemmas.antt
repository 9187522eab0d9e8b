-- At the end of a file there is no further record; and what a written entry leaves of an end.
use Rattle.std.proofs.Common.{◌≡◌, ◌≢◌, ℕ, ◌/◌, ◌%◌, ◌<◌, ◌≤◌, true, false, List, None, length, set, sym, refl, ap, ◌∙◌, inl, inr, arith}
use Rattle.std.proofs.lemmas.List.{get_or_past}
use Rattle.std.proofs.lemmas.Bool.{false≢true, eqb-true, eq-eqb, ne_eqb, and_parts, and_from, cases_eq, cases_lt, le-ltb, cond-false, false_from_ne_true}
use Rattle.cpm_geom.specs.declared.dpb.Dpb.{Dpb}
use Rattle.cpm_volume.specs.declared.extent.Extent.{Extent}
use Rattle.cpm_volume.specs.declared.extent.Entry.{Entry}
use Rattle.cpm_volume.specs.Files.{deleted, extent_number, group_of, same_name, has_wildcard, no_entry, entry_at, InUse, is_of, first_of, record_count_of, open_record_count, block_if, open_block, open_file_block, open_file_record, Volume}
use Rattle.cpm_volume.specs.Names.{is_named}
use Rattle.cpm_volume.specs.Laws.{position}
use Rattle.cpm_volume.proofs.Entries.{entry_at-set_same, entry_at-set_other, is_of_parts, first_of_passes}
use Rattle.cpm_volume.proofs.NameLemmas.{name_matches_plain, same_name-refl}
use Rattle.cpm_volume.proofs.Making.{none_block}
use Rattle.cpm_volume.proofs.Moving.{no_file}
use Rattle.cpm_image_files.specs.Appending.{IsAtEnd, KeepsEntries}
use Rattle.cpm_image_files.proofs.Numbers.{group_grows}

-- ---- names
-- an entry of a group of the file is one of its name
pub named_of : (d : Dpb) (user : ℕ) (name : List ℕ) (group : ℕ) (e : Entry) → has_wildcard name ≡ false → is_of d user name group e ≡ true → is_named user name e ≡ true
unfolding is_named
named_of d user name group e plain h =
    let p = is_of_parts d user name group e h in
    and_from _ _ (eq-eqb _ _ p.0) (name_matches_plain name e.extent.name plain ∙ p.1)

pub named_parts : (user : ℕ) (name : List ℕ) (e : Entry) → has_wildcard name ≡ false → is_named user name e ≡ true → (e.user ≡ user) × (same_name name e.extent.name ≡ true)
unfolding is_named
named_parts user name e plain h =
    let p = and_parts _ _ h in (eqb-true _ _ p.0, sym (name_matches_plain name e.extent.name plain) ∙ p.1)

pub named_from : (user : ℕ) (name : List ℕ) (e : Entry) → has_wildcard name ≡ false → e.user ≡ user → e.extent.name ≡ name → is_named user name e ≡ true
unfolding is_named
named_from user name e plain a b =
    and_from _ _ (eq-eqb _ _ a) (name_matches_plain name e.extent.name plain ∙ (rw b (same_name-refl name)))

-- ---- no further record
pub count_past : (number own rc k : ℕ) → own < number → record_count_of number own rc ≡ 0
unfolding record_count_of
count_past number own rc k h = rw (le-ltb number own (omega arith), ne_eqb number own (omega arith)) refl

past_count : (count k place : ℕ) (x : Extent) → count ≤ k → block_if count k x place ≡ 0
unfolding block_if
past_count count k place x h = cond-false _ _ _ (le-ltb k count h)

module _ (d : Dpb) (user : ℕ) (name : List ℕ) (v : Volume) (x : Extent) (current : ℕ) (user_ok : user ≢ deleted) (plain : has_wildcard x.name ≡ false) (end : IsAtEnd d user name v x current) where
  plain_name : has_wildcard name ≡ false
  plain_name = ap has_wildcard (sym end.name_is) ∙ plain

  -- an entry of the file is of no greater extent
  number_of : (group j : ℕ) → is_of d user x.name group (entry_at v.entries j) ≡ true → (extent_number (entry_at v.entries j).extent ≤ extent_number x) × (group_of d (extent_number (entry_at v.entries j).extent) ≡ group)
  number_of group j h =
      let named = named_of d user name group (entry_at v.entries j) plain_name (rw end.name_is at h) in
      (end.last j named, (is_of_parts d user x.name group (entry_at v.entries j) h).2)

  -- the number of the first entry of a group; 0 where there is none
  first_number : (group : ℕ) → extent_number (entry_at v.entries (first_of d v.entries user x.name group)).extent ≤ extent_number x
  unfolding entry_at extent_number no_entry
  first_number group =
      elim (cases_lt (first_of d v.entries user x.name group) (length v.entries)) [
        | inl lt ↦ (number_of group (first_of d v.entries user x.name group) (first_of_passes d v.entries user x.name group lt)).0
        | inr ge ↦ rw (get_or_past v.entries (first_of d v.entries user x.name group) no_entry ge) (omega arith)
      ]

  counted : (m : ℕ) → position x current ≤ m → (open_record_count (m / 128) x (entry_at v.entries (first_of d v.entries user x.name (group_of d (m / 128)))).extent ≤ m % 128)
  unfolding open_record_count position
  counted m past =
      let count = end.count in
      let small = end.small in
      elim (cases_eq (m / 128) (extent_number x)) [
        | inl e ↦ rw (le-ltb (m / 128) (extent_number x) (omega arith), eq-eqb (m / 128) (extent_number x) e) (omega arith)
        | inr other ↦
            let first = first_number (group_of d (m / 128)) in
            rw (le-ltb (m / 128) (extent_number x) (omega arith), ne_eqb (m / 128) (extent_number x) other, count_past (m / 128) (extent_number (entry_at v.entries (first_of d v.entries user x.name (group_of d (m / 128)))).extent) (entry_at v.entries (first_of d v.entries user x.name (group_of d (m / 128)))).extent.record_count 0 (omega arith)) (omega arith)
      ]

  none_in_group : (m : ℕ) → position x current ≤ m → group_of d (m / 128) ≡ group_of d (extent_number x) → open_file_block d v.entries user x m ≡ 0
  unfolding open_file_block open_block
  none_in_group m past same = rw (eq-eqb _ _ same) (past_count _ _ _ x (counted m past))

  later_group : (m : ℕ) → position x current ≤ m → group_of d (m / 128) ≢ group_of d (extent_number x) → (j : ℕ) → is_of d user x.name (group_of d (m / 128)) (entry_at v.entries j) ≡ false
  unfolding position
  later_group m past other j =
      false_from_ne_true _ (λ t.
      let of = number_of (group_of d (m / 128)) j t in
      let low = group_grows d _ _ of.0 in
      let high = group_grows d (extent_number x) (m / 128) (omega arith) in
      other (omega arith))

  none_elsewhere : (m : ℕ) → position x current ≤ m → group_of d (m / 128) ≢ group_of d (extent_number x) → open_file_block d v.entries user x m ≡ 0
  unfolding open_file_block
  none_elsewhere m past other =
      rw (ne_eqb _ _ other) (none_block d v.entries user x.name m (later_group m past other))

  pub no_more_records : (m : ℕ) → position x current ≤ m → open_file_record d v.entries v.records user x m ≡ None
  no_more_records m past =
      no_file d v user x m (elim (cases_eq (group_of d (m / 128)) (group_of d (extent_number x))) [
        | inl same ↦ none_in_group m past same
        | inr other ↦ none_elsewhere m past other
      ])

-- ---- an entry of the file is written, in place of one of its own or of one that is not in use
module _ (user : ℕ) (name : List ℕ) (es : List Entry) (i : ℕ) (e : Entry) (within : i < length es) (named : is_named user name e ≡ true) where
  at_own : entry_at (set es i e) i ≡ e
  at_own = entry_at-set_same es i e within

  at_other : (j : ℕ) → j ≢ i → entry_at (set es i e) j ≡ entry_at es j
  at_other j h = entry_at-set_other es i j e h

  pub keeps_entries : (InUse es i → is_named user name (entry_at es i) ≡ true) → KeepsEntries user name es (set es i e)
  keeps_entries own = record {
    stay = λ j used other. elim (cases_eq j i) [
      | inl same ↦ absurd (false≢true (sym other ∙ rw same (own (rw same at used))))
      | inr apart ↦ at_other j apart
    ];
    no_more = λ j used other. elim (cases_eq j i) [
      | inl same ↦ absurd (false≢true (sym other ∙ rw (same, at_own) named))
      | inr apart ↦ sym (at_other j apart)
    ];
  }

  pub names_after : e.extent.name ≡ name → ((j : ℕ) → is_named user name (entry_at es j) ≡ true → (entry_at es j).extent.name ≡ name) → (j : ℕ) → is_named user name (entry_at (set es i e) j) ≡ true → (entry_at (set es i e) j).extent.name ≡ name
  names_after own names j h =
      elim (cases_eq j i) [
        | inl same ↦ rw (same, at_own) own
        | inr apart ↦ rw (at_other j apart) (names j (rw (at_other j apart) at h))
      ]

  pub last_after : (number : ℕ) → extent_number e.extent ≤ number → ((j : ℕ) → is_named user name (entry_at es j) ≡ true → extent_number (entry_at es j).extent ≤ number) → (j : ℕ) → is_named user name (entry_at (set es i e) j) ≡ true → extent_number (entry_at (set es i e) j).extent ≤ number
  last_after number own last j h =
      elim (cases_eq j i) [
        | inl same ↦ rw (same, at_own) own
        | inr apart ↦ rw (at_other j apart) (last j (rw (at_other j apart) at h))
      ]

pub keeps-refl : (user : ℕ) (name : List ℕ) (es : List Entry) → KeepsEntries user name es es
keeps-refl user name es = record { stay = λ i used other. refl; no_more = λ i used other. refl }

pub keeps-trans : (user : ℕ) (name : List ℕ) (a b c : List Entry) → KeepsEntries user name a b → KeepsEntries user name b c → KeepsEntries user name a c
keeps-trans user name a b c p q = record {
  stay = λ i used other.
      let one = p.stay i used other in
      q.stay i (record { used = λ e. used.used (sym (ap (λ (f : Entry). f.user) one) ∙ e) }) (ap (is_named user name) one ∙ other) ∙ one;
  no_more = λ i used other.
      let one = q.no_more i used other in
      p.no_more i (record { used = λ e. used.used (sym (ap (λ (f : Entry). f.user) one) ∙ e) }) (ap (is_named user name) one ∙ other) ∙ one;
}
