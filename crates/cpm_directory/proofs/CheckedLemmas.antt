-- A directory without a fault is one that agrees with itself.
use Rattle.std.proofs.Common.{◌≡◌, ◌≢◌, ◌↔◌, ℕ, ◌+◌, ◌*◌, ◌<◌, ◌≤◌, true, false, not, eqb, ltb, List, Option, Some, None, length, take, sym, refl, ap, ◌∙◌, inl, inr, arith}
use Rattle.std.specs.List.{list_any, position_or_len}
use Rattle.std.specs.Option.{option_or}
use Rattle.std.proofs.lemmas.List.{get_or-take, length-take}
use Rattle.std.proofs.lemmas.List.Folds.{list_any_at}
use Rattle.std.proofs.lemmas.List.Sums.{fails_before_first, passes_at_first}
use Rattle.std.proofs.lemmas.Option.{none-some}
use Rattle.std.proofs.lemmas.Bool.{false≢true, cases_eq, cases_lt, le-ltb, ltb-false, ne_eqb, eq-eqb, eqb-true, or_parts, and_parts, false_from_ne_true}
use Rattle.cpm_geom.specs.declared.dpb.Dpb.{Dpb}
use Rattle.cpm_geom.specs.Geometry.{dpb_of}
use Rattle.cpm_geom.specs.Disk.{Disk}
use Rattle.cpm_volume.specs.declared.extent.Entry.{Entry}
use Rattle.cpm_volume.specs.Reserved.{is_directory_block}
use Rattle.cpm_volume.specs.Files.{no_entry, deleted, entry_at, InUse, block_number, extent_number, group_of, is_of, directory_records, IsFormat, IsWellFormed}
use Rattle.cpm_volume.proofs.Entries.{in_use_within, any_index, is_of_parts, is_of_from}
use Rattle.cpm_volume.proofs.NameLemmas.{same_name-sym}
use Rattle.cpm_volume.proofs.Formats.{each_format}
use Rattle.cpm_directory.specs.Directory.{entries_of}
use Rattle.cpm_directory.specs.Login.{has_block, reserved_at_login}
use Rattle.cpm_directory.specs.declared.fault.DriveFault.{DriveFault}
use Rattle.cpm_directory.specs.WellFormed.{is_bad_block, bad_block_in, owner_of, stands_before, twice_block_in, twice_entry_in, fault_of}
use Rattle.cpm_directory.proofs.CheckingLemmas.{good_number, good_within, good_is, single_place, single_is, alone_before, alone_is}
use Rattle.cpm_directory.proofs.LawLemmas.{reserves, number_within, has_number}

-- ---- what is said of an entry without a fault
first_none : (a b : Option DriveFault) → option_or a b ≡ None → (a ≡ None) × (b ≡ None)
first_none None b h = (refl, h)
first_none (Some x) b h = absurd (none-some x (sym h))

entry_parts : (d : Dpb) (es : List Entry) (i : ℕ) → InUse es i → fault_of d es i ≡ None → (bad_block_in d es i ≡ None) × (twice_block_in es i ≡ None) × (twice_entry_in d es i ≡ None)
unfolding fault_of
entry_parts d es i used h =
    let all = first_none (bad_block_in d es i) (option_or (twice_block_in es i) (twice_entry_in d es i)) (rw (ne_eqb (entry_at es i).user deleted used.used) at h) in
    let rest = first_none (twice_block_in es i) (twice_entry_in d es i) all.1 in
    (all.0, rest.0, rest.1)

-- ---- a number that doesn't stand before
not_before : (es : List Entry) (i s : ℕ) → stands_before es i s ≡ false → block_number (entry_at es i).extent s ≢ 0 → (i ≤ owner_of es (block_number (entry_at es i).extent s)) × (list_any (λ number. eqb number (block_number (entry_at es i).extent s)) (take s (entry_at es i).extent.blocks) ≡ false)
unfolding stands_before
not_before es i s h some =
    let b = block_number (entry_at es i).extent s in
    let parts = or_parts (ltb (owner_of es b) i) (list_any (λ number. eqb number b) (take s (entry_at es i).extent.blocks)) (rw (ne_eqb b 0 some) at h) in
    (ltb-false _ _ parts.0, parts.1)

owner_within : (es : List Entry) (i s : ℕ) → InUse es i → block_number (entry_at es i).extent s ≢ 0 → owner_of es (block_number (entry_at es i).extent s) ≤ i
unfolding owner_of entry_at
owner_within es i s used some =
    let b = block_number (entry_at es i).extent s in
    elim (cases_lt i (position_or_len (has_block b) es)) [
      | inl lt ↦ absurd (false≢true (sym (fails_before_first (has_block b) es i no_entry lt) ∙ has_number es i s used some))
      | inr ge ↦ ge
    ]

-- a number earlier in the map
stands_in_map : (es : List Entry) (i s t b : ℕ) → s < t → block_number (entry_at es i).extent s ≡ b → b ≢ 0 → list_any (λ number. eqb number b) (take t (entry_at es i).extent.blocks) ≡ true
unfolding block_number
stands_in_map es i s t b low is some =
    let blocks = (entry_at es i).extent.blocks in
    let within : s < length blocks = number_within (entry_at es i) s (λ e. some (sym is ∙ e)) in
    let size = length-take t blocks in
    let short : s < length (take t blocks) = omega arith in
    list_any_at (λ number. eqb number b) (take t blocks) s 0 short (rw (get_or-take t blocks s 0 low) (eq-eqb _ _ is))

-- ---- from a directory without a fault
apart_in_map : (es : List Entry) (i s t : ℕ) → ((k : ℕ) → k < length (entry_at es i).extent.blocks → stands_before es i k ≡ false) → block_number (entry_at es i).extent s ≢ 0 → block_number (entry_at es i).extent s ≡ block_number (entry_at es i).extent t → t ≤ s
apart_in_map es i s t none some same =
    let b = block_number (entry_at es i).extent s in
    let some' : block_number (entry_at es i).extent t ≢ 0 = λ e. some (same ∙ e) in
    elim (cases_lt s t) [
      | inl lt ↦
          let single = (not_before es i t (none t (number_within (entry_at es i) t some')) some').1 in
          absurd (false≢true (sym single ∙ stands_in_map es i s t (block_number (entry_at es i).extent t) lt same some'))
      | inr ge ↦ ge
    ]

outside : (d : Dpb) (b : ℕ) → IsFormat d → is_directory_block d b ≡ false → directory_records d ≤ b * (d.block_mask + 1)
outside d b format free =
    elim (cases_lt (b * (d.block_mask + 1)) (directory_records d)) [
      | inl lt ↦ absurd (false≢true (sym free ∙ (format.reserves b).1 lt))
      | inr ge ↦ ge
    ]

pub agrees_with_itself : (d : Dpb) (es : List Entry) → IsFormat d → ((i : ℕ) → fault_of d es i ≡ None) → IsWellFormed d es (reserved_at_login d es)
agrees_with_itself d es format none =
    let single : (i : ℕ) → InUse es i → (k : ℕ) → k < length (entry_at es i).extent.blocks → stands_before es i k ≡ false = λ i used k h. single_place es i k (entry_parts d es i used (none i)).1 h in
    let owner : (i s : ℕ) → InUse es i → block_number (entry_at es i).extent s ≢ 0 → owner_of es (block_number (entry_at es i).extent s) ≡ i = λ i s used some.
    let low = owner_within es i s used some in
    let high = (not_before es i s (single i used s (number_within (entry_at es i) s some)) some).0 in
    omega arith in
    let login = reserves d es format in
    record {
      once = λ i j s t used other some same.
          let some' : block_number (entry_at es j).extent t ≢ 0 = λ e. some (same ∙ e) in
          let one : i ≡ j = sym (owner i s used some) ∙ (ap (owner_of es) same ∙ owner j t other some') in
          let here : block_number (entry_at es i).extent s ≡ block_number (entry_at es i).extent t = same ∙ ap (λ k. block_number (entry_at es k).extent t) (sym one) in
          let up = apart_in_map es i s t (single i used) some here in
          let down = apart_in_map es i t s (single i used) (λ e. some (here ∙ e)) (sym here) in
          (one, omega arith);
      stored = λ i s used some.
          let b = block_number (entry_at es i).extent s in
          let good = good_within d b (good_number d es i s (entry_parts d es i used (none i)).0 (number_within (entry_at es i) s some)) some in
          record {
            within = good.0;
            outside = outside d b format good.1;
            kept = login.numbers i s used some;
          };
      directory = login.directory;
      apart = λ i j used of.
          let parts = is_of_parts d _ _ _ (entry_at es j) of in
          let other : InUse es j = record { used = λ e. used.used (sym parts.0 ∙ e) } in
          let back : is_of d (entry_at es j).user (entry_at es j).extent.name (group_of d (extent_number (entry_at es j).extent)) (entry_at es i) ≡ true = is_of_from d _ _ _ (entry_at es i) (sym parts.0) (same_name-sym _ _ parts.1) (sym parts.2) in
          elim (cases_lt i j) [
            | inl lt ↦ absurd (false≢true (sym (alone_before d es j i (entry_parts d es j other (none j)).2 lt) ∙ back))
            | inr ge ↦ elim (cases_eq i j) [
              | inl same ↦ same
              | inr differ ↦ absurd (false≢true (sym (alone_before d es i j (entry_parts d es i used (none i)).2 (omega arith)) ∙ of))
            ]
          ];
    }

-- ---- from a drive that agrees with itself
good_numbers : (d : Dpb) (es : List Entry) (i s : ℕ) → IsFormat d → IsWellFormed d es (reserved_at_login d es) → InUse es i → is_bad_block d (block_number (entry_at es i).extent s) ≡ false
unfolding is_bad_block
good_numbers d es i s format agrees used =
    let b = block_number (entry_at es i).extent s in
    elim (cases_eq b 0) [
      | inl none ↦ rw none refl
      | inr some ↦
          let stored = agrees.stored i s used some in
          rw (ne_eqb b 0 some, le-ltb d.last_block b stored.within) (false_from_ne_true _ (λ t. let inside = (format.reserves b).0 t in let past = stored.outside in omega arith))
    ]

owned : (es : List Entry) (i b : ℕ) → has_block b (entry_at es i) ≡ true → InUse es i × ((s : ℕ) × (block_number (entry_at es i).extent s ≡ b))
unfolding has_block block_number
owned es i b h =
    let parts = and_parts _ _ h in
    let at = any_index (λ number. eqb number b) (entry_at es i).extent.blocks 0 parts.1 in
    (record { used = λ e. false≢true (sym (ap not (eq-eqb _ _ e)) ∙ parts.0) }, (at.0, eqb-true _ _ at.2))

first_owner : (es : List Entry) (i b : ℕ) → owner_of es b < i → i ≤ length es → has_block b (entry_at es (owner_of es b)) ≡ true
unfolding owner_of entry_at
first_owner es i b low h = passes_at_first (has_block b) es no_entry (omega arith)

in_front : (es : List Entry) (i s b : ℕ) → list_any (λ number. eqb number b) (take s (entry_at es i).extent.blocks) ≡ true → (t : ℕ) × (t < s) × (block_number (entry_at es i).extent t ≡ b)
unfolding block_number
in_front es i s b h =
    let blocks = (entry_at es i).extent.blocks in
    let at = any_index (λ number. eqb number b) (take s blocks) 0 h in
    let size = length-take s blocks in
    let short = at.1 in
    let low : at.0 < s = omega arith in
    (at.0, low, sym (get_or-take s blocks at.0 0 low) ∙ eqb-true _ _ at.2)

places_stand_once : (d : Dpb) (es : List Entry) (i s : ℕ) → IsWellFormed d es (reserved_at_login d es) → InUse es i → stands_before es i s ≡ false
unfolding stands_before
places_stand_once d es i s agrees used =
    let b = block_number (entry_at es i).extent s in
    elim (cases_eq b 0) [
      | inl none ↦ rw none refl
      | inr some ↦
          let not_earlier : i ≤ owner_of es b = elim (cases_lt (owner_of es b) i) [
            | inl lt ↦
                let within = in_use_within es i used.used in
                let has = owned es (owner_of es b) b (first_owner es i b lt (omega arith)) in
                let one = agrees.once i (owner_of es b) s has.1.0 used has.0 some (sym has.1.1) in
                absurd (omega (arith, one.0))
            | inr ge ↦ ge
          ] in
          let not_in_map : list_any (λ number. eqb number b) (take s (entry_at es i).extent.blocks) ≡ false = false_from_ne_true _ (λ t.
          let at = in_front es i s b t in
          let one = agrees.once i i s at.0 used used some (sym at.2) in
          absurd (omega (arith, one.1, at.1))) in
          rw (ne_eqb b 0 some, le-ltb (owner_of es b) i not_earlier) not_in_map
    ]

single_entry : (d : Dpb) (es : List Entry) (i k : ℕ) → IsWellFormed d es (reserved_at_login d es) → InUse es i → k < i → is_of d (entry_at es i).user (entry_at es i).extent.name (group_of d (extent_number (entry_at es i).extent)) (entry_at es k) ≡ false
single_entry d es i k agrees used low = false_from_ne_true _ (λ t. let one = agrees.apart i k used t in absurd (omega arith))

pub has_no_fault : (d : Dpb) (es : List Entry) → IsFormat d → IsWellFormed d es (reserved_at_login d es) → (i : ℕ) → fault_of d es i ≡ None
unfolding fault_of block_number
has_no_fault d es format agrees i =
    elim (cases_eq (entry_at es i).user deleted) [
      | inl unused ↦ rw (eq-eqb _ _ unused) refl
      | inr live ↦
          let used : InUse es i = record { used = live } in
          let within = in_use_within es i live in
          let good = good_is d es i (entry_at es i) refl (λ k h. good_numbers d es i k format agrees used) in
          let single = single_is es i (entry_at es i) refl (λ k h. places_stand_once d es i k agrees used) in
          let alone = alone_is d es i (entry_at es i) refl (omega arith) (λ k h. single_entry d es i k agrees used h) in
          rw (ne_eqb _ _ live, good, single) alone
    ]

pub checked : (disk : Disk) → ((i : ℕ) → fault_of (dpb_of disk.format) (entries_of disk) i ≡ None) ↔ IsWellFormed (dpb_of disk.format) (entries_of disk) (reserved_at_login (dpb_of disk.format) (entries_of disk))
checked disk =
    (agrees_with_itself (dpb_of disk.format) (entries_of disk) (each_format disk.format), has_no_fault (dpb_of disk.format) (entries_of disk) (each_format disk.format))
