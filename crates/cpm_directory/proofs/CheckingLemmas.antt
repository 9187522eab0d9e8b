-- The first element that passes a test, whether a block stands before a place, and what is wrong with an entry.
use Rattle.std.proofs.Common.{◌≡◌, ◌≢◌, ℕ, ◌/◌, ◌%◌, ◌<◌, ◌≤◌, Bool, true, false, ◌&&◌, ◌||◌, eqb, ltb, List, [], ◌∷◌, Option, Some, None, length, get_or, take, zero-add, sym, refl, ap, ◌∙◌, inl, inr, arith}
use Rattle.std.specs.Prelude.{option_map}
use Rattle.std.specs.List.{find, list_any, list_all, zip, position, position_or_len, range_with_len}
use Rattle.std.proofs.lemmas.List.{get_or_past, get_or-take, length-take-le, get_or_default}
use Rattle.std.proofs.lemmas.List.Folds.{find_at, list_any_at}
use Rattle.std.proofs.lemmas.List.FromFn.{length-range_with_len, get_or-range_with_len, length-map-range_with_len}
use Rattle.std.proofs.lemmas.List.Sums.{position_or_len_is, fails_before_first, passes_at_first}
use Rattle.std.proofs.lemmas.Option.{slice_get-get_or, slice_get_past, none-some}
use Rattle.std.proofs.lemmas.Bool.{false≢true, cases_lt, lt-ltb, le-ltb, ltb-false, ne_eqb, or_parts, false_from_ne_true}
use Rattle.cpm_geom.specs.declared.dpb.Dpb.{Dpb}
use Rattle.cpm_geom.specs.Geometry.{dpb_of, record_index}
use Rattle.cpm_geom.specs.Disk.{Disk, sector_at}
use Rattle.cpm_volume.specs.declared.extent.Entry.{Entry}
use Rattle.cpm_volume.specs.Reserved.{is_directory_block}
use Rattle.cpm_volume.specs.Files.{same_name, entry_at, no_entry, block_number, extent_number, group_of, is_of, first_of}
use Rattle.cpm_volume.specs.Encoding.{entry_of, extent_of, block_number_in}
use Rattle.cpm_volume.proofs.Entries.{any_index}
use Rattle.cpm_directory.specs.Directory.{slot_bytes, entries_of}
use Rattle.cpm_directory.specs.Login.{has_block}
use Rattle.cpm_directory.specs.declared.fault.DriveFault.TheVariants.{BadBlock, TwiceBlock, TwiceEntry}
use Rattle.cpm_directory.specs.WellFormed.{is_bad_block, bad_block_in, owner_of, stands_before, twice_block_in, twice_entry_in, fault_of, AreBefore}
use Rattle.cpm_directory.proofs.DriveLemmas.{last_block_small, entry_is}

-- ---- the first that passes
pub found : {X : Type 0} (p : X → Bool) (xs : List X) (i : ℕ) (d : X) → i < length xs → ((k : ℕ) → k < i → p (get_or xs k d) ≡ false) → p (get_or xs i d) ≡ true → find p xs ≡ Some (get_or xs i d)
found p xs i d h before here =
    find_at p xs ∙ rw (position_or_len_is p xs i d (omega arith) before (λ _. here)) (slice_get-get_or xs i d h)

pub not_found : {X : Type 0} (p : X → Bool) (xs : List X) (d : X) → ((k : ℕ) → k < length xs → p (get_or xs k d) ≡ false) → find p xs ≡ None
not_found p xs d none =
    find_at p xs ∙ rw (position_or_len_is p xs (length xs) d (omega arith) none (λ l. absurd (omega arith))) (slice_get_past xs (length xs) (omega arith))

pub none_passes : {X : Type 0} (p : X → Bool) (xs : List X) (k : ℕ) (d : X) → find p xs ≡ None → k < length xs → p (get_or xs k d) ≡ false
none_passes p xs k d none h =
    let at = find_at p xs in
    elim (cases_lt (position_or_len p xs) (length xs)) [
      | inl lt ↦ absurd (none-some (get_or xs (position_or_len p xs) d) (sym none ∙ (at ∙ slice_get-get_or xs (position_or_len p xs) d lt)))
      | inr ge ↦ fails_before_first p xs k d (omega arith)
    ]

pub first_number : (p : ℕ → Bool) (n s : ℕ) → s < n → ((k : ℕ) → k < s → p k ≡ false) → p s ≡ true → position p (range_with_len 0 n) ≡ Some s
first_number p n s h before here =
    let size = length-range_with_len 0 n in
    let at : (k : ℕ) → k < n → get_or (range_with_len 0 n) k 0 ≡ k = λ k l. get_or-range_with_len 0 n k 0 l ∙ zero-add k in
    rw (position_or_len_is p (range_with_len 0 n) s 0 (omega arith) (λ k l. rw (at k (omega arith)) (before k l)) (λ _. rw (at s h) here), size, lt-ltb s n h) refl

pub no_number : (p : ℕ → Bool) (n : ℕ) → ((k : ℕ) → k < n → p k ≡ false) → position p (range_with_len 0 n) ≡ None
no_number p n none =
    let size = length-range_with_len 0 n in
    let at : (k : ℕ) → k < n → get_or (range_with_len 0 n) k 0 ≡ k = λ k l. get_or-range_with_len 0 n k 0 l ∙ zero-add k in
    rw (position_or_len_is p (range_with_len 0 n) n 0 (omega arith) (λ k l. rw (at k l) (none k l)) (λ l. absurd (omega arith)), size, le-ltb n n (omega arith)) refl

pub no_number_passes : (p : ℕ → Bool) (n k : ℕ) → position p (range_with_len 0 n) ≡ None → k < n → p k ≡ false
no_number_passes p n k none h =
    let size = length-range_with_len 0 n in
    elim (cases_lt (position_or_len p (range_with_len 0 n)) (length (range_with_len 0 n))) [
      | inl lt ↦ absurd (none-some (position_or_len p (range_with_len 0 n)) (sym (rw (lt-ltb _ _ lt) at none)))
      | inr ge ↦ ap p (sym (get_or-range_with_len 0 n k 0 h ∙ zero-add k)) ∙ fails_before_first p (range_with_len 0 n) k 0 (omega arith)
    ]

-- one of the first so many passes just where the first that passes is below
pub passes_below : {X : Type 0} (p : X → Bool) (xs : List X) (i : ℕ) (d : X) → i ≤ length xs → list_any p (take i xs) ≡ ltb (position_or_len p xs) i
passes_below p xs i d h =
    let size = length-take-le i xs h in
    elim (cases_lt (position_or_len p xs) i) [
      | inl lt ↦ rw (lt-ltb _ _ lt) (list_any_at p (take i xs) (position_or_len p xs) d (omega arith) (rw (get_or-take i xs (position_or_len p xs) d lt) (passes_at_first p xs d (omega arith))))
      | inr ge ↦ rw (le-ltb _ _ ge) (false_from_ne_true _ (λ t.
          let at = any_index p (take i xs) d t in
          let low : at.0 < i = let l = at.1 in omega arith in
          false≢true (sym (fails_before_first p xs at.0 d (omega arith)) ∙ (sym (ap p (get_or-take i xs at.0 d low)) ∙ at.2))))
    ]

-- ---- the block at a place of an entry's map
pub stands_in_table : (es : List Entry) (tests : List Bool) (i s : ℕ) → AreBefore es i tests → i < length es → block_number (entry_at es i).extent s < 512 → block_number (entry_at es i).extent s ≢ 0 → stands_before es i s ≡ (get_or tests (block_number (entry_at es i).extent s) false || list_any (λ number. eqb number (block_number (entry_at es i).extent s)) (take s (entry_at es i).extent.blocks))
unfolding stands_before owner_of
stands_in_table es tests i s are h small some =
    let b = block_number (entry_at es i).extent s in
    let size = are.size in
    let below = passes_below (has_block b) es i no_entry (omega arith) in
    let test : get_or tests b false ≡ ltb (position_or_len (has_block b) es) i = get_or_default tests b false true (omega arith) ∙ (are.at b (omega arith) small ∙ below) in
    rw (ne_eqb b 0 some) (ap (λ (t : Bool). t || list_any (λ number. eqb number b) (take s (entry_at es i).extent.blocks)) (sym test))

pub stands_of_none : (es : List Entry) (i s : ℕ) (e : Entry) → e ≡ entry_at es i → get_or e.extent.blocks s 0 ≡ 0 → stands_before es i s ≡ false
unfolding stands_before block_number
stands_of_none es i s e is h = rw (← is, h) refl

-- over names of one length sameness is a test of each pair
pub same_name_zip : (a b : List ℕ) → length a ≡ length b → list_all (λ (p : ℕ × ℕ). eqb (p.0 % 128) (p.1 % 128)) (zip a b) ≡ same_name a b
unfolding same_name
same_name_zip [] [] h = refl
same_name_zip [] (y ∷ b) h = absurd (omega arith)
same_name_zip (x ∷ a) [] h = absurd (omega arith)
same_name_zip (x ∷ a) (y ∷ b) h = ap (λ (t : Bool). eqb (x % 128) (y % 128) && t) (same_name_zip a b (omega arith))

-- ---- the faults of an entry
pub map_length : (disk : Disk) (i : ℕ) → i ≤ (dpb_of disk.format).last_entry → length (entry_at (entries_of disk) i).extent.blocks ≡ 16
unfolding entry_of extent_of
map_length disk i h =
    rw (entry_is disk i h) (length-map-range_with_len (block_number_in (dpb_of disk.format) (slot_bytes (sector_at disk (record_index disk.format (i / 4))) (i % 4))) 0 16)

none_of_map : {X Y : Type 0} (f : X → Y) (o : Option X) → option_map f o ≡ None → o ≡ None
none_of_map f None h = refl
none_of_map f (Some x) h = absurd (none-some (f x) (sym h))

pub bad_is : (d : Dpb) (es : List Entry) (i s : ℕ) (e : Entry) → e ≡ entry_at es i → s < length e.extent.blocks → ((k : ℕ) → k < s → is_bad_block d (get_or e.extent.blocks k 0) ≡ false) → is_bad_block d (get_or e.extent.blocks s 0) ≡ true → bad_block_in d es i ≡ Some (BadBlock i (get_or e.extent.blocks s 0))
unfolding bad_block_in
bad_is d es i s e is h before here = rw (← is, found (is_bad_block d) e.extent.blocks s 0 h before here) refl

pub good_is : (d : Dpb) (es : List Entry) (i : ℕ) (e : Entry) → e ≡ entry_at es i → ((k : ℕ) → k < length e.extent.blocks → is_bad_block d (get_or e.extent.blocks k 0) ≡ false) → bad_block_in d es i ≡ None
unfolding bad_block_in
good_is d es i e is none = rw (← is, not_found (is_bad_block d) e.extent.blocks 0 none) refl

pub good_number : (d : Dpb) (es : List Entry) (i s : ℕ) → bad_block_in d es i ≡ None → s < length (entry_at es i).extent.blocks → is_bad_block d (block_number (entry_at es i).extent s) ≡ false
unfolding bad_block_in block_number
good_number d es i s none h = none_passes (is_bad_block d) (entry_at es i).extent.blocks s 0 (none_of_map _ _ none) h

pub good_within : (d : Dpb) (b : ℕ) → is_bad_block d b ≡ false → b ≢ 0 → (b ≤ d.last_block) × (is_directory_block d b ≡ false)
unfolding is_bad_block
good_within d b good some =
    let parts = or_parts (ltb d.last_block b) (is_directory_block d b) (rw (ne_eqb b 0 some) at good) in
    (ltb-false d.last_block b parts.0, parts.1)

pub number_small : (disk : Disk) (i s : ℕ) (e : Entry) → e ≡ entry_at (entries_of disk) i → i ≤ (dpb_of disk.format).last_entry → bad_block_in (dpb_of disk.format) (entries_of disk) i ≡ None → s < 16 → get_or e.extent.blocks s 0 ≢ 0 → get_or e.extent.blocks s 0 < 512
unfolding block_number
number_small disk i s e is inside good low some =
    let size = map_length disk i inside in
    let last = last_block_small disk.format in
    let number : get_or (entry_at (entries_of disk) i).extent.blocks s 0 ≡ get_or e.extent.blocks s 0 = ap (λ (x : Entry). get_or x.extent.blocks s 0) (sym is) in
    let within = good_within (dpb_of disk.format) (get_or e.extent.blocks s 0) (rw number at (good_number (dpb_of disk.format) (entries_of disk) i s good (omega arith))) some in
    omega (arith, within.0)

pub stands_is : (es : List Entry) (tests : List Bool) (i s : ℕ) (e : Entry) (answer : Bool) → e ≡ entry_at es i → AreBefore es i tests → i < length es → get_or e.extent.blocks s 0 < 512 → get_or e.extent.blocks s 0 ≢ 0 → answer ≡ (get_or tests (get_or e.extent.blocks s 0) false || list_any (λ number. eqb number (get_or e.extent.blocks s 0)) (take s e.extent.blocks)) → stands_before es i s ≡ answer
unfolding block_number
stands_is es tests i s e answer is are h small some answered =
    let small' : block_number (entry_at es i).extent s < 512 = rw is at small in
    let some' : block_number (entry_at es i).extent s ≢ 0 = rw is at some in
    stands_in_table es tests i s are h small' some' ∙ (rw (← is) (sym answered))

pub twice_is : (es : List Entry) (i s : ℕ) (e : Entry) (owner : ℕ) → e ≡ entry_at es i → s < length e.extent.blocks → ((k : ℕ) → k < s → stands_before es i k ≡ false) → stands_before es i s ≡ true → owner ≡ owner_of es (get_or e.extent.blocks s 0) → twice_block_in es i ≡ Some (TwiceBlock i (get_or e.extent.blocks s 0) owner)
unfolding twice_block_in block_number
twice_is es i s e owner is h before here owned =
    rw (← is, first_number (stands_before es i) (length e.extent.blocks) s h before here, owned) refl

pub single_is : (es : List Entry) (i : ℕ) (e : Entry) → e ≡ entry_at es i → ((k : ℕ) → k < length e.extent.blocks → stands_before es i k ≡ false) → twice_block_in es i ≡ None
unfolding twice_block_in
single_is es i e is none = rw (← is, no_number (stands_before es i) (length e.extent.blocks) none) refl

pub single_place : (es : List Entry) (i s : ℕ) → twice_block_in es i ≡ None → s < length (entry_at es i).extent.blocks → stands_before es i s ≡ false
unfolding twice_block_in
single_place es i s none h = no_number_passes (stands_before es i) (length (entry_at es i).extent.blocks) s (none_of_map _ _ none) h

pub first_past : {X : Type 0} (p : X → Bool) (xs : List X) (i : ℕ) (d : X) → i ≤ length xs → ((k : ℕ) → k < i → p (get_or xs k d) ≡ false) → i ≤ position_or_len p xs
first_past p xs i d h none =
    elim (cases_lt (position_or_len p xs) i) [
      | inl lt ↦ absurd (false≢true (sym (none (position_or_len p xs) lt) ∙ passes_at_first p xs d (omega arith)))
      | inr ge ↦ ge
    ]

pub again_is : (d : Dpb) (es : List Entry) (i earlier : ℕ) (e : Entry) → e ≡ entry_at es i → earlier < i → i ≤ length es → ((k : ℕ) → k < earlier → is_of d e.user e.extent.name (group_of d (extent_number e.extent)) (entry_at es k) ≡ false) → is_of d e.user e.extent.name (group_of d (extent_number e.extent)) (entry_at es earlier) ≡ true → twice_entry_in d es i ≡ Some (TwiceEntry i earlier)
unfolding twice_entry_in first_of entry_at
again_is d es i earlier e is low h before here =
    rw (← is, position_or_len_is (is_of d e.user e.extent.name (group_of d (extent_number e.extent))) es earlier no_entry (omega arith) before (λ _. here), lt-ltb earlier i low) refl

pub alone_is : (d : Dpb) (es : List Entry) (i : ℕ) (e : Entry) → e ≡ entry_at es i → i ≤ length es → ((k : ℕ) → k < i → is_of d e.user e.extent.name (group_of d (extent_number e.extent)) (entry_at es k) ≡ false) → twice_entry_in d es i ≡ None
unfolding twice_entry_in first_of entry_at
alone_is d es i e is h none =
    rw (← is, le-ltb _ _ (first_past (is_of d e.user e.extent.name (group_of d (extent_number e.extent))) es i no_entry h none)) refl

pub alone_before : (d : Dpb) (es : List Entry) (i k : ℕ) → twice_entry_in d es i ≡ None → k < i → is_of d (entry_at es i).user (entry_at es i).extent.name (group_of d (extent_number (entry_at es i).extent)) (entry_at es k) ≡ false
unfolding twice_entry_in first_of entry_at
alone_before d es i k none h =
    let p = is_of d (entry_at es i).user (entry_at es i).extent.name (group_of d (extent_number (entry_at es i).extent)) in
    elim (cases_lt (position_or_len p es) i) [
      | inl lt ↦ absurd (none-some (TwiceEntry i (position_or_len p es)) (sym (rw (lt-ltb (position_or_len p es) i lt) at none)))
      | inr ge ↦ fails_before_first p es k no_entry (omega arith)
    ]

pub past_the_last : (d : Dpb) (es : List Entry) (i : ℕ) → length es ≤ i → fault_of d es i ≡ None
unfolding fault_of entry_at no_entry
past_the_last d es i h = rw (get_or_past es i no_entry h) refl
