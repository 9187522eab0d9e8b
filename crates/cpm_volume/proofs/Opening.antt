-- What an open gives.
use Rattle.std.proofs.Common.{◌≡◌, ◌≢◌, ℕ, ◌/◌, ◌%◌, ◌<◌, ◌≤◌, Bool, true, false, List, Some, sym, refl, ap, ◌∙◌, inl, inr, arith}
use Rattle.std.proofs.lemmas.Bool.{eq-eqb, ne_eqb, cases_eq, cases_lt, lt-ltb, le-ltb}
use Rattle.std.proofs.lemmas.Bool.Decides.{nat_tests}
use Rattle.cpm_geom.specs.declared.dpb.Dpb.{Dpb}
use Rattle.cpm_volume.specs.declared.extent.Extent.{Extent}
use Rattle.cpm_volume.specs.declared.extent.Entry.{Entry}
use Rattle.cpm_volume.specs.Files.{extent_number, group_of, map_place, same_name, has_wildcard, deleted, entry_at, InUse, is_of, first_of, first_match, record_count_of, open_record_count, block_number, block_if, entry_block, file_block, open_block, open_file_block, IsWellFormed, IsFcbKept}
use Rattle.cpm_volume.specs.Operations.{opened_extent, open_extent}
use Rattle.cpm_volume.proofs.Entries.{in_use_within, is_of_parts, is_of_from, first_of_is}
use Rattle.cpm_volume.proofs.NameLemmas.{first_match_plain, same_name-trans, same_name-sym, same_name-refl, same_wildcard, first_of_same, file_block_same}

pub opened_number : (e : Extent) (number : ℕ) → number < 512 → extent_number (opened_extent e number) ≡ number
unfolding opened_extent extent_number
opened_number e number h = omega arith

pub opened_count : (e : Extent) (number : ℕ) → (opened_extent e number).record_count ≡ record_count_of number (extent_number e) e.record_count
unfolding opened_extent
opened_count e number = refl

pub opened_blocks : (e : Extent) (number s : ℕ) → block_number (opened_extent e number) s ≡ block_number e s
unfolding opened_extent block_number
opened_blocks e number s = refl

pub opened_map : (e : Extent) (number : ℕ) → (opened_extent e number).blocks ≡ e.blocks
unfolding opened_extent
opened_map e number = refl

-- the count of an extent that was opened, at an entry whose number is no less
open_count_same : (number k : ℕ) → (x stored : Extent) → extent_number x ≡ number → x.record_count ≡ record_count_of number (extent_number stored) stored.record_count → number ≤ extent_number stored → open_record_count k x stored ≡ record_count_of k (extent_number stored) stored.record_count
unfolding open_record_count record_count_of
open_count_same number k x stored a b h = grind (arith, nat_tests)

-- at any entry, no record of 128 is lost
open_count_more : (number k j : ℕ) → (x stored : Extent) → extent_number x ≡ number → x.record_count ≡ record_count_of number (extent_number stored) stored.record_count → j < 128 → j < record_count_of k (extent_number stored) stored.record_count → j < open_record_count k x stored
unfolding open_record_count record_count_of
open_count_more number k j x stored a b h g = grind (arith, nat_tests)

full_below : (number own rc : ℕ) → number < own → record_count_of number own rc ≡ 128
unfolding record_count_of
full_below number own rc h = grind (arith, nat_tests)

-- so the opened extent has the entry's blocks, or more
open_block_same : (d : Dpb) (e : Entry) (number n : ℕ) → number < 512 → number ≤ extent_number e.extent → open_block d (opened_extent e.extent number) e.extent n ≡ entry_block d e n
unfolding open_block entry_block block_if
open_block_same d e number n small h =
    rw (open_count_same number (n / 128) (opened_extent e.extent number) e.extent (opened_number e.extent number small) (opened_count e.extent number) h, opened_blocks e.extent number (map_place d n)) refl

open_block_more : (d : Dpb) (e : Entry) (number n : ℕ) → number < 512 → entry_block d e n ≢ 0 → open_block d (opened_extent e.extent number) e.extent n ≡ entry_block d e n
unfolding open_block entry_block block_if
open_block_more d e number n small h =
    elim (cases_lt (n % 128) (record_count_of (n / 128) (extent_number e.extent) e.extent.record_count)) [
      | inl lt ↦ rw (lt-ltb _ _ lt, lt-ltb _ _ (open_count_more number (n / 128) (n % 128) (opened_extent e.extent number) e.extent (opened_number e.extent number small) (opened_count e.extent number) (omega arith) lt), opened_blocks e.extent number (map_place d n)) refl
      | inr ge ↦ absurd (h (rw (le-ltb _ _ ge) refl))
    ]

module _ (d : Dpb) (es : List Entry) (reserved : List Bool) (user : ℕ) (name : List ℕ) (number i : ℕ) (user_ok : user ≢ deleted) (plain : has_wildcard name ≡ false) (small : number < 512) (wf : IsWellFormed d es reserved) (there : is_of d user name (group_of d number) (entry_at es i) ≡ true) where
  there_parts : ((entry_at es i).user ≡ user) × (same_name name (entry_at es i).extent.name ≡ true) × (group_of d (extent_number (entry_at es i).extent) ≡ group_of d number)
  there_parts = is_of_parts d user name _ _ there

  pub there_used : InUse es i
  there_used = record { used = λ e. user_ok (sym there_parts.0 ∙ e) }

  only : (v : ℕ) (nm : List ℕ) (group j k : ℕ) → v ≢ deleted → is_of d v nm group (entry_at es j) ≡ true → is_of d v nm group (entry_at es k) ≡ true → j ≡ k
  only v nm group j k ok p q =
      let a = is_of_parts d v nm group _ p in
      let b = is_of_parts d v nm group _ q in
      wf.apart j k (record { used = λ e. ok (sym a.0 ∙ e) }) (is_of_from d _ _ _ _ (b.0 ∙ sym a.0) (same_name-trans _ _ _ (same_name-sym _ _ a.1) (same_name-sym _ _ b.1)) (b.2 ∙ sym a.2))

  there_first : first_of d es user name (group_of d number) ≡ i
  there_first = first_of_is d es user name _ i user_ok there (λ j q. only user name _ j i user_ok q there)

  pub open_answer : open_extent d es user name number ≡ Some (opened_extent (entry_at es i).extent number)
  unfolding open_extent
  open_answer =
      let f : first_match d es user name (group_of d number) ≡ i = first_match_plain d es user name _ plain ∙ there_first in
      rw (f, lt-ltb _ _ (in_use_within es i there_used.used)) refl

  pub open_kept : IsFcbKept d es reserved user (opened_extent (entry_at es i).extent number)
  unfolding opened_extent
  open_kept = record {
    index = i;
    plain = same_wildcard _ _ there_parts.1 ∙ plain;
    owner = is_of_from d user _ _ (entry_at es i) there_parts.0 (same_name-refl _) (there_parts.2 ∙ sym (ap (group_of d) (opened_number _ number small)));
    full = λ h. full_below number (extent_number (entry_at es i).extent) _ (let e = opened_number (entry_at es i).extent number small in omega arith);
    once = λ s t h e. (wf.once i i s t there_used there_used (rw (opened_blocks (entry_at es i).extent number s) at h) (let e' = rw (opened_blocks (entry_at es i).extent number s, opened_blocks (entry_at es i).extent number t) at e in e')).1;
    stored = λ s h. rw (opened_blocks (entry_at es i).extent number s) (wf.stored i s there_used (rw (opened_blocks (entry_at es i).extent number s) at h));
    apart = λ j s t p n h e. n (sym (wf.once i j s t there_used p (rw (opened_blocks (entry_at es i).extent number s) at h) (rw (opened_blocks (entry_at es i).extent number s) at e)).0);
    agrees = λ s h. opened_blocks (entry_at es i).extent number s;
  }

  pub opened_name_same : same_name (opened_extent (entry_at es i).extent number).name name ≡ true
  unfolding opened_extent
  opened_name_same = same_name-sym _ _ there_parts.1

  by_entry : (n : ℕ) → group_of d (n / 128) ≡ group_of d number → file_block d es user name n ≡ entry_block d (entry_at es i) n
  unfolding file_block
  by_entry n h = rw (h, there_first) refl

  by_extent : (n : ℕ) → group_of d (n / 128) ≡ group_of d number → open_file_block d es user (opened_extent (entry_at es i).extent number) n ≡ open_block d (opened_extent (entry_at es i).extent number) (entry_at es i).extent n
  unfolding open_file_block
  by_extent n h =
      let e = opened_number (entry_at es i).extent number small in
      rw (e, h, first_of_same d es user _ name (group_of d number) opened_name_same, there_first, eq-eqb (group_of d number) (group_of d number) refl) refl

  elsewhere : (n : ℕ) → group_of d (n / 128) ≢ group_of d number → open_file_block d es user (opened_extent (entry_at es i).extent number) n ≡ file_block d es user name n
  unfolding open_file_block
  elsewhere n h =
      rw (opened_number (entry_at es i).extent number small, ne_eqb _ _ h) (file_block_same d es user _ name n opened_name_same)

  -- read at an entry whose number is no less, the file is what the directory says
  pub open_same : number ≤ extent_number (entry_at es i).extent → (n : ℕ) → open_file_block d es user (opened_extent (entry_at es i).extent number) n ≡ file_block d es user name n
  open_same h n =
      elim (cases_eq (group_of d (n / 128)) (group_of d number)) [
        | inl g ↦ by_extent n g ∙ (open_block_same d (entry_at es i) number n small h ∙ sym (by_entry n g))
        | inr g ↦ elsewhere n g
      ]

  -- at any entry no record is lost
  pub open_more : (n : ℕ) → file_block d es user name n ≢ 0 → open_file_block d es user (opened_extent (entry_at es i).extent number) n ≡ file_block d es user name n
  open_more n h =
      elim (cases_eq (group_of d (n / 128)) (group_of d number)) [
        | inl g ↦ by_extent n g ∙ (open_block_more d (entry_at es i) number n small (λ z. h (by_entry n g ∙ z)) ∙ sym (by_entry n g))
        | inr g ↦ elsewhere n g
      ]
