-- How far the records of an entry reach, and those of a file.
use Rattle.std.proofs.Common.{◌≡◌, ◌≢◌, ℕ, ◌+◌, ◌-◌, ◌*◌, ◌/◌, ◌<◌, ◌≤◌, true, false, eqb, List, Option, Some, None, length, get_or, sym, refl, ap, ◌∙◌, inl, inr, arith}
use Rattle.std.specs.List.{list_any}
use Rattle.std.proofs.lemmas.List.{get_or_past}
use Rattle.std.proofs.lemmas.List.Folds.{list_any_at}
use Rattle.std.proofs.lemmas.Bool.{false≢true, cases_lt, and_parts, and_from, eqb-true, eq-eqb, ne_eqb, false_from_ne_true}
use Rattle.cpm_geom.specs.declared.dpb.Dpb.{Dpb}
use Rattle.cpm_geom.specs.declared.format.Format.{Format}
use Rattle.cpm_geom.specs.declared.format.Format.TheVariants.{Ibm3740, Large}
use Rattle.cpm_geom.specs.Geometry.{dpb_of}
use Rattle.cpm_geom.specs.Disk.{Disk, records_of}
use Rattle.cpm_volume.specs.declared.extent.Entry.{Entry}
use Rattle.cpm_volume.specs.Files.{deleted, same_name, extent_number, group_of, no_entry, entry_at, InUse, is_of, first_of, entry_block, file_block, record_in, file_record, IsWellFormed}
use Rattle.cpm_volume.specs.Names.{is_named}
use Rattle.cpm_volume.proofs.Entries.{in_use_within, is_of_parts, is_of_from, first_of_is, first_of_passes, any_index}
use Rattle.cpm_volume.proofs.NameLemmas.{same_name-sym, same_name-trans}
use Rattle.cpm_volume.proofs.Making.{none_block}
use Rattle.cpm_directory.specs.Directory.{entries_of}
use Rattle.cpm_directory.specs.Login.{reserved_at_login}
use Rattle.cpm_directory.proofs.CheckedLemmas.{checked}
use Rattle.cpm_image_files.specs.ImageFiles.{IsSoundDisk}
use Rattle.cpm_image_files.specs.Taken.{HasRecords, IsThere, IsAbsent}
use Rattle.cpm_image_files.specs.Reach.{is_of_file, IsInGroup, IsEnd, IsEndBefore}
use Rattle.cpm_image_files.proofs.RemovingLemmas.{user_of, no_entry_named}

-- ---- whether a file is there

pub any_there : (disk : Disk) (user : ℕ) (name : List ℕ) → user ≢ deleted → list_any (is_named user name) (entries_of disk) ≡ true → IsThere disk user name
unfolding entry_at
any_there disk user name live h =
    let found = any_index (is_named user name) (entries_of disk) no_entry h in
    (found.0, record { used = λ z. live (sym (user_of user name (get_or (entries_of disk) found.0 no_entry) found.2) ∙ z) }, found.2)

pub any_absent : (disk : Disk) (user : ℕ) (name : List ℕ) → user ≢ deleted → list_any (is_named user name) (entries_of disk) ≡ false → IsAbsent disk user name
unfolding entry_at
any_absent disk user name live h i =
    elim (cases_lt i (length (entries_of disk))) [
      | inl lt ↦ false_from_ne_true _ (λ t. false≢true (sym h ∙ list_any_at (is_named user name) (entries_of disk) i no_entry lt t))
      | inr ge ↦ rw (get_or_past (entries_of disk) i no_entry ge) (no_entry_named user name live)
    ]

-- ---- the records of a group

pub group_small : (f : Format) (number : ℕ) → number < 512 → group_of (dpb_of f) number * (128 * ((dpb_of f).extent_mask + 1)) + 128 * ((dpb_of f).extent_mask + 1) ≤ 65536
unfolding dpb_of group_of
group_small Ibm3740 number h = omega arith
group_small Large number h = omega arith

pub in_group : (f : Format) (number n : ℕ) → group_of (dpb_of f) number * (128 * ((dpb_of f).extent_mask + 1)) ≤ n → n < group_of (dpb_of f) number * (128 * ((dpb_of f).extent_mask + 1)) + 128 * ((dpb_of f).extent_mask + 1) → group_of (dpb_of f) (n / 128) ≡ group_of (dpb_of f) number
unfolding dpb_of group_of
in_group Ibm3740 number n a b = omega arith
in_group Large number n a b = omega arith

pub from_group : (f : Format) (number n : ℕ) → group_of (dpb_of f) (n / 128) ≡ group_of (dpb_of f) number → (group_of (dpb_of f) number * (128 * ((dpb_of f).extent_mask + 1)) ≤ n) × (n < group_of (dpb_of f) number * (128 * ((dpb_of f).extent_mask + 1)) + 128 * ((dpb_of f).extent_mask + 1))
unfolding dpb_of group_of
from_group Ibm3740 number n h = (omega arith, omega arith)
from_group Large number n h = (omega arith, omega arith)

-- an end, once all records of the group were looked at
pub end_is : (f : Format) (e : Entry) (end size start : ℕ) → size ≡ 128 * ((dpb_of f).extent_mask + 1) → start ≡ group_of (dpb_of f) (extent_number e.extent) * size → end ≤ start + size → (0 < end → (start ≤ end - 1) × (entry_block (dpb_of f) e (end - 1) ≢ 0)) → ((n : ℕ) → start ≤ n → n < start + size → end ≤ n → entry_block (dpb_of f) e n ≡ 0) → IsEnd (dpb_of f) e end
end_is f e end size start s g small last none =
    let first : start ≡ group_of (dpb_of f) (extent_number e.extent) * (128 * ((dpb_of f).extent_mask + 1)) = g ∙ ap (λ k. group_of (dpb_of f) (extent_number e.extent) * k) s in
    record {
      last = λ some.
          let l = last some in
          (in_group f (extent_number e.extent) (end - 1) (rw (sym first) l.0) (rw (sym first, sym s) (omega arith)), l.1);
      none = λ n group past.
          let within = from_group f (extent_number e.extent) n group in
          none n (rw first within.0) (rw (first, s) within.1) past;
    }

-- ---- the records of a file

pub is_of_file_of : (d : Dpb) (user : ℕ) (name : List ℕ) (group : ℕ) (e : Entry) → is_of d user name group e ≡ true → is_of_file user name e ≡ true
unfolding is_of_file
is_of_file_of d user name group e h =
    let p = is_of_parts d user name group e h in
    and_from _ _ (eq-eqb _ _ p.0) p.1

pub is_of_file_parts : (user : ℕ) (name : List ℕ) (e : Entry) → is_of_file user name e ≡ true → (e.user ≡ user) × (same_name name e.extent.name ≡ true)
unfolding is_of_file
is_of_file_parts user name e h =
    let p = and_parts (eqb e.user user) _ h in (eqb-true _ _ p.0, p.1)

some_none : (x : List ℕ) → ◌≡◌ {A = Option (List ℕ)} (Some x) None → ⊥
some_none x e = cc

module _ (disk : Disk) (user : ℕ) (name : List ℕ) (live : user ≢ deleted) (sound : IsSoundDisk disk) where
  well : IsWellFormed (dpb_of disk.format) (entries_of disk) (reserved_at_login (dpb_of disk.format) (entries_of disk))
  well = (checked disk).0 sound

  used_by : (i : ℕ) (group : ℕ) → is_of (dpb_of disk.format) user name group (entry_at (entries_of disk) i) ≡ true → InUse (entries_of disk) i
  used_by i group h = record { used = λ z. live (sym (is_of_parts (dpb_of disk.format) user name group _ h).0 ∙ z) }

  -- a file has one entry of a group
  one : (i j group : ℕ) → is_of (dpb_of disk.format) user name group (entry_at (entries_of disk) i) ≡ true → is_of (dpb_of disk.format) user name group (entry_at (entries_of disk) j) ≡ true → j ≡ i
  one i j group h g =
      let p = is_of_parts (dpb_of disk.format) user name group _ h in
      let q = is_of_parts (dpb_of disk.format) user name group _ g in
      sym (well.apart i j (used_by i group h) (is_of_from (dpb_of disk.format) _ _ _ (entry_at (entries_of disk) j) (q.0 ∙ sym p.0) (same_name-trans _ _ _ (same_name-sym _ _ p.1) (same_name-sym _ _ q.1)) (q.2 ∙ sym p.2)))

  pub block_at_entry : (i n : ℕ) → is_of_file user name (entry_at (entries_of disk) i) ≡ true → IsInGroup (dpb_of disk.format) (entry_at (entries_of disk) i) n → file_block (dpb_of disk.format) (entries_of disk) user name n ≡ entry_block (dpb_of disk.format) (entry_at (entries_of disk) i) n
  unfolding file_block
  block_at_entry i n of group =
      let p = is_of_file_parts user name _ of in
      let is = is_of_from (dpb_of disk.format) user name (group_of (dpb_of disk.format) (n / 128)) (entry_at (entries_of disk) i) p.0 p.1 (sym group) in
      ap (λ k. entry_block (dpb_of disk.format) (entry_at (entries_of disk) k) n) (first_of_is (dpb_of disk.format) (entries_of disk) user name (group_of (dpb_of disk.format) (n / 128)) i live is (λ j t. one i j _ is t))

  block_past : (end n : ℕ) → IsEndBefore (dpb_of disk.format) (entries_of disk) user name (length (entries_of disk)) end → end ≤ n → file_block (dpb_of disk.format) (entries_of disk) user name n ≡ 0
  unfolding file_block
  block_past end n all past =
      elim (cases_lt (first_of (dpb_of disk.format) (entries_of disk) user name (group_of (dpb_of disk.format) (n / 128))) (length (entries_of disk))) [
        | inl lt ↦
            let t = first_of_passes (dpb_of disk.format) (entries_of disk) user name (group_of (dpb_of disk.format) (n / 128)) lt in
            all.none _ n lt (is_of_file_of (dpb_of disk.format) user name _ _ t) (sym (is_of_parts (dpb_of disk.format) user name _ _ t).2) past
        | inr ge ↦ none_block (dpb_of disk.format) (entries_of disk) user name n (λ j. false_from_ne_true _ (λ t.
            let first = first_of_is (dpb_of disk.format) (entries_of disk) user name (group_of (dpb_of disk.format) (n / 128)) j live t (λ k u. one j k _ t u) in
            let within = in_use_within (entries_of disk) j (used_by j _ t).used in
            absurd (omega arith)))
      ]

  none_in : (records : List (List ℕ)) (b n : ℕ) → b ≡ 0 → record_in (dpb_of disk.format) records b n ≡ None
  unfolding record_in
  none_in records b n e = rw (eq-eqb _ _ e) refl

  some_in : (records : List (List ℕ)) (b n : ℕ) → b ≢ 0 → record_in (dpb_of disk.format) records b n ≢ None
  unfolding record_in
  some_in records b n some e = absurd (let h = rw (ne_eqb _ _ some) at e in some_none _ h)

  pub has_records : (end : ℕ) → IsEndBefore (dpb_of disk.format) (entries_of disk) user name (length (entries_of disk)) end → HasRecords disk user name end
  unfolding file_record
  has_records end all = record {
    last = λ some.
        let l = all.last some in
        some_in (records_of disk) _ (end - 1) (λ z. l.4 (sym (block_at_entry l.0 (end - 1) l.2 l.3) ∙ z));
    none = λ m past. none_in (records_of disk) _ m (block_past end m all past);
  }
