-- The first entry from a place on that is listed.
use Rattle.std.proofs.Common.{◌≡◌, ℕ, ◌+◌, ◌-◌, ◌<◌, ◌≤◌, true, false, List, length, drop, length-drop, refl, inl, inr, arith}
use Rattle.std.proofs.lemmas.List.{get_or-drop}
use Rattle.std.proofs.lemmas.List.Sums.{position_or_len_is}
use Rattle.std.proofs.lemmas.Bool.{lt-ltb, le-ltb, cases_lt}
use Rattle.cpm_geom.specs.declared.dpb.Dpb.{Dpb}
use Rattle.cpm_volume.specs.declared.extent.Entry.{Entry}
use Rattle.cpm_volume.specs.Files.{entry_at, no_entry}
use Rattle.cpm_geom.specs.Disk.{Disk}
use Rattle.cpm_geom.specs.Geometry.{dpb_of}
use Rattle.cpm_directory.specs.Directory.{entries_of}
use Rattle.cpm_directory.proofs.DriveLemmas.{last_entry_small, entries_length}
use Rattle.cpm_ccp.specs.Listing.{is_listed, listed_from}

-- an index of an entry
pub index_within : (disk : Disk) (i : ℕ) → i < length (entries_of disk) → i ≤ (dpb_of disk.format).last_entry
index_within disk i h = omega (arith, h, entries_length disk)

pub index_small : (disk : Disk) (i : ℕ) → i < length (entries_of disk) → i < 65535
index_small disk i h = omega (arith, h, entries_length disk, last_entry_small disk.format)

pub listed_is : (d : Dpb) (user : ℕ) (pattern : List ℕ) (es : List Entry) (from i : ℕ) → from ≤ i → i < length es → ((k : ℕ) → from ≤ k → k < i → is_listed d user pattern (entry_at es k) ≡ false) → is_listed d user pattern (entry_at es i) ≡ true → listed_from d user pattern es from ≡ i
unfolding listed_from entry_at
listed_is d user pattern es from i low high before here =
    let size = length-drop from es in
    let at = get_or-drop from es in
    let first = position_or_len_is (is_listed d user pattern) (drop from es) (i - from) no_entry (omega arith)
    (λ k h. rw (get_or-drop from es k no_entry) (before (from + k) (omega arith) (omega arith)))
    (λ h. rw (get_or-drop from es (i - from) no_entry) (rw (let e : from + (i - from) ≡ i = omega arith in e) here)) in
    rw (lt-ltb from (length es) (omega arith)) (omega arith)

pub none_listed : (d : Dpb) (user : ℕ) (pattern : List ℕ) (es : List Entry) (from : ℕ) → ((k : ℕ) → from ≤ k → k < length es → is_listed d user pattern (entry_at es k) ≡ false) → listed_from d user pattern es from ≡ length es
unfolding listed_from entry_at
none_listed d user pattern es from none =
    elim (cases_lt from (length es)) [
      | inl lt ↦
          let size = length-drop from es in
          let first = position_or_len_is (is_listed d user pattern) (drop from es) (length es - from) no_entry (omega arith)
          (λ k h. rw (get_or-drop from es k no_entry) (none (from + k) (omega arith) (omega arith)))
          (λ h. absurd (omega arith)) in
          rw (lt-ltb from (length es) lt) (omega arith)
      | inr ge ↦ rw (le-ltb from (length es) ge) refl
    ]
