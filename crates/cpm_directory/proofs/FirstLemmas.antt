-- The first entry from a place on.
use Rattle.std.proofs.Common.{◌≡◌, ℕ, ◌+◌, ◌-◌, ◌<◌, ◌≤◌, true, false, eqb, List, length, drop, length-drop, refl, inl, inr, arith}
use Rattle.std.proofs.lemmas.List.{get_or-drop}
use Rattle.std.proofs.lemmas.List.Sums.{position_or_len_is}
use Rattle.std.proofs.lemmas.Bool.{lt-ltb, le-ltb, cases_lt, ne_eqb, eq-eqb}
use Rattle.cpm_geom.specs.declared.dpb.Dpb.{Dpb}
use Rattle.cpm_volume.specs.declared.extent.Entry.{Entry}
use Rattle.cpm_volume.specs.Files.{entry_at, first_free, no_entry, deleted}
use Rattle.cpm_directory.specs.declared.pattern.Pattern.{Pattern}
use Rattle.cpm_directory.specs.Matching.{is_match, match_from}

pub match_is : (d : Dpb) (pattern : Pattern) (es : List Entry) (from i : ℕ) → from ≤ i → i < length es → ((k : ℕ) → from ≤ k → k < i → is_match d pattern (entry_at es k) ≡ false) → is_match d pattern (entry_at es i) ≡ true → match_from d pattern es from ≡ i
unfolding match_from entry_at
match_is d pattern es from i low high before here =
    let size = length-drop from es in
    let at = get_or-drop from es in
    let first = position_or_len_is (is_match d pattern) (drop from es) (i - from) no_entry (omega arith)
    (λ k h. rw (get_or-drop from es k no_entry) (before (from + k) (omega arith) (omega arith)))
    (λ h. rw (get_or-drop from es (i - from) no_entry) (rw (let e : from + (i - from) ≡ i = omega arith in e) here)) in
    rw (lt-ltb from (length es) (omega arith)) (omega arith)

pub no_match : (d : Dpb) (pattern : Pattern) (es : List Entry) (from : ℕ) → ((k : ℕ) → from ≤ k → k < length es → is_match d pattern (entry_at es k) ≡ false) → match_from d pattern es from ≡ length es
unfolding match_from entry_at
no_match d pattern es from none =
    elim (cases_lt from (length es)) [
      | inl lt ↦
          let size = length-drop from es in
          let first = position_or_len_is (is_match d pattern) (drop from es) (length es - from) no_entry (omega arith)
          (λ k h. rw (get_or-drop from es k no_entry) (none (from + k) (omega arith) (omega arith)))
          (λ h. absurd (omega arith)) in
          rw (lt-ltb from (length es) lt) (omega arith)
      | inr ge ↦ rw (le-ltb from (length es) ge) refl
    ]

pub free_is : (es : List Entry) (i : ℕ) → i ≤ length es → ((k : ℕ) → k < i → ((entry_at es k).user ≡ deleted → ⊥)) → (i < length es → (entry_at es i).user ≡ deleted) → first_free es ≡ i
unfolding first_free entry_at
free_is es i h before here =
    position_or_len_is (λ (e : Entry). eqb e.user deleted) es i no_entry h (λ k l. ne_eqb _ _ (before k l)) (λ l. eq-eqb _ _ (here l))
