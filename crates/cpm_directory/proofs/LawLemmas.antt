-- The laws of directories.
use Rattle.std.proofs.Common.{◌≡◌, ◌≢◌, ◌⊎◌, ℕ, ◌+◌, ◌*◌, ◌<◌, ◌≤◌, true, not, ◌&&◌, ◌||◌, eqb, ltb, List, length, get_or, sym, refl, ap, ◌∙◌, inl, inr, arith}
use Rattle.std.specs.List.{list_any}
use Rattle.std.proofs.lemmas.List.{get_or_past}
use Rattle.std.proofs.lemmas.List.Folds.{list_any_at}
use Rattle.std.proofs.lemmas.List.FromFn.{length-map-range_with_len, get_or-map-range_with_len}
use Rattle.std.proofs.lemmas.Bool.{false≢true, eqb-true, eq-eqb, ne_eqb, and_parts, and_from, or_left, or_right, cases_Bool, cases_lt, lt-ltb}
use Rattle.cpm_geom.specs.declared.dpb.Dpb.{Dpb}
use Rattle.cpm_geom.specs.Geometry.{dpb_of, IsRecord, record_index}
use Rattle.cpm_geom.specs.Disk.{Disk, IsDisk, records_of, with_sector}
use Rattle.cpm_geom.proofs.RecordLemmas.{are_listed}
use Rattle.cpm_volume.specs.declared.extent.Entry.{Entry}
use Rattle.cpm_volume.specs.Reserved.{is_reserved, is_directory_block}
use Rattle.cpm_volume.specs.Files.{no_entry, entry_at, InUse, block_number, directory_records, IsFormat}
use Rattle.cpm_volume.proofs.Entries.{in_use_within, any_index}
use Rattle.cpm_volume.proofs.Formats.{each_format}
use Rattle.cpm_directory.specs.Directory.{entries_of}
use Rattle.cpm_directory.specs.Login.{has_block, reserved_at_login}
use Rattle.cpm_directory.specs.Laws.{ReservesAtLogin}
use Rattle.cpm_directory.proofs.DirectoryLemmas.{directory_outside}

pub outside : (disk : Disk) (n : ℕ) (bytes : List ℕ) → IsDisk disk → IsRecord disk.format n → directory_records (dpb_of disk.format) ≤ n → entries_of (with_sector disk (record_index disk.format n) bytes) ≡ entries_of disk
unfolding entries_of
outside disk n bytes is there past =
    rw ((are_listed disk).written n bytes is there) (directory_outside (dpb_of disk.format) (records_of disk) n bytes (each_format disk.format).whole_records past)

-- ---- the blocks reserved at login
within : (d : Dpb) (es : List Entry) (b : ℕ) → b < d.last_block + 1 → is_reserved (reserved_at_login d es) b ≡ (is_directory_block d b || (ltb 0 b && list_any (has_block b) es))
unfolding is_reserved reserved_at_login
within d es b h =
    get_or-map-range_with_len (λ b. is_directory_block d b || (ltb 0 b && list_any (has_block b) es)) 0 (d.last_block + 1) b b true h (omega arith)

past : (d : Dpb) (es : List Entry) (b : ℕ) → d.last_block + 1 ≤ b → is_reserved (reserved_at_login d es) b ≡ true
unfolding is_reserved reserved_at_login
past d es b h =
    get_or_past _ b true (rw (length-map-range_with_len (λ b. is_directory_block d b || (ltb 0 b && list_any (has_block b) es)) 0 (d.last_block + 1)) h)

from_tests : (d : Dpb) (es : List Entry) (b : ℕ) → (is_directory_block d b || (ltb 0 b && list_any (has_block b) es)) ≡ true → is_reserved (reserved_at_login d es) b ≡ true
from_tests d es b h =
    elim (cases_lt b (d.last_block + 1)) [ inl lt ↦ within d es b lt ∙ h | inr ge ↦ past d es b ge ]

pub number_within : (e : Entry) (s : ℕ) → block_number e.extent s ≢ 0 → s < length e.extent.blocks
unfolding block_number
number_within e s h =
    elim (cases_lt s (length e.extent.blocks)) [
      | inl lt ↦ lt
      | inr ge ↦ absurd (h (get_or_past e.extent.blocks s 0 ge))
    ]

by_number : (e : Entry) (s : ℕ) → eqb (get_or e.extent.blocks s 0) (block_number e.extent s) ≡ true
unfolding block_number
by_number e s = eq-eqb _ _ refl

pub has_number : (es : List Entry) (i s : ℕ) → InUse es i → block_number (entry_at es i).extent s ≢ 0 → has_block (block_number (entry_at es i).extent s) (entry_at es i) ≡ true
unfolding has_block
has_number es i s used h =
    and_from _ _ (ap not (ne_eqb _ _ used.used)) (list_any_at (λ number. eqb number (block_number (entry_at es i).extent s)) (entry_at es i).extent.blocks s 0 (number_within (entry_at es i) s h) (by_number (entry_at es i) s))

listed : (es : List Entry) (i b : ℕ) → InUse es i → has_block b (entry_at es i) ≡ true → list_any (has_block b) es ≡ true
unfolding entry_at
listed es i b used h = list_any_at (has_block b) es i no_entry (in_use_within es i used.used) h

in_entry : (es : List Entry) (b : ℕ) → list_any (has_block b) es ≡ true → (i : ℕ) × (s : ℕ) × InUse es i × (block_number (entry_at es i).extent s ≡ b)
unfolding has_block entry_at block_number
in_entry es b h =
    let at_entry = any_index (has_block b) es no_entry h in
    let parts = and_parts _ _ at_entry.2 in
    let at_number = any_index (λ number. eqb number b) (get_or es at_entry.0 no_entry).extent.blocks 0 parts.1 in
    (at_entry.0, at_number.0, record { used = λ e. false≢true (sym (ap not (eq-eqb _ _ e)) ∙ parts.0) }, eqb-true _ _ at_number.2)

in_tests : (d : Dpb) (es : List Entry) (b : ℕ) → IsFormat d → (is_directory_block d b || (ltb 0 b && list_any (has_block b) es)) ≡ true → (b * (d.block_mask + 1) < directory_records d) ⊎ ((i : ℕ) × (s : ℕ) × InUse es i × (block_number (entry_at es i).extent s ≡ b))
in_tests d es b format h =
    elim (cases_Bool (is_directory_block d b)) [
      | inl t ↦ inl ((format.reserves b).0 t)
      | inr f ↦ inr (in_entry es b (and_parts (ltb 0 b) (list_any (has_block b) es) (rw f at h)).1)
    ]

pub reserves : (d : Dpb) (es : List Entry) → IsFormat d → ReservesAtLogin d es
reserves d es format = record {
  directory = λ b h. from_tests d es b (or_left _ _ ((format.reserves b).1 h));
  numbers = λ i s used h. from_tests d es (block_number (entry_at es i).extent s) (or_right _ _ (and_from _ _ (lt-ltb 0 (block_number (entry_at es i).extent s) (omega arith)) (listed es i (block_number (entry_at es i).extent s) used (has_number es i s used h))));
  others = λ b low h. in_tests d es b format (sym (within d es b (omega arith)) ∙ h);
}
