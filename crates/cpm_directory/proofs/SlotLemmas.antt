-- An entry written in its record.
use Rattle.std.proofs.Common.{◌≡◌, ◌≢◌, ℕ, ◌+◌, ◌-◌, ◌*◌, ◌/◌, ◌%◌, ◌<◌, ◌≤◌, List, [], length, get_or, set, take, drop, sym, refl, ap, ◌∙◌, inl, inr, arith}
use Rattle.std.specs.Prelude.{Result, Ok, Err, MatchResult, IsOk}
use Rattle.std.specs.List.{between}
use Rattle.std.proofs.lemmas.Slice.{between_is, take-put_mid_below, drop-put_mid, between-put_mid}
use Rattle.std.proofs.lemmas.Bool.{cases_lt}
use Rattle.std.proofs.lemmas.List.{get_or-set_other}
use borrow.Rule.Slice.PartMut.{put_mid}
use Rattle.std.proofs.lemmas.List.FromFn.{length-map-range_with_len}
use Rattle.cpm_geom.specs.declared.dpb.Dpb.{Dpb}
use Rattle.cpm_geom.specs.Geometry.{dpb_of, record_index}
use Rattle.cpm_geom.proofs.GeometryLemmas.{record_within}
use Rattle.cpm_geom.specs.Disk.{Disk, IsDisk, records_of, sector_at, with_sector}
use Rattle.cpm_geom.proofs.RecordLemmas.{are_listed, are_records}
use Rattle.cpm_volume.specs.declared.extent.Entry.{Entry}
use Rattle.cpm_volume.specs.Files.{entry_at, no_entry}
use Rattle.cpm_volume.specs.Encoding.{entry_of, entry_byte, entry_bytes, IsStorable}
use Rattle.cpm_volume.proofs.EncodingLemmas.{same_entry}
use Rattle.cpm_directory.specs.Directory.{slot_bytes, directory_of, entries_of, record_with_entry}
use Rattle.cpm_directory.proofs.DirectoryLemmas.{directory_put}
use Rattle.cpm_directory.proofs.DriveLemmas.{entry_record}

-- a call that refuses only where a fact is absent does not where it holds
pub must_be_ok : {A E : Type 0} (r : Result A E) (P : A → Type 0) (Q : Type 0) (R : E → Type 0) → MatchResult r P (λ e. (Q → ⊥) × R e) → Q → IsOk r
must_be_ok (Ok v) P Q R h q = refl
must_be_ok (Err e) P Q R h q = absurd (h.0 q)

pub slot_is : (bytes entry : List ℕ) (slot : ℕ) → put_mid (32 * slot) 32 bytes entry ≡ record_with_entry bytes slot entry
unfolding record_with_entry
slot_is bytes entry slot = refl

module _ (bytes entry : List ℕ) (slot : ℕ) (size : length bytes ≡ 128) (below : slot < 4) (count : length entry ≡ 32) where
  pub own_slot : slot_bytes (record_with_entry bytes slot entry) slot ≡ entry
  unfolding slot_bytes
  own_slot = rw (← slot_is bytes entry slot) (between-put_mid (32 * slot) 32 bytes entry (32 * slot + 32) (omega arith) (omega arith))

  other_between : (other : ℕ) → other ≢ slot → between (32 * other) (32 * other + 32) (put_mid (32 * slot) 32 bytes entry) ≡ between (32 * other) (32 * other + 32) bytes
  other_between other n =
      elim (cases_lt other slot) [
        | inl lt ↦ rw (between_is, between_is) (ap (drop (32 * other)) (take-put_mid_below (32 * slot) 32 bytes entry (32 * other + 32) (omega arith) (omega arith)))
        | inr ge ↦ ap (take (32 * other + 32 - 32 * other)) (drop-put_mid (32 * slot) 32 bytes entry (32 * other) (omega arith) (omega arith) count)
      ]

  pub other_slot : (other : ℕ) → other ≢ slot → slot_bytes (record_with_entry bytes slot entry) other ≡ slot_bytes bytes other
  unfolding slot_bytes
  other_slot other n = rw (← slot_is bytes entry slot) (other_between other n)

pub slot_written : (s slot : ℕ) (b b' e e' : List ℕ) → s ≡ slot → b ≡ b' → e ≡ e' → put_mid (32 * s) (32 * s + 32 - 32 * s) b e ≡ record_with_entry b' slot e'
unfolding record_with_entry
slot_written s slot b b' e e' p q r =
    let size : 32 * slot + 32 - 32 * slot ≡ 32 = omega arith in
    rw (p, q, r, size) refl

pub entry_size : (d : Dpb) (e : Entry) → length (entry_bytes d e) ≡ 32
unfolding entry_bytes
entry_size d e = length-map-range_with_len (entry_byte d e) 0 32

-- an entry written in its record is written in the directory
put_as : (disk : Disk) (i : ℕ) (e f : Entry) → IsDisk disk → i ≤ (dpb_of disk.format).last_entry → entry_of (dpb_of disk.format) (entry_bytes (dpb_of disk.format) e) ≡ f → entries_of (with_sector disk (record_index disk.format (i / 4)) (record_with_entry (sector_at disk (record_index disk.format (i / 4))) (i % 4) (entry_bytes (dpb_of disk.format) e))) ≡ set (entries_of disk) i f
unfolding entries_of
put_as disk i e f whole h back =
    let there = entry_record disk.format i h in
    let listed = are_listed disk in
    let here = listed.at (i / 4) there in
    let size : length (sector_at disk (record_index disk.format (i / 4))) ≡ 128 = whole.sizes _ (record_within disk.format _ there) in
    let own : entry_of (dpb_of disk.format) (slot_bytes (record_with_entry (sector_at disk (record_index disk.format (i / 4))) (i % 4) (entry_bytes (dpb_of disk.format) e)) (i % 4)) ≡ f = ap (entry_of (dpb_of disk.format)) (own_slot (sector_at disk (record_index disk.format (i / 4))) (entry_bytes (dpb_of disk.format) e) (i % 4) size (omega arith) (entry_size (dpb_of disk.format) e)) ∙ back in
    let others : (slot : ℕ) → slot ≢ i % 4 → slot_bytes (record_with_entry (sector_at disk (record_index disk.format (i / 4))) (i % 4) (entry_bytes (dpb_of disk.format) e)) slot ≡ slot_bytes (get_or (records_of disk) (i / 4) []) slot = λ slot n. other_slot (sector_at disk (record_index disk.format (i / 4))) (entry_bytes (dpb_of disk.format) e) (i % 4) size (omega arith) (entry_size (dpb_of disk.format) e) slot n ∙ ap (λ b. slot_bytes b slot) (sym here) in
    let below : i / 4 < length (records_of disk) = rw listed.size (((are_records disk.format).count (i / 4)).0 there) in
    ap (directory_of (dpb_of disk.format)) (listed.written (i / 4) _ whole there) ∙ directory_put (dpb_of disk.format) (records_of disk) i (record_with_entry (sector_at disk (record_index disk.format (i / 4))) (i % 4) (entry_bytes (dpb_of disk.format) e)) f (omega arith) below own others

pub put_in_directory : (disk : Disk) (i : ℕ) (e : Entry) → IsDisk disk → i ≤ (dpb_of disk.format).last_entry → IsStorable (dpb_of disk.format) e.extent → entries_of (with_sector disk (record_index disk.format (i / 4)) (record_with_entry (sector_at disk (record_index disk.format (i / 4))) (i % 4) (entry_bytes (dpb_of disk.format) e))) ≡ set (entries_of disk) i e
put_in_directory disk i e whole h storable =
    put_as disk i e e whole h (same_entry (dpb_of disk.format) e storable)

-- and no other entry changes
pub put_leaves : (disk : Disk) (i : ℕ) (e : Entry) → IsDisk disk → i ≤ (dpb_of disk.format).last_entry → (k : ℕ) → k ≢ i → entry_at (entries_of (with_sector disk (record_index disk.format (i / 4)) (record_with_entry (sector_at disk (record_index disk.format (i / 4))) (i % 4) (entry_bytes (dpb_of disk.format) e)))) k ≡ entry_at (entries_of disk) k
unfolding entry_at
put_leaves disk i e whole h k other =
    rw (put_as disk i e (entry_of (dpb_of disk.format) (entry_bytes (dpb_of disk.format) e)) whole h refl) (get_or-set_other (entries_of disk) i k _ no_entry other)

-- and no other record
pub put_keeps : (disk : Disk) (i : ℕ) (bytes : List ℕ) → IsDisk disk → i ≤ (dpb_of disk.format).last_entry → (n : ℕ) → n ≢ i / 4 → get_or (records_of (with_sector disk (record_index disk.format (i / 4)) bytes)) n [] ≡ get_or (records_of disk) n []
put_keeps disk i bytes whole h n other =
    rw ((are_listed disk).written (i / 4) bytes whole (entry_record disk.format i h)) (get_or-set_other (records_of disk) (i / 4) n bytes [] other)
