-- The directory after a record was written.
use Rattle.std.proofs.Common.{◌≡◌, ◌≢◌, ℕ, ◌+◌, ◌/◌, ◌%◌, ◌<◌, ◌≤◌, List, [], length, get_or, set, sym, ap, ◌∙◌, inl, inr, arith}
use Rattle.std.proofs.lemmas.List.{length-set, get_or-set_same, get_or-set_other, same_lists}
use Rattle.std.proofs.lemmas.List.FromFn.{length-map-range_with_len, get_or-map-range_with_len}
use Rattle.std.proofs.lemmas.Bool.{cases_eq}
use Rattle.cpm_geom.specs.declared.dpb.Dpb.{Dpb}
use Rattle.cpm_volume.specs.declared.extent.Entry.{Entry}
use Rattle.cpm_volume.specs.Files.{directory_records}
use Rattle.cpm_volume.specs.Encoding.{entry_of}
use Rattle.cpm_directory.specs.Directory.{slot_bytes, directory_of}

pub directory_length : (d : Dpb) (records : List (List ℕ)) → length (directory_of d records) ≡ d.last_entry + 1
unfolding directory_of
directory_length d records = length-map-range_with_len _ 0 _

pub directory_at : (d : Dpb) (records : List (List ℕ)) (i : ℕ) (e : Entry) → i < d.last_entry + 1 → get_or (directory_of d records) i e ≡ entry_of d (slot_bytes (get_or records (i / 4) []) (i % 4))
unfolding directory_of
directory_at d records i e h =
    get_or-map-range_with_len (λ i. entry_of d (slot_bytes (get_or records (i / 4) []) (i % 4))) 0 _ i i e h (omega arith)

-- a record past the directory leaves it
pub directory_outside : (d : Dpb) (records : List (List ℕ)) (r : ℕ) (bytes : List ℕ) → (d.last_entry + 1) % 4 ≡ 0 → directory_records d ≤ r → directory_of d (set records r bytes) ≡ directory_of d records
unfolding directory_records
directory_outside d records r bytes whole h =
    same_lists _ _ (directory_length d _ ∙ sym (directory_length d records)) (λ i e l.
    let below : i < d.last_entry + 1 = rw directory_length at l in
    let other : i / 4 ≢ r = λ same. omega arith in
    directory_at d _ i e below ∙ (rw (get_or-set_other records r (i / 4) bytes [] other) (sym (directory_at d records i e below))))

-- an entry that is written in its record, and no other there, is written in the directory
pub directory_put : (d : Dpb) (records : List (List ℕ)) (i : ℕ) (bytes : List ℕ) (e : Entry) → i < d.last_entry + 1 → i / 4 < length records → entry_of d (slot_bytes bytes (i % 4)) ≡ e → ((slot : ℕ) → slot ≢ i % 4 → slot_bytes bytes slot ≡ slot_bytes (get_or records (i / 4) []) slot) → directory_of d (set records (i / 4) bytes) ≡ set (directory_of d records) i e
directory_put d records i bytes e inside there own others =
    same_lists _ _ (directory_length d _ ∙ (sym (directory_length d records) ∙ sym (length-set (directory_of d records) i e))) (λ k f l.
    let below : k < d.last_entry + 1 = rw directory_length at l in
    directory_at d _ k f below ∙ elim (cases_eq k i) [
      | inl same ↦ rw (same, get_or-set_same records (i / 4) bytes [] there, own) (sym (get_or-set_same (directory_of d records) i e f (rw directory_length inside)))
      | inr other ↦ elim (cases_eq (k / 4) (i / 4)) [
        | inl row ↦
            let slot : k % 4 ≢ i % 4 = λ same. omega arith in
            rw (row, get_or-set_same records (i / 4) bytes [] there, others (k % 4) slot) (ap (λ q. entry_of d (slot_bytes (get_or records q []) (k % 4))) (sym row) ∙ (sym (directory_at d records k f below) ∙ sym (get_or-set_other (directory_of d records) i k e f other)))
        | inr row ↦ rw (get_or-set_other records (i / 4) (k / 4) bytes [] row) (sym (directory_at d records k f below) ∙ sym (get_or-set_other (directory_of d records) i k e f other))
      ]
    ])
