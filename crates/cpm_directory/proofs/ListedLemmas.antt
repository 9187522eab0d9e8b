-- The list of an image's entries, where the image is written.
use Rattle.std.proofs.Common.{◌≡◌, ◌≢◌, ℕ, ◌/◌, ◌%◌, ◌<◌, ◌≤◌, [], List, Option, None, Some, IfSome, Box, Global, get_or, set, refl, sym, ap, ◌∙◌, inl, inr, arith, subst}
use Rattle.std.proofs.lemmas.List.{ext_get_or, get_or-set_same, get_or-set_other, length-set}
use Rattle.std.proofs.lemmas.Bool.{cases_eq}
use Rattle.cpm_geom.specs.declared.format.Format.{Format}
use Rattle.cpm_geom.specs.declared.format.Format.TheVariants.{Ibm3740, Large}
use Rattle.cpm_geom.specs.Geometry.{dpb_of, track_of, sector_of, sectors_per_track, sector_index, record_index, IsSector}
use Rattle.cpm_geom.specs.Disk.{Disk, sector_at, with_sector}
use Rattle.cpm_geom.proofs.GeometryLemmas.{sectors_apart, record_sector}
use Rattle.cpm_volume.specs.declared.extent.Entry.{Entry}
use Rattle.cpm_volume.specs.Files.{entry_at, no_entry, directory_records}
use Rattle.cpm_volume.specs.Encoding.{entry_of}
use Rattle.cpm_directory.specs.Directory.{entries_of, slot_bytes, Lists}
use Rattle.cpm_directory.proofs.DriveLemmas.{entries_length, entry_is, entry_record, last_entry_small}

-- the directory's records are the first, and on one track
pub past_directory : (f : Format) (n : ℕ) → (dpb_of f).last_entry / 4 < n → directory_records (dpb_of f) ≤ n
unfolding directory_records dpb_of
past_directory Ibm3740 n h = omega arith
past_directory Large n h = omega arith

on_track : (f : Format) (i : ℕ) → i ≤ (dpb_of f).last_entry → track_of f (i / 4) ≡ (dpb_of f).track_offset
unfolding dpb_of track_of sectors_per_track
on_track Ibm3740 i h = omega arith
on_track Large i h = omega arith

-- the entries stay
pub still_lists : (es : List Entry) (old new : Disk) → Lists es old → new.format ≡ old.format → entries_of new ≡ entries_of old → Lists es new
still_lists es old new lists format same =
    record {
      size = lists.size;
      at = λ i h. lists.at i (rw format at h) ∙ ap (λ (xs : List Entry). entry_at xs i) (sym same);
    }

-- and so do those that are kept
pub still_kept : (kept : Option (Box (List Entry) Global)) (old new : Disk) → IfSome kept (λ es. Lists es.value old) → new.format ≡ old.format → entries_of new ≡ entries_of old → IfSome kept (λ es. Lists es.value new)
still_kept None old new lists format same = tt
still_kept (Some es) old new lists format same = still_lists es.value old new lists format same

-- what is kept is there
pub kept_lists : (kept : Option (Box (List Entry) Global)) (es : Box (List Entry) Global) (disk : Disk) → IfSome kept (λ x. Lists x.value disk) → kept ≡ Some es → Lists es.value disk
kept_lists kept es disk lists is = subst (λ o. IfSome o (λ (x : Box (List Entry) Global). Lists x.value disk)) is lists

-- one entry is written
pub one_entry : (old new : Disk) (index : ℕ) (e : Entry) (es : List Entry) → Lists es old → new.format ≡ old.format → index ≤ (dpb_of old.format).last_entry → e ≡ entry_at (entries_of new) index → ((k : ℕ) → k ≢ index → entry_at (entries_of new) k ≡ entry_at (entries_of old) k) → Lists (set es index e) new
one_entry old new index e es lists format low value others =
    record {
      size = length-set es index e ∙ lists.size;
      at = λ k h. elim (cases_eq k index) [
        | inl same ↦ rw same (get_or-set_same es index e no_entry (let small = last_entry_small old.format in omega (arith, lists.size)) ∙ value)
        | inr other ↦ get_or-set_other es index k e no_entry other ∙ (lists.at k (rw format at h) ∙ sym (others k other))
      ];
    }

get_or_entry : (disk : Disk) (k : ℕ) → get_or (entries_of disk) k no_entry ≡ entry_at (entries_of disk) k
unfolding entry_at
get_or_entry disk k = refl

other_track : (f : Format) (k track sector : ℕ) → k ≤ (dpb_of f).last_entry → IsSector f track sector → record_index f (k / 4) ≡ sector_index f track sector → track ≡ (dpb_of f).track_offset
unfolding record_index
other_track f k track sector low there e =
    sym (sectors_apart f (track_of f (k / 4)) (sector_of f (k / 4 % sectors_per_track f)) track sector (record_sector f (k / 4) (entry_record f k low)) there e).0 ∙ on_track f k low

-- a sector of another track is written
pub outside_track : (disk : Disk) (track sector : ℕ) (bytes : List ℕ) → IsSector disk.format track sector → track ≢ (dpb_of disk.format).track_offset → entries_of (with_sector disk (sector_index disk.format track sector) bytes) ≡ entries_of disk
outside_track disk track sector bytes there apart =
    let new = with_sector disk (sector_index disk.format track sector) bytes in
    sym (ext_get_or no_entry (entries_of disk) (entries_of new) (entries_length disk ∙ sym (entries_length new)) (λ k l.
    let low : k ≤ (dpb_of disk.format).last_entry = omega (arith, entries_length disk) in
    let left : sector_at new (record_index disk.format (k / 4)) ≡ sector_at disk (record_index disk.format (k / 4)) = get_or-set_other disk.sectors (sector_index disk.format track sector) (record_index disk.format (k / 4)) bytes [] (λ e. apart (other_track disk.format k track sector low there e)) in
    get_or_entry disk k ∙ (entry_is disk k low ∙ (ap (λ bytes. entry_of (dpb_of disk.format) (slot_bytes bytes (k % 4))) (sym left) ∙ (sym (entry_is new k low) ∙ sym (get_or_entry new k))))))
