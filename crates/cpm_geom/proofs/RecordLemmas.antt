-- The records of a disk by number.
use Rattle.std.proofs.Common.{◌≡◌, ℕ, ◌<◌, List, [], length, get_or, set, sym, ◌∙◌, inl, inr, arith}
use Rattle.std.proofs.lemmas.Bool.{cases_eq}
use Rattle.std.proofs.lemmas.List.{length-set, get_or-set_same, get_or-set_other, same_lists}
use Rattle.std.proofs.lemmas.List.FromFn.{length-map-range_with_len, get_or-map-range_with_len}
use Rattle.cpm_geom.specs.declared.format.Format.{Format}
use Rattle.cpm_geom.specs.declared.format.Format.TheVariants.{Ibm3740, Large}
use Rattle.cpm_geom.specs.Geometry.{dpb_of, tracks_of, sectors_per_track, track_of, IsRecord, record_index}
use Rattle.cpm_geom.specs.Disk.{Disk, IsDisk, sector_at, with_sector, record_count, records_of}
use Rattle.cpm_geom.specs.Laws.{AreSectors, AreRecords, IsListOfRecords}
use Rattle.cpm_geom.proofs.GeometryLemmas.{sector_within, sectors_apart, record_sector, record_within, records_apart}

counted : (f : Format) (n : ℕ) → track_of f n < tracks_of f → n < record_count f
unfolding track_of record_count sectors_per_track tracks_of dpb_of
counted Ibm3740 n h = omega arith
counted Large n h = omega arith

there : (f : Format) (n : ℕ) → n < record_count f → track_of f n < tracks_of f
unfolding track_of record_count sectors_per_track tracks_of dpb_of
there Ibm3740 n h = omega arith
there Large n h = omega arith

pub are_sectors : (f : Format) → AreSectors f
are_sectors f = record { within = sector_within f; apart = sectors_apart f }

pub are_records : (f : Format) → AreRecords f
are_records f = record {
  count = λ n. ((λ h. counted f n h.track_there), λ h. record { track_there = there f n h });
  sector = record_sector f;
  apart = records_apart f;
}

size : (d : Disk) → length (records_of d) ≡ record_count d.format
unfolding records_of
size d = length-map-range_with_len _ 0 _

at_number : (d : Disk) (n : ℕ) (x : List ℕ) → n < record_count d.format → get_or (records_of d) n x ≡ sector_at d (record_index d.format n)
unfolding records_of
at_number d n x h = get_or-map-range_with_len (λ k. sector_at d (record_index d.format k)) 0 _ n n x h (omega arith)

-- one record written, seen at any record
module _ (d : Disk) (n : ℕ) (bytes : List ℕ) (disk : IsDisk d) (h : IsRecord d.format n) where
  new : Disk
  new = with_sector d (record_index d.format n) bytes

  sizes : length (records_of (with_sector d (record_index d.format n) bytes)) ≡ length (set (records_of d) n bytes)
  sizes = size (with_sector d (record_index d.format n) bytes) ∙ (sym (size d) ∙ sym (length-set (records_of d) n bytes))

  at : (k : ℕ) (x : List ℕ) → k < record_count d.format → get_or (records_of (with_sector d (record_index d.format n) bytes)) k x ≡ get_or (set (records_of d) n bytes) k x
  at k x l =
      at_number (with_sector d (record_index d.format n) bytes) k x l ∙ elim (cases_eq k n) [
        | inl e ↦ rw e (get_or-set_same d.sectors (record_index d.format n) bytes [] (rw disk.count (record_within d.format n h)) ∙ sym (get_or-set_same (records_of d) n bytes x (rw (size d) (counted d.format n h.track_there))))
        | inr other ↦ get_or-set_other d.sectors (record_index d.format n) (record_index d.format k) bytes [] (λ e. other (records_apart d.format k n (record { track_there = there d.format k l }) h e)) ∙ (sym (at_number d k x l) ∙ sym (get_or-set_other (records_of d) n k bytes x other))
      ]

  pub written_there : records_of (with_sector d (record_index d.format n) bytes) ≡ set (records_of d) n bytes
  written_there =
      same_lists _ _ sizes (λ k x l. at k x (rw (size (with_sector d (record_index d.format n) bytes)) at l))

pub are_listed : (d : Disk) → IsListOfRecords d
are_listed d = record {
  size = size d;
  at = λ n h. at_number d n [] (counted d.format n h.track_there);
  written = λ n bytes disk h. written_there d n bytes disk h;
}
