-- What calls write has room on the disk: entries and extents of bytes.
use Rattle.std.proofs.Common.{◌≡◌, ℕ, zero, suc, ◌+◌, ◌*◌, ◌/◌, ◌%◌, ◌<◌, ◌≤◌, cond, eqb, ltb, List, [], ◌∷◌, ◌++◌, length, get_or, set, refl, ap, ◌∙◌, inl, inr, arith}
use Rattle.std.proofs.lemmas.List.{length-set, length-replicate, get_or-set_same, get_or-set_other, get_or-replicate}
use Rattle.std.proofs.lemmas.Bool.{cases_eq, cases_lt, cond_both, lt-ltb}
use Rattle.cpm_geom.specs.declared.dpb.Dpb.{Dpb}
use Rattle.cpm_geom.specs.declared.format.Format.{Format}
use Rattle.cpm_geom.specs.declared.format.Format.TheVariants.{Ibm3740, Large}
use Rattle.cpm_geom.specs.Geometry.{dpb_of}
use Rattle.cpm_volume.specs.declared.extent.Extent.{Extent}
use Rattle.cpm_volume.specs.declared.extent.Entry.{Entry}
use Rattle.cpm_volume.specs.Files.{extent_number, entry_at, entry_place_of, record_count_of, Volume, DiskWrite, entry_put}
use Rattle.cpm_volume.specs.Encoding.{place_limit}
use Rattle.cpm_volume.specs.Operations.{with_entry, merged, closed_entry, opened_extent, made_extent, with_block, counting}
use Rattle.cpm_volume.proofs.Entries.{entry_at-set_same, entry_at-set_other}
use Rattle.cpm_volume.proofs.Closing.{closed_older, closed_newer}
use Rattle.cpm_drive.specs.Laws.{IsOfBytes, Fits, AllFit}

pub fit_append : (f : Format) (a b : List DiskWrite) → AllFit f a → AllFit f b → AllFit f (a ++ b)
unfolding AllFit
fit_append f [] b h g = g
fit_append f (w ∷ a) b h g = (h.0, fit_append f a b h.1 g)

-- ---- extents
pub place_some : (d : Dpb) (place : ℕ) → 0 < place_limit d place
unfolding place_limit
place_some d place =
    cond_both (ltb d.last_block 256) 256 (cond (ltb place 8) 65536 1) (λ n. 0 < n) (λ _. omega arith) (λ _. cond_both (ltb place 8) 65536 1 (λ n. 0 < n) (λ _. omega arith) (λ _. omega arith))

merged_length : (xs ys : List ℕ) → length (merged xs ys) ≡ length xs
unfolding merged
merged_length [] ys = refl
merged_length (x ∷ xs) [] = refl
merged_length (x ∷ xs) (y ∷ ys) = ap suc (merged_length xs ys)

merged_below : (xs ys : List ℕ) (k limit : ℕ) → get_or xs k 0 < limit → get_or ys k 0 < limit → get_or (merged xs ys) k 0 < limit
unfolding merged
merged_below [] ys k limit h g = h
merged_below (x ∷ xs) [] k limit h g = h
merged_below (x ∷ xs) (y ∷ ys) zero limit h g = cond_both (eqb x 0) y x (λ n. n < limit) (λ _. g) (λ _. h)
merged_below (x ∷ xs) (y ∷ ys) (suc k) limit h g = merged_below xs ys k limit h g

pub merged_fits : (d : Dpb) (x y : Extent) → IsOfBytes d x → IsOfBytes d y → IsOfBytes d (record x { blocks = merged x.blocks y.blocks })
merged_fits d x y fit other = record {
  storable = record {
    name = fit.storable.name;
    map = merged_length x.blocks y.blocks ∙ fit.storable.map;
    numbers = λ place below. merged_below x.blocks y.blocks place (place_limit d place) (fit.storable.numbers place below) (other.storable.numbers place below);
  };
  name = fit.name;
  ex = fit.ex;
  s1 = fit.s1;
  s2 = fit.s2;
  records = fit.records;
}

pub closed_fits : (d : Dpb) (e : Entry) (x : Extent) → IsOfBytes d e.extent → IsOfBytes d x → IsOfBytes d (closed_entry e x).extent
closed_fits d e x fit with_x =
    elim (cases_lt (extent_number x) (extent_number e.extent)) [
      | inl lt ↦ rw (closed_older e x lt) (record { storable = record { name = fit.storable.name; map = with_x.storable.map; numbers = with_x.storable.numbers }; name = fit.name; ex = fit.ex; s1 = fit.s1; s2 = fit.s2; records = fit.records })
      | inr ge ↦ rw (closed_newer e x ge) (record { storable = record { name = fit.storable.name; map = with_x.storable.map; numbers = with_x.storable.numbers }; name = fit.name; ex = with_x.ex; s1 = fit.s1; s2 = with_x.s2; records = with_x.records })
    ]

pub made_fits : (d : Dpb) (x : Extent) (number : ℕ) → number < 8192 → IsOfBytes d x → IsOfBytes d (made_extent x number)
unfolding made_extent
made_fits d x number small fit = record {
  storable = record {
    name = fit.storable.name;
    map = length-replicate {A = ℕ} 16 0;
    numbers = λ place below. rw (get_or-replicate {A = ℕ} 16 place 0 0 below) (place_some d place);
  };
  name = fit.name;
  ex = omega arith;
  s1 = omega arith;
  s2 = omega arith;
  records = omega arith;
}

counted : (number own count : ℕ) → count < 256 → record_count_of number own count < 256
unfolding record_count_of
counted number own count h =
    cond_both (ltb number own) 128 (cond (eqb number own) count 0) (λ n. n < 256) (λ _. omega arith) (λ _. cond_both (eqb number own) count 0 (λ n. n < 256) (λ _. h) (λ _. omega arith))

pub opened_fits : (d : Dpb) (x : Extent) (number : ℕ) → number < 8192 → IsOfBytes d x → IsOfBytes d (opened_extent x number)
unfolding opened_extent
opened_fits d x number small fit = record {
  storable = record { name = fit.storable.name; map = fit.storable.map; numbers = fit.storable.numbers };
  name = fit.name;
  ex = omega arith;
  s1 = fit.s1;
  s2 = omega arith;
  records = counted number (extent_number x) x.record_count fit.records;
}

pub counting_fits : (d : Dpb) (x : Extent) (current : ℕ) → current < 128 → IsOfBytes d x → IsOfBytes d (counting x current)
unfolding counting
counting_fits d x current small fit = record {
  storable = record { name = fit.storable.name; map = fit.storable.map; numbers = fit.storable.numbers };
  name = fit.name;
  ex = fit.ex;
  s1 = fit.s1;
  s2 = fit.s2;
  records = omega (arith, fit.records);
}

-- a record of an extent has its place in the map
place_in_map : (f : Format) (n current : ℕ) → current < 128 → (n % ((dpb_of f).extent_mask + 1)) * (128 / ((dpb_of f).block_mask + 1)) + current / ((dpb_of f).block_mask + 1) < ((dpb_of f).extent_mask + 1) * (128 / ((dpb_of f).block_mask + 1))
unfolding dpb_of
place_in_map Ibm3740 n current h = omega arith
place_in_map Large n current h = omega arith

pub place_within : (f : Format) (x : Extent) (current : ℕ) → current < 128 → entry_place_of (dpb_of f) x current < ((dpb_of f).extent_mask + 1) * (128 / ((dpb_of f).block_mask + 1))
unfolding entry_place_of
place_within f x current h = place_in_map f (extent_number x) current h

-- a block of the drive has room there
block_limit : (f : Format) (b place : ℕ) → b ≤ (dpb_of f).last_block → place < ((dpb_of f).extent_mask + 1) * (128 / ((dpb_of f).block_mask + 1)) → b < place_limit (dpb_of f) place
unfolding dpb_of place_limit
block_limit Ibm3740 b place h there = omega arith
block_limit Large b place h there = rw (lt-ltb place 8 (omega arith)) (omega arith)

pub with_block_fits : (f : Format) (x : Extent) (place b : ℕ) → b ≤ (dpb_of f).last_block → place < ((dpb_of f).extent_mask + 1) * (128 / ((dpb_of f).block_mask + 1)) → IsOfBytes (dpb_of f) x → IsOfBytes (dpb_of f) (with_block x place b)
unfolding with_block
with_block_fits f x place b h there fit = record {
  storable = record {
    name = fit.storable.name;
    map = length-set x.blocks place b ∙ fit.storable.map;
    numbers = λ k below. elim (cases_eq k place) [
      | inl e ↦ rw (e, get_or-set_same x.blocks place b 0 (let m = fit.storable.map in omega arith)) (block_limit f b place h there)
      | inr n ↦ rw (get_or-set_other x.blocks place k b 0 n) (fit.storable.numbers k below)
    ];
  };
  name = fit.name;
  ex = fit.ex;
  s1 = fit.s1;
  s2 = fit.s2;
  records = fit.records;
}

-- ---- volumes
pub record VolumeFits (f : Format) (v : Volume) : Type 0 where
  pub count : length v.entries ≡ (dpb_of f).last_entry + 1
  pub users : (i : ℕ) → i < length v.entries → (entry_at v.entries i).user < 256
  pub entries : (i : ℕ) → i < length v.entries → IsOfBytes (dpb_of f) (entry_at v.entries i).extent
  pub log : AllFit f v.written

module _ (f : Format) (v : Volume) (fit : VolumeFits f v) (i : ℕ) (e : Entry) (below : i < length v.entries) (user : e.user < 256) (extent : IsOfBytes (dpb_of f) e.extent) where
  own : entry_at (set v.entries i e) i ≡ e
  own = entry_at-set_same v.entries i e below

  within : (k : ℕ) → k < length (set v.entries i e) → k < length v.entries
  within k h = rw length-set at h

  put_user : (k : ℕ) → k < length (set v.entries i e) → (entry_at (set v.entries i e) k).user < 256
  put_user k h =
      elim (cases_eq k i) [
        | inl same ↦ rw (same, own) user
        | inr other ↦ rw (entry_at-set_other v.entries i k e other) (fit.users k (within k h))
      ]

  put_extent : (k : ℕ) → k < length (set v.entries i e) → IsOfBytes (dpb_of f) (entry_at (set v.entries i e) k).extent
  put_extent k h =
      elim (cases_eq k i) [
        | inl same ↦ rw (same, own) extent
        | inr other ↦ rw (entry_at-set_other v.entries i k e other) (fit.entries k (within k h))
      ]

  put_log : AllFit f (v.written ++ entry_put i (entry_at (set v.entries i e) i) ∷ [])
  unfolding AllFit Fits
  put_log =
      let count = fit.count in
      fit_append f v.written (entry_put i (entry_at (set v.entries i e) i) ∷ []) fit.log ((omega arith, rw own user, rw own extent), tt)

  pub put_fits : VolumeFits f (with_entry v i (set v.entries i e))
  unfolding with_entry
  put_fits = record { count = length-set v.entries i e ∙ fit.count; users = put_user; entries = put_extent; log = put_log }
