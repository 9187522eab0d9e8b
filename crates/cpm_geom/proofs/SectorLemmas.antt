-- A sector of an image, and an image with a sector written.
use Rattle.std.proofs.Common.{map, Some, refl, [], ◌∷◌, zero, suc, ◌++◌, add-one, append-nil, ◌≡◌, ◌≢◌, ℕ, ◌+◌, ◌-◌, ◌*◌, ◌/◌, ◌<◌, ◌≤◌, List, length, get_or, take, drop, set, sym, ap, ◌∙◌, inl, inr, arith}
use Rattle.std.proofs.Math.Seq.{take-add}
use Rattle.std.proofs.lemmas.List.Folds.{concat-append}
use Rattle.std.specs.List.{concat, range_with_len, between, slice_range}
use Rattle.std.proofs.lemmas.List.{length-set, get_or-set_same, get_or-set_other, get_or_past, get_or_append_left, get_or-append-add, same_lists}
use Rattle.std.proofs.lemmas.List.FromFn.{map-range_with_len_more, length-map-range_with_len, get_or-map-range_with_len}
use Rattle.std.proofs.lemmas.Slice.{between_is, take-put_mid_below, drop-put_mid, between-put_mid, overwrites}
use Rattle.std.proofs.lemmas.Bool.{cases_eq, cases_lt}
use borrow.Rule.Slice.PartMut.{put_mid}
use Rattle.cpm_geom.specs.declared.format.Format.{Format}
use Rattle.cpm_geom.specs.Geometry.{format_of_length}
use Rattle.cpm_geom.specs.Disk.{sectors_of, disk_of, HasBytes, IsDisk}
use Rattle.cpm_geom.proofs.GeometryLemmas.{format_size}

pub length-sectors : (bytes : List ℕ) → length (sectors_of bytes) ≡ length bytes / 128
unfolding sectors_of
length-sectors bytes = length-map-range_with_len _ 0 _

pub sector_is : (bytes : List ℕ) (i : ℕ) (d : List ℕ) → i < length bytes / 128 → get_or (sectors_of bytes) i d ≡ between (i * 128) (i * 128 + 128) bytes
unfolding sectors_of
sector_is bytes i d h =
    get_or-map-range_with_len (λ k. slice_range bytes (k * 128) (k * 128 + 128)) 0 _ i i d h (omega arith)

-- the bytes of a sector are written
module _ (bytes new : List ℕ) (i : ℕ) (h : i < length bytes / 128) (size : length new ≡ 128) where
  put : List ℕ
  put = put_mid (i * 128) 128 bytes new

  length_put : length (put_mid (i * 128) 128 bytes new) ≡ length bytes
  length_put = simp overwrites (omega arith)

  other : (k : ℕ) → k < length bytes / 128 → k ≢ i → between (k * 128) (k * 128 + 128) (put_mid (i * 128) 128 bytes new) ≡ between (k * 128) (k * 128 + 128) bytes
  other k l n =
      elim (cases_lt k i) [
        | inl lt ↦ rw (between_is, between_is) (ap (drop (k * 128)) (take-put_mid_below (i * 128) 128 bytes new (k * 128 + 128) (omega arith) (omega arith)))
        | inr ge ↦ ap (take (k * 128 + 128 - k * 128)) (drop-put_mid (i * 128) 128 bytes new (k * 128) (omega arith) (omega arith) size)
      ]

  lengths : length (sectors_of (put_mid (i * 128) 128 bytes new)) ≡ length (set (sectors_of bytes) i new)
  lengths = length-sectors _ ∙ (ap (λ n. n / 128) length_put ∙ (sym (length-sectors bytes) ∙ sym (length-set (sectors_of bytes) i new)))

  at : (k : ℕ) (d : List ℕ) → k < length bytes / 128 → get_or (sectors_of (put_mid (i * 128) 128 bytes new)) k d ≡ get_or (set (sectors_of bytes) i new) k d
  at k d l =
      sector_is _ k d (rw length_put l) ∙ elim (cases_eq k i) [
        | inl e ↦ rw e (between-put_mid (i * 128) 128 bytes new (i * 128 + 128) (omega arith) (omega arith) ∙ sym (get_or-set_same (sectors_of bytes) i new d (rw (length-sectors bytes) h)))
        | inr n ↦ other k l n ∙ (sym (sector_is bytes k d l) ∙ sym (get_or-set_other (sectors_of bytes) i k new d n))
      ]

  pub sectors-put : sectors_of (put_mid (i * 128) 128 bytes new) ≡ set (sectors_of bytes) i new
  sectors-put =
      same_lists _ _ lengths (λ k d l. at k d (rw (length-sectors, length_put) at l))

-- as the code cuts it out
pub put_is_set : (bytes new now : List ℕ) (i start size : ℕ) → start ≡ i * 128 → size ≡ 128 → i < length bytes / 128 → new ≡ now → length now ≡ 128 → sectors_of (put_mid start size bytes new) ≡ set (sectors_of bytes) i now
put_is_set bytes new now i start size a b h e l = rw (a, b, e) (sectors-put bytes now i h l)

pub put_length : (bytes new : List ℕ) (start size : ℕ) → length new ≡ size → start + size ≤ length bytes → length (put_mid start size bytes new) ≡ length bytes
put_length bytes new start size h l = simp overwrites (omega arith)

take_length : (xs : List ℕ) → take (length xs) xs ≡ xs
take_length [] = refl
take_length (x ∷ xs) = ap (λ (r : List ℕ). x ∷ r) (take_length xs)

-- the sectors, joined, are the bytes
first_sectors : (bytes : List ℕ) (n : ℕ) → concat (map (λ k. slice_range bytes (k * 128) (k * 128 + 128)) (range_with_len 0 n)) ≡ take (n * 128) bytes
first_sectors bytes zero = refl
first_sectors bytes (suc n) =
    let f = λ (k : ℕ). slice_range bytes (k * 128) (k * 128 + 128) in
    let more : map (λ k. slice_range bytes (k * 128) (k * 128 + 128)) (range_with_len 0 (suc n)) ≡ map (λ k. slice_range bytes (k * 128) (k * 128 + 128)) (range_with_len 0 n) ++ slice_range bytes (n * 128) (n * 128 + 128) ∷ [] = rw add-one at (map-range_with_len_more (λ k. slice_range bytes (k * 128) (k * 128 + 128)) 0 n n (omega arith)) in
    let size : n * 128 + 128 - n * 128 ≡ 128 = omega arith in
    let end : n * 128 + 128 ≡ suc n * 128 = omega arith in
    ap concat more ∙ (concat-append (map (λ k. slice_range bytes (k * 128) (k * 128 + 128)) (range_with_len 0 n)) (slice_range bytes (n * 128) (n * 128 + 128) ∷ []) ∙ (ap (λ xs. xs ++ concat (slice_range bytes (n * 128) (n * 128 + 128) ∷ [])) (first_sectors bytes n) ∙ (rw (append-nil, size) (sym (take-add (n * 128) 128 bytes)) ∙ ap (λ k. take k bytes) end)))

pub joined_sectors : (bytes : List ℕ) (n : ℕ) → length bytes ≡ 128 * n → concat (sectors_of bytes) ≡ bytes
unfolding sectors_of
joined_sectors bytes n h =
    first_sectors bytes (length bytes / 128) ∙ (ap (λ k. take k bytes) (let e : length bytes / 128 * 128 ≡ length bytes = omega arith in e) ∙ take_length bytes)

-- bytes of a format's length are a disk
pub is_disk : (f : Format) (bytes : List ℕ) → format_of_length (length bytes) ≡ Some f → IsDisk (disk_of f bytes)
is_disk f bytes h =
    let size = format_size f _ h in
    record {
      count = length-sectors bytes ∙ omega arith;
      sizes = λ k l. ap length (sector_is bytes k [] (omega arith)) ∙ simp overwrites (omega arith);
    }

-- what is below 256 in the joined sectors is below 256 in each
parts_fit : (xs : List (List ℕ)) → ((i : ℕ) → get_or (concat xs) i 0 < 256) → (place k : ℕ) → get_or (get_or xs place []) k 0 < 256
parts_fit [] h place k = omega arith
parts_fit (x ∷ xs) h zero k =
    elim (cases_lt k (length x)) [
      | inl lt ↦ rw (sym (get_or_append_left x (concat xs) 0 k lt)) (h k)
      | inr ge ↦ rw (get_or_past x k 0 ge) (omega arith)
    ]
parts_fit (x ∷ xs) h (suc place) k =
    parts_fit xs (λ i. rw (sym (get_or-append-add x (concat xs) i 0)) (h (length x + i))) place k

-- a disk of bytes has nothing else
pub has_bytes : (f : Format) (bytes : List ℕ) → format_of_length (length bytes) ≡ Some f → ((i : ℕ) → get_or bytes i 0 < 256) → HasBytes (disk_of f bytes)
has_bytes f bytes h below =
    let joined = joined_sectors bytes _ (format_size f _ h) in
    record { bytes_fit = λ place k. parts_fit (sectors_of bytes) (λ i. rw joined (below i)) place k }
