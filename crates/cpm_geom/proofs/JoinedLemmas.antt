-- Lists of sectors and the bytes that they make, joined.
use Rattle.std.proofs.Common.{Some, refl, [], ◌∷◌, zero, suc, ◌++◌, ◌≡◌, ℕ, ◌+◌, ◌-◌, ◌*◌, ◌/◌, ◌<◌, List, length, get_or, take, drop, sym, ap, ◌∙◌, arith}
use Rattle.std.proofs.Math.Seq.{drop-append-add, take-append_seam}
use Rattle.std.proofs.lemmas.List.{length-append, get_or_default, same_lists}
use Rattle.std.specs.List.{concat}
use Rattle.cpm_geom.specs.Geometry.{format_of_length}
use Rattle.cpm_geom.specs.Disk.{Disk, disk_of, sectors_of, IsDisk}
use Rattle.cpm_geom.specs.Laws.{DisksAreTheirBytes, BytesAreTheirDisk}
use Rattle.cpm_geom.proofs.GeometryLemmas.{format_of_size, format_size}
use Rattle.cpm_geom.proofs.SectorLemmas.{is_disk, joined_sectors, length-sectors, sector_is}

-- sectors of 128 bytes, joined, have so many
pub length-joined : (xs : List (List ℕ)) → ((k : ℕ) → k < length xs → length (get_or xs k []) ≡ 128) → length (concat xs) ≡ length xs * 128
length-joined [] sizes = refl
length-joined (x ∷ xs) sizes =
    let first = sizes 0 (omega arith) in
    let others = length-joined xs (λ k h. sizes (suc k) (omega arith)) in
    length-append x (concat xs) ∙ omega arith

-- a sector is where it was joined
pub joined_at : (xs : List (List ℕ)) (i : ℕ) → ((k : ℕ) → k < length xs → length (get_or xs k []) ≡ 128) → i < length xs → take 128 (drop (i * 128) (concat xs)) ≡ get_or xs i []
joined_at [] i sizes h = absurd (omega arith)
joined_at (x ∷ xs) zero sizes h =
    let first : length x ≡ 128 = sizes 0 (omega arith) in
    ap (λ n. take n (x ++ concat xs)) (sym first) ∙ take-append_seam x (concat xs)
joined_at (x ∷ xs) (suc i) sizes h =
    let first : length x ≡ 128 = sizes 0 (omega arith) in
    let place : suc i * 128 ≡ length x + i * 128 = omega arith in
    ap (λ n. take 128 (drop n (x ++ concat xs))) place ∙ (ap (take 128) (drop-append-add x (concat xs) (i * 128)) ∙ joined_at xs i (λ k l. sizes (suc k) (omega arith)) (omega arith))

-- sectors, joined and cut, are themselves
pub sectors_joined : (xs : List (List ℕ)) → ((k : ℕ) → k < length xs → length (get_or xs k []) ≡ 128) → sectors_of (concat xs) ≡ xs
sectors_joined xs sizes =
    let whole = length-joined xs sizes in
    let count : length (concat xs) / 128 ≡ length xs = omega arith in
    same_lists _ _ (length-sectors (concat xs) ∙ count) (λ k d h.
    let within : k < length xs = rw (length-sectors, count) at h in
    let size : k * 128 + 128 - k * 128 ≡ 128 = omega arith in
    sector_is (concat xs) k d (omega arith) ∙ (ap (λ n. take n (drop (k * 128) (concat xs))) size ∙ (joined_at xs k sizes within ∙ get_or_default xs k [] d within)))

-- a disk is that of its bytes
pub disk_joined : (d : Disk) → IsDisk d → disk_of d.format (concat d.sectors) ≡ d
disk_joined d h =
    ap (λ (s : List (List ℕ)). record d { sectors = s }) (sectors_joined d.sectors (λ k l. h.sizes k (rw h.count at l)))

-- and its bytes have its format's length
pub disk_length : (d : Disk) → IsDisk d → format_of_length (length (concat d.sectors)) ≡ Some d.format
disk_length d h =
    let whole = length-joined d.sectors (λ k l. h.sizes k (rw h.count at l)) in
    ap format_of_length (whole ∙ ap (λ n. n * 128) h.count) ∙ format_of_size d.format

pub disks : DisksAreTheirBytes
disks f d h e = rw (sym e) (disk_joined d h)

pub bytes_joined : BytesAreTheirDisk
bytes_joined f bytes h = (joined_sectors bytes _ (format_size f _ h), is_disk f bytes h)
