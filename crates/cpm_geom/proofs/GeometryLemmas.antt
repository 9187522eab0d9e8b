-- Where sectors and records lie.
use Rattle.std.proofs.Common.{◌≡◌, ℕ, ◌+◌, ◌*◌, ◌%◌, ◌<◌, ◌≤◌, Bool, true, ◌&&◌, leb, eqb, List, [], ◌∷◌, Some, length, get_or, refl, sym, ap, ◌∙◌, inl, inr, arith}
use Rattle.std.specs.List.{list_all, range_with_len}
use Rattle.std.proofs.lemmas.Bool.{and_parts, leb-true, eqb-true, true_from_ne_false, false≢true, cases_eq, ne_eqb, eq-eqb}
use Rattle.std.proofs.lemmas.List.Folds.{list_all_at}
use Rattle.std.proofs.lemmas.List.FromFn.{get_or-range_with_len}
use Rattle.std.proofs.lemmas.Nat.{mod_below}
use Rattle.cpm_geom.specs.declared.format.Format.{Format}
use Rattle.cpm_geom.specs.declared.format.Format.TheVariants.{Ibm3740, Large}
use Rattle.cpm_geom.specs.Geometry.{format_of_length, dpb_of, tracks_of, first_sector_of, skew, sector_of, sectors_per_track, sector_count, IsSector, sector_index, track_of, IsRecord, record_index}

-- an image of a format is its sectors
pub format_size : (f : Format) (n : ℕ) → format_of_length n ≡ Some f → n ≡ 128 * sector_count f
unfolding format_of_length sector_count sectors_per_track tracks_of dpb_of
format_size Ibm3740 n h =
    elim (cases_eq n 256256) [
      | inl e ↦ e
      | inr other ↦ let large = rw (ne_eqb _ _ other) at h in elim (cases_eq n 2105344) [
        | inl e ↦ let wrong = rw (eq-eqb _ _ e) at large in cc wrong
        | inr neither ↦ let none = rw (ne_eqb _ _ neither) at large in cc none
      ]
    ]
format_size Large n h =
    elim (cases_eq n 256256) [
      | inl e ↦ let wrong = rw (eq-eqb _ _ e) at h in cc wrong
      | inr other ↦ let large = rw (ne_eqb _ _ other) at h in elim (cases_eq n 2105344) [
        | inl e ↦ e
        | inr neither ↦ let none = rw (ne_eqb _ _ neither) at large in cc none
      ]
    ]

-- and so many sectors are an image of it
pub format_of_size : (f : Format) → format_of_length (sector_count f * 128) ≡ Some f
unfolding format_of_length sector_count sectors_per_track tracks_of dpb_of
format_of_size Ibm3740 = refl
format_of_size Large = refl

-- the places of the skew table, by its sectors
unfoldable pub places : List ℕ
places =
    0 ∷ 0 ∷ 13 ∷ 9 ∷ 22 ∷ 5 ∷ 18 ∷ 1 ∷ 14 ∷ 10 ∷ 23 ∷ 6 ∷ 19 ∷ 2 ∷ 15 ∷ 11 ∷ 24 ∷ 7 ∷ 20 ∷ 3 ∷ 16 ∷ 12 ∷ 25 ∷ 8 ∷ 21 ∷ 4 ∷ 17 ∷ []

unfoldable pub test : ℕ → Bool
test i = (leb 1 (get_or skew i 0) && leb (get_or skew i 0) 26) && eqb (get_or places (get_or skew i 0) 0) i

all_pass : list_all test (range_with_len 0 26) ≡ true
unfolding test skew places
all_pass = refl

range_size : length (range_with_len 0 26) ≡ 26
range_size = refl

pub passes : (i : ℕ) → i < 26 → test i ≡ true
passes i h =
    let at = get_or-range_with_len 0 26 i 0 h in
    let same : get_or (range_with_len 0 26) i 0 ≡ i = omega arith in
    true_from_ne_false _ (λ f. false≢true (sym (list_all_at test (range_with_len 0 26) i 0 (omega (arith, range_size)) (ap test same ∙ f)) ∙ all_pass))

-- the sector of a track's record is one of the track's
pub sector_there : (f : Format) (i : ℕ) → i < sectors_per_track f → (first_sector_of f ≤ sector_of f i) × (sector_of f i < first_sector_of f + sectors_per_track f)
unfolding sectors_per_track dpb_of first_sector_of sector_of test
sector_there Ibm3740 i h =
    let p = and_parts _ _ (and_parts _ _ (passes i h)).0 in
    let low = leb-true 1 (get_or skew i 0) p.0 in
    let high = leb-true (get_or skew i 0) 26 p.1 in
    (omega arith, omega arith)
sector_there Large i h = (omega arith, omega arith)

-- and no other record's
pub sector_apart : (f : Format) (i j : ℕ) → i < sectors_per_track f → j < sectors_per_track f → sector_of f i ≡ sector_of f j → i ≡ j
unfolding sectors_per_track dpb_of sector_of test
sector_apart Ibm3740 i j h k e =
    let p = eqb-true _ _ (and_parts _ _ (passes i h)).1 in
    let q = eqb-true _ _ (and_parts _ _ (passes j k)).1 in
    sym p ∙ (ap (λ s. get_or places s 0) e ∙ q)
sector_apart Large i j h k e = e

-- a sector lies in the image
pub sector_within : (f : Format) (track sector : ℕ) → IsSector f track sector → sector_index f track sector < sector_count f
unfolding sector_index sector_count sectors_per_track tracks_of first_sector_of dpb_of
sector_within Ibm3740 track sector h = let a = h.track_there in let b = h.first in let c = h.last in omega arith
sector_within Large track sector h = let a = h.track_there in let b = h.first in let c = h.last in omega arith

-- and no other sector there
pub sectors_apart : (f : Format) (t s t' s' : ℕ) → IsSector f t s → IsSector f t' s' → sector_index f t s ≡ sector_index f t' s' → (t ≡ t') × (s ≡ s')
unfolding sector_index sectors_per_track tracks_of first_sector_of dpb_of
sectors_apart Ibm3740 t s t' s' h k e =
    let a = h.first in let b = h.last in let c = k.first in let d = k.last in
    let tracks : t ≡ t' = omega arith in
    (tracks, omega arith)
sectors_apart Large t s t' s' h k e =
    let a = h.first in let b = h.last in let c = k.first in let d = k.last in
    let tracks : t ≡ t' = omega arith in
    (tracks, omega arith)

pub track_has_records : (f : Format) → 0 < sectors_per_track f
unfolding sectors_per_track dpb_of
track_has_records Ibm3740 = omega arith
track_has_records Large = omega arith

-- a record is a sector
pub record_sector : (f : Format) (n : ℕ) → IsRecord f n → IsSector f (track_of f n) (sector_of f (n % sectors_per_track f))
record_sector f n h =
    let s = sector_there f (n % sectors_per_track f) (mod_below _ _ (track_has_records f)) in
    record { track_there = h.track_there; first = s.0; last = s.1 }

pub record_within : (f : Format) (n : ℕ) → IsRecord f n → record_index f n < sector_count f
unfolding record_index
record_within f n h = sector_within f _ _ (record_sector f n h)

same_place : (f : Format) (m n : ℕ) → track_of f m ≡ track_of f n → m % sectors_per_track f ≡ n % sectors_per_track f → m ≡ n
unfolding track_of sectors_per_track dpb_of
same_place Ibm3740 m n e h = omega arith
same_place Large m n e h = omega arith

pub records_apart : (f : Format) (m n : ℕ) → IsRecord f m → IsRecord f n → record_index f m ≡ record_index f n → m ≡ n
unfolding record_index
records_apart f m n h k e =
    let same = sectors_apart f _ _ _ _ (record_sector f m h) (record_sector f n k) e in
    let below = track_has_records f in
    same_place f m n same.0 (sector_apart f _ _ (mod_below _ _ below) (mod_below _ _ below) same.1)

pub sector_count_small : (f : Format) → sector_count f ≤ 65536
unfolding sector_count sectors_per_track tracks_of dpb_of
sector_count_small Ibm3740 = omega arith
sector_count_small Large = omega arith

pub tracks_small : (f : Format) → tracks_of f < 65536
unfolding tracks_of
tracks_small Ibm3740 = omega arith
tracks_small Large = omega arith
