-- The marks of all drives.
use Rattle.std.proofs.Common.{◌≡◌, ◌<◌, ℕ, suc, ◌+◌, if◌then◌else◌, List, [], ◌∷◌, ◌++◌, Option, None, map, take, drop, length, get_or, set, refl, sym, ap, ◌∙◌, append_assoc, append-nil, arith, drop-cons}
use Rattle.std.proofs.Math.Seq.{take-length, drop-length}
use Rattle.std.proofs.lemmas.List.{take_more_set, drop-set-lt}
use Rattle.std.specs.List.{slice_get}
use Rattle.cpm_geom.specs.Disk.{Disk}
use Rattle.cpm_drive.specs.declared.drive.Drive.{Drive}
use Rattle.cpm_drives.specs.Disks.{new_drive, image_of}
use Rattle.cpm_drives.specs.Selecting.{has_drive_bit, drive_unmarked, reset_from}

-- the four elements of an array
pub four : {A : Type 0} (xs : List A) (d : A) → length xs ≡ 4 → xs ≡ get_or xs 0 d ∷ get_or xs 1 d ∷ get_or xs 2 d ∷ get_or xs 3 d ∷ []
four (a ∷ b ∷ c ∷ e ∷ []) d h = refl
four [] d h = absurd (let n : 0 ≡ 4 = h in omega arith)
four (a ∷ []) d h = absurd (let n : 1 ≡ 4 = h in omega arith)
four (a ∷ b ∷ []) d h = absurd (let n : 2 ≡ 4 = h in omega arith)
four (a ∷ b ∷ c ∷ []) d h = absurd (let n : 3 ≡ 4 = h in omega arith)
four (a ∷ b ∷ c ∷ e ∷ f ∷ xs) d h = absurd (let n : suc (suc (suc (suc (suc (length xs))))) ≡ 4 = h in omega arith)

-- a vector of all drives
pub all_reset : (drives : List (Option Drive)) → length drives ≡ 4 → reset_from 65535 0 drives ≡ map drive_unmarked drives
unfolding reset_from
all_reset drives h = rw (four drives None h) refl

-- one more of them
pub reset_step : (vector i : ℕ) (drives : List (Option Drive)) (o new : Option Drive) → i < length drives → new ≡ (if has_drive_bit vector i then drive_unmarked (get_or drives i o) else get_or drives i o) → take (i + 1) (set drives i new) ++ reset_from vector (i + 1) (drop (i + 1) (set drives i new)) ≡ take i drives ++ reset_from vector i (drop i drives)
unfolding reset_from
reset_step vector i drives o new h e =
    let part : drop i drives ≡ get_or drives i o ∷ drop (i + 1) drives = drop-cons drives i o h ∙ ap (λ k. get_or drives i o ∷ drop k drives) (let k : suc i ≡ i + 1 = omega arith in k) in
    let rest : drop (i + 1) (set drives i new) ≡ drop (i + 1) drives = drop-set-lt (i + 1) drives i new (omega arith) in
    rw (take_more_set drives i new h, rest, part, e) (append_assoc (take i drives) _ _)

-- all of them
pub reset_whole : (vector i : ℕ) (now before : List (Option Drive)) → length now ≡ i → take i now ++ reset_from vector i (drop i now) ≡ reset_from vector 0 before → now ≡ reset_from vector 0 before
unfolding reset_from
reset_whole vector i now before h e =
    let taken : take i now ≡ now = ap (λ k. take k now) (sym h) ∙ take-length now in
    let none : drop i now ≡ [] = ap (λ k. drop k now) (sym h) ∙ drop-length now in
    rw (← e, taken, none) (sym (append-nil now))

-- the images that are left of the drives
pub images_left : (drives : List (Option Drive)) (images : List (Option Disk)) → length drives ≡ 4 → length images ≡ 4 → ((i : ℕ) → i < 4 → get_or images i None ≡ image_of (get_or drives i None)) → images ≡ map image_of drives
images_left drives images h k at =
    four images None k ∙ (rw (at 0 (omega arith), at 1 (omega arith), at 2 (omega arith), at 3 (omega arith)) refl ∙ ap (map image_of) (sym (four drives None h)))

-- the drives of the first four images, taken one by one
four_new : (images : List Disk) → new_drive (slice_get images 0) ∷ new_drive (slice_get (drop 1 images) 0) ∷ new_drive (slice_get (drop 1 (drop 1 images)) 0) ∷ new_drive (slice_get (drop 1 (drop 1 (drop 1 images))) 0) ∷ [] ≡ map (λ n. new_drive (slice_get images n)) (0 ∷ 1 ∷ 2 ∷ 3 ∷ [])
four_new [] = refl
four_new (a ∷ []) = refl
four_new (a ∷ b ∷ []) = refl
four_new (a ∷ b ∷ c ∷ []) = refl
four_new (a ∷ b ∷ c ∷ d ∷ images) = refl

pub taken_in_turn : (images p q r s : List Disk) (a b c d : Option Drive) → p ≡ images → q ≡ drop 1 p → r ≡ drop 1 q → s ≡ drop 1 r → a ≡ new_drive (slice_get p 0) → b ≡ new_drive (slice_get q 0) → c ≡ new_drive (slice_get r 0) → d ≡ new_drive (slice_get s 0) → a ∷ b ∷ c ∷ d ∷ [] ≡ map (λ n. new_drive (slice_get images n)) (0 ∷ 1 ∷ 2 ∷ 3 ∷ [])
taken_in_turn images p q r s a b c d hp hq hr hs ha hb hc hd =
    rw (ha, hb, hc, hd, hs, hr, hq, hp) (four_new images)
