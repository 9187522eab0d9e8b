-- Steps of the loops over a list's files and over names.
use Rattle.std.proofs.Common.{◌≡◌, ◌≢◌, ◌∙◌, ℕ, ◌+◌, ◌%◌, ◌<◌, ◌≤◌, Bool, true, false, ◌&&◌, ◌||◌, cond, eqb, ltb, List, [], ◌∷◌, ◌++◌, Option, length, get_or, drop, refl, sym, ap, arith, append_assoc, append-nil, eq-eqb, ne_eqb, le-ltb}
use Rattle.std.specs.List.{insert, list_all, position_or_len}
use Rattle.std.proofs.lemmas.List.{at_drop_more, at_drop_all}
use Rattle.cpm_image_files.specs.declared.listing.DiskFile.{DiskFile}
use Rattle.cpm_disk_commands.specs.HostNames.{host_part, shown_small}
use Rattle.cpm_disk_commands.specs.Listing.{comes_before, is_blank_byte, is_less, is_wanted, file_line, lines_of, in_its_place, placed_all, visible, seen_part}

-- ---- what is written so far, and what is left

pub appended : (text text' part rest whole all : List ℕ) → text ++ whole ≡ all → whole ≡ part ++ rest → text' ≡ text ++ part → text' ++ rest ≡ all
appended text text' part rest whole all h e f =
    ap (λ (xs : List ℕ). xs ++ rest) f ∙ append_assoc text part rest ∙ ap (λ (xs : List ℕ). text ++ xs) (sym e) ∙ h

pub appended_all : (text whole all : List ℕ) → text ++ whole ≡ all → whole ≡ [] → text ≡ all
appended_all text whole all h e = sym (append-nil text) ∙ ap (λ (xs : List ℕ). text ++ xs) (sym e) ∙ h

pub joined : {t' t'' : List ℕ} (t a b : List ℕ) → t' ≡ t ++ a → t'' ≡ t' ++ b → t'' ≡ t ++ (a ++ b)
joined t a b e f = f ∙ ap (λ (xs : List ℕ). xs ++ b) e ∙ append_assoc t a b

-- a file that is not read
abbrev pub no_file : DiskFile
no_file = record { user = 0; name = []; records = 0 }

-- ---- names that are compared

less_at : (name other : List ℕ) (i : ℕ) → i < length name → i < length other
    → is_less (drop i name) (drop i other)
    ≡ (ltb (get_or name i 0 % 128) (get_or other i 0 % 128) || (eqb (get_or name i 0 % 128) (get_or other i 0 % 128) && is_less (drop (i + 1) name) (drop (i + 1) other)))
unfolding is_less
less_at name other i l m =
    at_drop_more (λ (xs : List ℕ). is_less xs (drop i other)) name i 0 l ∙ at_drop_more (λ (xs : List ℕ). is_less (get_or name i 0 ∷ drop (i + 1) name) xs) other i 0 m

pub less_same : (name other : List ℕ) (i : ℕ) → i < length name → i < length other → get_or name i 0 % 128 ≡ get_or other i 0 % 128
    → is_less (drop i name) (drop i other) ≡ is_less (drop (i + 1) name) (drop (i + 1) other)
less_same name other i l m e =
    less_at name other i l m ∙ rw (le-ltb (get_or name i 0 % 128) (get_or other i 0 % 128) (omega (arith, e))) (rw (eq-eqb (get_or name i 0 % 128) (get_or other i 0 % 128) e) refl)

pub less_differs : (name other : List ℕ) (i : ℕ) → i < length name → i < length other → get_or name i 0 % 128 ≢ get_or other i 0 % 128
    → is_less (drop i name) (drop i other) ≡ ltb (get_or name i 0 % 128) (get_or other i 0 % 128)
less_differs name other i l m e =
    less_at name other i l m ∙ rw (ne_eqb (get_or name i 0 % 128) (get_or other i 0 % 128) e) (or_none _)
  where
    or_none : (b : Bool) → (b || false) ≡ b
    or_none true = refl
    or_none false = refl

pub less_end : (name other : List ℕ) (i : ℕ) → length name ≤ i → is_less (drop i name) (drop i other) ≡ false
unfolding is_less
less_end name other i l = at_drop_all (λ (xs : List ℕ). is_less xs (drop i other)) name i l

-- ---- files in their order

pub placed_more : (done done' : List DiskFile) (files : List DiskFile) (i : ℕ) (d : DiskFile) (all : List DiskFile) → i < length files
    → done' ≡ insert done (position_or_len (comes_before (get_or files i d)) done) (get_or files i d)
    → placed_all done (drop i files) ≡ all → placed_all done' (drop (i + 1) files) ≡ all
unfolding in_its_place placed_all
placed_more done done' files i d all l e h =
    ap (λ (xs : List DiskFile). placed_all xs (drop (i + 1) files)) e ∙ sym (at_drop_more (placed_all done) files i d l) ∙ h

pub placed_end : (done files : List DiskFile) (i : ℕ) (all : List DiskFile) → length files ≤ i → placed_all done (drop i files) ≡ all → done ≡ all
unfolding placed_all
placed_end done files i all l h = sym (at_drop_all (placed_all done) files i l) ∙ h

-- ---- lines and parts

pub lines_more : (user : Option ℕ) (files : List DiskFile) (i : ℕ) (d : DiskFile) → i < length files
    → lines_of user (drop i files) ≡ cond (is_wanted user (get_or files i d)) (file_line (get_or files i d)) [] ++ lines_of user (drop (i + 1) files)
unfolding lines_of
lines_more user files i d l = at_drop_more (lines_of user) files i d l

pub lines_end : (user : Option ℕ) (files : List DiskFile) (i : ℕ) → length files ≤ i → lines_of user (drop i files) ≡ []
unfolding lines_of
lines_end user files i l = at_drop_all (lines_of user) files i l

part_at : (part : List ℕ) (i : ℕ) → i < length part
    → seen_part (drop i part) ≡ cond (list_all is_blank_byte (drop i part)) [] (visible (get_or part i 0) ∷ seen_part (drop (i + 1) part))
unfolding seen_part
part_at part i l =
    at_drop_more seen_part part i 0 l
    ∙ sym (at_drop_more (λ (xs : List ℕ). cond (list_all is_blank_byte xs) [] (visible (get_or part i 0) ∷ seen_part (drop (i + 1) part))) part i 0 l)

pub part_more : (part : List ℕ) (i : ℕ) → i < length part → list_all is_blank_byte (drop i part) ≡ false
    → seen_part (drop i part) ≡ (visible (get_or part i 0) ∷ []) ++ seen_part (drop (i + 1) part)
part_more part i l h = part_at part i l ∙ rw h refl

pub part_blank : (part : List ℕ) (i : ℕ) → i < length part → list_all is_blank_byte (drop i part) ≡ true → seen_part (drop i part) ≡ []
part_blank part i l h = part_at part i l ∙ rw h refl

pub part_end : (part : List ℕ) (i : ℕ) → length part ≤ i → seen_part (drop i part) ≡ []
unfolding seen_part
part_end part i l = at_drop_all seen_part part i l

-- ---- names on the host

pub host_more : (part : List ℕ) (i : ℕ) → i < length part → host_part (drop i part) ≡ shown_small (get_or part i 0) ++ host_part (drop (i + 1) part)
unfolding host_part
host_more part i l = at_drop_more host_part part i 0 l

pub host_end : (part : List ℕ) (i : ℕ) → length part ≤ i → host_part (drop i part) ≡ []
unfolding host_part
host_end part i l = at_drop_all host_part part i l
