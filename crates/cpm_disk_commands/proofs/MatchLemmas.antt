-- One more file of a list, which matches or doesn't.
use Rattle.std.proofs.Common.{◌≡◌, ◌≢◌, ◌∙◌, ℕ, ◌+◌, ◌<◌, ◌≤◌, true, false, cond, Result, Ok, Err, List, [], ◌∷◌, ◌++◌, length, get_or, drop, map, sym, ap, append_assoc, append-nil, arith, length-append}
use Rattle.std.specs.List.{filter}
use Rattle.std.specs.Result.{IfErr}
use Rattle.std.proofs.lemmas.List.{at_drop_more, at_drop_all, map-append}
use Rattle.cpm_image_files.specs.declared.listing.DiskFile.{DiskFile}
use Rattle.cpm_disk_commands.specs.Matching.{is_meant, listed, meant}
use Rattle.cpm_image_files.specs.declared.name.FileName.{FileName}
use Rattle.cpm_disk_commands.specs.Refusals.{file_named}
use Rattle.cpm_disk_commands.specs.declared.damage.NamedFile.{NamedFile}

pub meant_yes : (user : ℕ) (pattern : List ℕ) (files : List DiskFile) (i : ℕ) (d : DiskFile) → i < length files → is_meant user pattern (get_or files i d) ≡ true
    → meant user pattern (drop i files) ≡ listed (get_or files i d) ∷ meant user pattern (drop (i + 1) files)
unfolding meant
meant_yes user pattern files i d l h =
    at_drop_more (meant user pattern) files i d l
    ∙ ap (λ b. map listed (cond b (get_or files i d ∷ filter (is_meant user pattern) (drop (i + 1) files)) (filter (is_meant user pattern) (drop (i + 1) files)))) h

pub meant_no : (user : ℕ) (pattern : List ℕ) (files : List DiskFile) (i : ℕ) (d : DiskFile) → i < length files → is_meant user pattern (get_or files i d) ≡ false
    → meant user pattern (drop i files) ≡ meant user pattern (drop (i + 1) files)
unfolding meant
meant_no user pattern files i d l h =
    at_drop_more (meant user pattern) files i d l
    ∙ ap (λ b. map listed (cond b (get_or files i d ∷ filter (is_meant user pattern) (drop (i + 1) files)) (filter (is_meant user pattern) (drop (i + 1) files)))) h

pub meant_end : (user : ℕ) (pattern : List ℕ) (files : List DiskFile) (i : ℕ) → length files ≤ i → meant user pattern (drop i files) ≡ []
unfolding meant
meant_end user pattern files i l = at_drop_all (meant user pattern) files i l

-- ---- the files that were found, and those that the rest of the list has

pub found_more : (user : ℕ) (pattern : List ℕ) (files : List DiskFile) (i : ℕ) (d : DiskFile) (found found' : List FileName) (f : FileName) (all : List NamedFile) → i < length files
    → (is_meant user pattern (get_or files i d) ≡ true) × (file_named f ≡ listed (get_or files i d)) → found' ≡ found ++ f ∷ []
    → map file_named found ++ meant user pattern (drop i files) ≡ all → map file_named found' ++ meant user pattern (drop (i + 1) files) ≡ all
found_more user pattern files i d found found' f all l h e before =
    let rest = meant user pattern (drop (i + 1) files) in
    let names : map file_named found' ≡ map file_named found ++ listed (get_or files i d) ∷ [] =
    ap (map file_named) e ∙ map-append file_named found (f ∷ []) ∙ ap (λ (x : NamedFile). map file_named found ++ x ∷ []) h.1 in
    ap (λ (xs : List NamedFile). xs ++ rest) names ∙ append_assoc (map file_named found) (listed (get_or files i d) ∷ []) rest
    ∙ ap (λ (xs : List NamedFile). map file_named found ++ xs) (sym (meant_yes user pattern files i d l h.0)) ∙ before

pub found_same : (user : ℕ) (pattern : List ℕ) (files : List DiskFile) (i : ℕ) (d : DiskFile) (found found' : List FileName) (all : List NamedFile) → i < length files
    → is_meant user pattern (get_or files i d) ≡ false → found' ≡ found
    → map file_named found ++ meant user pattern (drop i files) ≡ all → map file_named found' ++ meant user pattern (drop (i + 1) files) ≡ all
found_same user pattern files i d found found' all l h e before =
    ap (λ (xs : List FileName). map file_named xs ++ meant user pattern (drop (i + 1) files)) e
    ∙ ap (λ (xs : List NamedFile). map file_named found ++ xs) (sym (meant_no user pattern files i d l h)) ∙ before

pub found_all : (user : ℕ) (pattern : List ℕ) (files : List DiskFile) (i : ℕ) (found : List FileName) (all : List NamedFile) → length files ≤ i
    → map file_named found ++ meant user pattern (drop i files) ≡ all → map file_named found ≡ all
found_all user pattern files i found all l before =
    sym (append-nil (map file_named found)) ∙ ap (λ (xs : List NamedFile). map file_named found ++ xs) (sym (meant_end user pattern files i l)) ∙ before

-- one more that is meant: there is one
pub found_some : (user : ℕ) (pattern : List ℕ) (files : List DiskFile) (i : ℕ) (d : DiskFile) (found : List FileName) (all : List NamedFile) → i < length files
    → is_meant user pattern (get_or files i d) ≡ true → map file_named found ++ meant user pattern (drop i files) ≡ all → all ≢ []
found_some user pattern files i d found all l h before e =
    let rest = meant user pattern (drop (i + 1) files) in
    let whole : map file_named found ++ listed (get_or files i d) ∷ rest ≡ [] =
    ap (λ (xs : List NamedFile). map file_named found ++ xs) (sym (meant_yes user pattern files i d l h)) ∙ before ∙ e in
    absurd (omega (arith, length-append (map file_named found) (listed (get_or files i d) ∷ rest), ap length whole))

pub whatever_error : {T E : Type 0} (r : Result T E) (Q : Type 0) → Q → IfErr r (λ _. Q)
whatever_error (Ok value) Q q = tt
whatever_error (Err error) Q q = q
