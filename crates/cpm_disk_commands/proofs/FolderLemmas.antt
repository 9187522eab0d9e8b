-- One more name of a folder, which is kept or left out.
use Rattle.std.proofs.Common.{◌≡◌, ◌∙◌, ℕ, zero, suc, ◌+◌, ◌%◌, ◌<◌, ◌≤◌, Bool, true, false, ◌&&◌, ◌||◌, cond, eqb, ltb, List, [], ◌∷◌, ◌++◌, Option, Some, None, length, take, map, get_or, set, refl, sym, ap, inl, inr, arith, append-nil, length-append, subst}
use Rattle.std.specs.List.{flat_map, list_all, list_any, range_with_len}
use Rattle.std.proofs.lemmas.Bool.{false≢true, false_from_ne_true, agree_below_at, and_parts, eqb-true, lt-ltb, le-ltb, cases_lt}
use Rattle.std.proofs.lemmas.List.{get_or_append_left, map-append, set-get_or}
use Rattle.std.proofs.Math.Seq.{get_or-append_seam}
use Rattle.std.proofs.lemmas.List.Concat.{flat_map-append}
use Rattle.std.proofs.lemmas.List.Folds.{list_any-append, list_any_at, list_any_more}
use Rattle.std.proofs.lemmas.Option.{none-some}
use Rattle.cpm_volume.specs.Files.{same_name}
use Rattle.cpm_disk_commands.specs.Folder.{disk_name_at, folder_name, is_kept, kept_as, kept_at, kept_names, left_as, left_at, left_out_names, name_unless, spells, KeptLaw}
use Rattle.cpm_disk_commands.specs.HostNames.{is_read_as}
use Rattle.cpm_disk_commands.specs.Names.{capital_letter, character_at, fields, has_parts, is_name_character, is_part, is_sized, name_part, one_name, star_of, type_part, with_bit, with_marks}
use Rattle.cpm_disk_commands.specs.declared.damage.NamedFile.{NamedFile}
use Rattle.cpm_disk_commands.specs.declared.folder.FolderName.{FolderName}
use Rattle.cpm_disk_commands.proofs.NameLemmas.{all_at, name_is, name_low, star_behind}

-- ---- a name that a text spells has no attributes

low_capital : (c : ℕ) → is_name_character c ≡ true → capital_letter c % 128 ≡ capital_letter c
unfolding capital_letter
low_capital c h =
    eqb-true (capital_letter c % 128) (capital_letter c) (agree_below_at (λ k. eqb (capital_letter k % 128) (capital_letter k)) (λ _. true) 128 c refl (name_low c h))

low_at : (part : List ℕ) → list_all is_name_character part ≡ true → (place : ℕ) → character_at part place % 128 ≡ character_at part place
unfolding character_at
low_at part h place =
    let star = star_behind part h in
    elim (cases_lt place (length part)) [
      | inl lt ↦
          let before : ltb place (star_of part) ≡ true = rw star (lt-ltb _ _ lt) in
          rw before (low_capital (get_or part place 0) (all_at is_name_character part place h lt))
      | inr ge ↦
          let behind : ltb place (star_of part) ≡ false = rw star (le-ltb _ _ ge) in
          let none : ltb (star_of part) (length part) ≡ false = rw star (le-ltb _ _ (omega arith)) in
          rw behind (rw none refl)
    ]

low_fields : (text : List ℕ) → list_all is_name_character (type_part text) ≡ true
    → (get_or (fields text) 8 0 % 128 ≡ get_or (fields text) 8 0) × (get_or (fields text) 9 0 % 128 ≡ get_or (fields text) 9 0)
unfolding fields
low_fields text h = (low_at (type_part text) h 0, low_at (type_part text) h 1)

unmarked_fields : (text : List ℕ) → has_parts is_name_character text ≡ true → with_marks false false (fields text) ≡ fields text
unfolding has_parts with_marks with_bit
unmarked_fields text h =
    let name = fields text in
    let both = (and_parts (ltb 0 (length (name_part text))) (is_part is_name_character 8 (name_part text) && is_part is_name_character 3 (type_part text)) h).1 in
    let kind = (and_parts (is_part is_name_character 8 (name_part text)) (is_part is_name_character 3 (type_part text)) both).1 in
    let low = low_fields text (and_parts (is_sized 3 (type_part text)) (list_all is_name_character (type_part text)) kind).1 in
    ap (λ (c : ℕ). set (set name 8 c) 9 (get_or name 9 0 % 128)) low.0 ∙ ap (λ (c : ℕ). set (set name 8 (get_or name 8 0)) 9 c) low.1
    ∙ ap (λ (xs : List ℕ). set xs 9 (get_or name 9 0)) (set-get_or name 8 0) ∙ set-get_or name 9 0

pub unmarked : (text name : List ℕ) → one_name text ≡ Some name → with_marks false false name ≡ name
unmarked text name h =
    let is = name_is text name (sym h) in
    ap (with_marks false false) is.1 ∙ unmarked_fields text is.0 ∙ sym is.1

-- ---- a name that is taken or not

or_false : (b : Bool) → (b || false) ≡ b
or_false true = refl
or_false false = refl

same_right : (a b c : List ℕ) → same_name a b ≡ true → same_name c a ≡ same_name c b
unfolding same_name
same_right [] [] c h = refl
same_right [] (y ∷ b) c h = absurd (false≢true h)
same_right (x ∷ a) [] c h = absurd (false≢true h)
same_right (x ∷ a) (y ∷ b) [] h = refl
same_right (x ∷ a) (y ∷ b) (z ∷ c) h =
    let p = and_parts (eqb (x % 128) (y % 128)) (same_name a b) h in
    rw (eqb-true (x % 128) (y % 128) p.0, same_right a b c p.1) refl

pub new_file : (taken : List ℕ → Bool) (text name file : List ℕ) → one_name text ≡ Some name → file ≡ with_marks false false name → taken file ≡ false
    → name_unless taken (one_name text) ≡ Some file
new_file taken text name file h is free =
    let same : file ≡ name = is ∙ unmarked text name h in
    ap (name_unless taken) h ∙ ap (λ (b : Bool). cond b None (Some name)) (ap taken (sym same) ∙ free) ∙ ap Some (sym same)

pub same_file : (taken : List ℕ → Bool) (text name file : List ℕ) → one_name text ≡ Some name → file ≡ with_marks false false name → taken file ≡ true
    → name_unless taken (one_name text) ≡ None
same_file taken text name file h is kept =
    let same : file ≡ name = is ∙ unmarked text name h in
    ap (name_unless taken) h ∙ ap (λ (b : Bool). cond b None (Some name)) (ap taken (sym same) ∙ kept)

-- names that are one are spelled by the same texts
spells_same : (names : List (List ℕ)) (a b : List ℕ) → same_name a b ≡ true → list_any (spells a) names ≡ list_any (spells b) names
spells_same names a b h = ap (λ (p : List ℕ → Bool). list_any p names) (λ i text. read_same (one_name text) i)
  where
    read_same : (spelled : Option (List ℕ)) → is_read_as a spelled ≡ is_read_as b spelled
    read_same None = refl
    read_same (Some name) = same_right a b name h

-- ---- one more place of a folder's list

last_place : (a n j : ℕ) → a + n ≡ j → range_with_len a (suc n) ≡ range_with_len a n ++ j ∷ []
last_place a zero j e = let same : a ≡ j = omega arith in ap (λ (k : ℕ). k ∷ []) same
last_place a (suc n) j e = ap (λ (ks : List ℕ). a ∷ ks) (last_place (a + 1) n j (omega arith))

one_more : {A : Type 0} (f : ℕ → List A) (i : ℕ) → flat_map f (range_with_len 0 (i + 1)) ≡ flat_map f (range_with_len 0 i) ++ f i
one_more {A} f i =
    let next : i + 1 ≡ suc i = omega arith in
    ap (λ (n : ℕ). flat_map f (range_with_len 0 n)) next ∙ ap (flat_map f) (last_place 0 i i (omega arith))
    ∙ flat_map-append f (range_with_len 0 i) (i ∷ []) ∙ ap (λ (xs : List A). flat_map f (range_with_len 0 i) ++ xs) (append-nil (f i))

-- the names that are kept of the first
abbrev pub kept_of : List (List ℕ) → ℕ → List (List ℕ × NamedFile)
kept_of names i = flat_map (kept_at names) (range_with_len 0 i)

-- the name of one of these files
abbrev pub has_name : List (List ℕ × NamedFile) → List ℕ → Bool
has_name kept name = list_any (λ k. same_name k.1.name name) kept

-- a name before that is kept spells the same, where any name before does
pub kept_of_all : (names : List (List ℕ)) (i : ℕ) → i ≤ length names → (name : List ℕ) → has_name (kept_of names i) name ≡ list_any (spells name) (take i names)
unfolding disk_name_at
kept_of_all names zero l name = refl
kept_of_all names (suc i) l name =
    let text = get_or names i [] in
    let next : suc i ≡ i + 1 = omega arith in
    let before = kept_of_all names i (omega arith) in
    ap (λ (n : ℕ). has_name (kept_of names n) name) next
    ∙ ap (list_any (λ k. same_name k.1.name name)) (one_more (kept_at names) i)
    ∙ list_any-append (λ k. same_name k.1.name name) (kept_of names i) (kept_at names i)
    ∙ ap (λ (b : Bool). b || list_any (λ k. same_name k.1.name name) (kept_at names i)) (before name)
    ∙ step text (one_name text)
    ∙ sym (list_any_more (spells name) names i [] (omega arith))
    ∙ ap (λ (n : ℕ). list_any (spells name) (take n names)) (sym next)
  where
    taken : List ℕ → Bool
    taken other = list_any (spells other) (take i names)

    step : (text : List ℕ) (spelled : Option (List ℕ))
        → (taken name || list_any (λ k. same_name k.1.name name) (kept_as text (name_unless taken spelled))) ≡ (taken name || is_read_as name spelled)
    step text None = refl
    step text (Some other) = go (taken other) (same_name other name) refl refl
      where
        go : (b c : Bool) → taken other ≡ b → same_name other name ≡ c
            → (taken name || list_any (λ k. same_name k.1.name name) (kept_as text (cond b None (Some other)))) ≡ (taken name || same_name other name)
        go false c is same = ap (λ (x : Bool). taken name || x) (or_false (same_name other name))
        go true true is same =
            let there : taken name ≡ true = sym (spells_same (take i names) other name same) ∙ is in
            rw there refl
        go true false is same = ap (λ (x : Bool). taken name || x) (sym same)

-- ---- the names that were gone through

-- So many names of a folder were gone through: these are kept, and those left out.
pub record AreSorted (names : List (List ℕ)) (count : ℕ) (kept : List FolderName) (left : List (List ℕ)) : Type 0 where
  pub within : count ≤ length names
  pub kept_are : map folder_name kept ≡ flat_map (kept_at names) (range_with_len 0 count)
  pub left_are : left ≡ flat_map (left_at names) (range_with_len 0 count)

pub none_sorted : (names : List (List ℕ)) → AreSorted names 0 [] []
none_sorted names = record { within = omega arith; kept_are = refl; left_are = refl }

kept_name : (kept : List FolderName) (name : List ℕ) → is_kept kept name ≡ list_any (λ k. same_name k.1.name name) (map folder_name kept)
kept_name [] name = refl
kept_name (k ∷ kept) name = ap (λ (b : Bool). same_name k.file.name name || b) (kept_name kept name)

name_at : (names : List (List ℕ)) (i : ℕ) (kept : List FolderName) (left : List (List ℕ)) (text : List ℕ) → get_or names i [] ≡ text → AreSorted names i kept left
    → disk_name_at names i ≡ name_unless (is_kept kept) (one_name text)
unfolding disk_name_at
name_at names i kept left text is sorted =
    let taken : (name : List ℕ) → list_any (spells name) (take i names) ≡ is_kept kept name =
    λ name. sym (kept_of_all names i sorted.within name) ∙ ap (list_any (λ k. same_name k.1.name name)) (sym sorted.kept_are) ∙ sym (kept_name kept name) in
    λ j. name_unless (λ name. taken name j) (one_name (is j))

pub kept_more : (names : List (List ℕ)) (i : ℕ) (kept kept' : List FolderName) (left : List (List ℕ)) (text : List ℕ) (more : FolderName) → i < length names
    → get_or names i [] ≡ text → more.name.now ≡ text → more.file.user ≡ 0 → name_unless (is_kept kept) (one_name text) ≡ Some more.file.name
    → kept' ≡ kept ++ more ∷ [] → AreSorted names i kept left → AreSorted names (i + 1) kept' left
kept_more names i kept kept' left text more l is named user file pushed sorted =
    let name = more.file.name in
    let at : disk_name_at names i ≡ Some name = name_at names i kept left text is sorted ∙ file in
    let one : kept_at names i ≡ folder_name more ∷ [] =
    (λ j. kept_as (is j) (at j)) ∙ (λ j. (sym named j, record { user = sym user j; name = name }) ∷ []) in
    let none : left_at names i ≡ [] = λ j. left_as (is j) (at j) in
    record {
      within = omega arith;
      kept_are = ap (map folder_name) pushed ∙ map-append folder_name kept (more ∷ []) ∙ (λ j. sorted.kept_are j ++ sym one j) ∙ sym (one_more (kept_at names) i);
      left_are = sorted.left_are ∙ sym (append-nil (flat_map (left_at names) (range_with_len 0 i)))
          ∙ ap (λ (xs : List (List ℕ)). flat_map (left_at names) (range_with_len 0 i) ++ xs) (sym none) ∙ sym (one_more (left_at names) i);
    }

pub left_more : (names : List (List ℕ)) (i : ℕ) (kept : List FolderName) (left left' : List (List ℕ)) (text : List ℕ) → i < length names
    → get_or names i [] ≡ text → name_unless (is_kept kept) (one_name text) ≡ None → left' ≡ left ++ text ∷ []
    → AreSorted names i kept left → AreSorted names (i + 1) kept left'
left_more names i kept left left' text l is file pushed sorted =
    let at : disk_name_at names i ≡ None = name_at names i kept left text is sorted ∙ file in
    let none : kept_at names i ≡ [] = λ j. kept_as (is j) (at j) in
    let one : left_at names i ≡ text ∷ [] = λ j. left_as (is j) (at j) in
    record {
      within = omega arith;
      kept_are = sorted.kept_are ∙ sym (append-nil (flat_map (kept_at names) (range_with_len 0 i)))
          ∙ ap (λ (xs : List (List ℕ × NamedFile)). flat_map (kept_at names) (range_with_len 0 i) ++ xs) (sym none) ∙ sym (one_more (kept_at names) i);
      left_are = pushed ∙ (λ j. sorted.left_are j ++ sym one j) ∙ sym (one_more (left_at names) i);
    }

pub all_sorted : (names : List (List ℕ)) (i : ℕ) (kept : List FolderName) (left : List (List ℕ)) → length names ≤ i → AreSorted names i kept left
    → (map folder_name kept ≡ kept_names names) × (left ≡ left_out_names names)
unfolding kept_names left_out_names
all_sorted names i kept left past sorted =
    let is : i ≡ length names = omega (arith, sorted.within) in
    (sorted.kept_are ∙ ap (λ (n : ℕ). flat_map (kept_at names) (range_with_len 0 n)) is, sorted.left_are ∙ ap (λ (n : ℕ). flat_map (left_at names) (range_with_len 0 n)) is)

-- ---- no two names that are kept are of one file

kept_some : (names : List (List ℕ)) (i : ℕ) (name : List ℕ) → disk_name_at names i ≡ Some name → list_any (spells name) (take i names) ≡ false
unfolding disk_name_at
kept_some names i name h = new (one_name (get_or names i [])) h
  where
    taken : List ℕ → Bool
    taken other = list_any (spells other) (take i names)

    new : (spelled : Option (List ℕ)) → name_unless taken spelled ≡ Some name → taken name ≡ false
    new None e = absurd (none-some name e)
    new (Some other) e = go (taken other) refl e
      where
        go : (b : Bool) → taken other ≡ b → cond b None (Some other) ≡ Some name → taken name ≡ false
        go true is some = absurd (none-some name some)
        go false is some = let same : other ≡ name = cc some in ap taken (sym same) ∙ is

abbrev ApartAt : List (List ℕ × NamedFile) → Type 0
ApartAt kept = (j k : ℕ) (d : List ℕ × NamedFile) → j < k → k < length kept → same_name (get_or kept j d).1.name (get_or kept k d).1.name ≡ false

apart_more : (kept : List (List ℕ × NamedFile)) (last : List ℕ × NamedFile) → has_name kept last.1.name ≡ false → ApartAt kept → ApartAt (kept ++ last ∷ [])
apart_more kept last free apart j k d below within =
    let size : k < length kept + 1 = subst (λ (n : ℕ). k < n) (length-append kept (last ∷ [])) within in
    let first : get_or (kept ++ last ∷ []) j d ≡ get_or kept j d = get_or_append_left kept (last ∷ []) d j (omega (arith, below, size)) in
    elim (cases_lt k (length kept)) [
      | inl lt ↦ (λ m. same_name (first m).1.name (get_or_append_left kept (last ∷ []) d k lt m).1.name) ∙ apart j k d below lt
      | inr ge ↦
          let at : k ≡ length kept = omega (arith, size, ge) in
          let final : get_or (kept ++ last ∷ []) k d ≡ last = ap (λ (n : ℕ). get_or (kept ++ last ∷ []) n d) at ∙ get_or-append_seam kept last [] d in
          (λ m. same_name (first m).1.name (final m).1.name)
          ∙ false_from_ne_true _ (λ e. false≢true (sym free ∙ list_any_at (λ x. same_name x.1.name last.1.name) kept j d (omega (arith, below, at)) e))
    ]

apart_place : (names : List (List ℕ)) (i : ℕ) → i ≤ length names → ApartAt (kept_of names i) → (o : Option (List ℕ)) → disk_name_at names i ≡ o
    → ApartAt (kept_of names i ++ kept_as (get_or names i []) o)
apart_place names i l before None is = subst ApartAt (sym (append-nil (kept_of names i))) before
apart_place names i l before (Some name) is =
    apart_more (kept_of names i) (get_or names i [], record { user = 0; name = name }) (kept_of_all names i l name ∙ kept_some names i name is) before

apart_at : (names : List (List ℕ)) (i : ℕ) → i ≤ length names → ApartAt (kept_of names i)
apart_at names zero l = λ j k d below within. absurd (omega (arith, within))
apart_at names (suc i) l =
    let next : i + 1 ≡ suc i = omega arith in
    subst ApartAt (sym (one_more (kept_at names) i) ∙ ap (kept_of names) next)
    (apart_place names i (omega arith) (apart_at names i (omega arith)) (disk_name_at names i) refl)

pub kept_law : KeptLaw
unfolding kept_names
kept_law names j k d below within = apart_at names (length names) (omega arith) j k d below within
