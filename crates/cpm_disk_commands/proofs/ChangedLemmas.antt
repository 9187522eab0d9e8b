-- Files of a disk that are compared, and names in a folder.
use Rattle.std.proofs.Common.{◌≡◌, ◌∙◌, ℕ, ◌+◌, ◌-◌, ◌*◌, ◌/◌, ◌%◌, ◌<◌, ◌≤◌, Bool, true, false, cond, List, [], ◌∷◌, ◌++◌, String, Global, Option, Some, None, ap, arith, drop, get_or, inl, inr, length, map, string_bytes, subst, sym, take}
use Rattle.std.proofs.lemmas.Bool.{cases_lt}
use Rattle.std.proofs.lemmas.List.{at_drop_more, drop_all, get_or-take, get_or-drop, same_lists, take_more}
use Rattle.cpm_geom.specs.Disk.{Disk}
use Rattle.cpm_image_files.specs.Taken.{AreBytesOf, HasRecords, IsGot}
use Rattle.cpm_image_files.specs.declared.listing.DiskFile.{DiskFile}
use Rattle.cpm_disk_commands.specs.Changed.{AreFilesCompared, IsFileCompared, first_spelling}
use Rattle.cpm_disk_commands.specs.Folder.{spells}
use Rattle.cpm_disk_commands.specs.declared.changed.ComparedFile.{ComparedFile}

-- ---- a file has one text of bytes

place_in_record : (xs : List ℕ) (k d : ℕ) → get_or xs k d ≡ get_or (take 128 (drop (128 * (k / 128)) xs)) (k % 128) d
place_in_record xs k d =
    let within : k % 128 < 128 = omega arith in
    let place : 128 * (k / 128) + k % 128 ≡ k = omega arith in
    ap (λ i. get_or xs i d) (sym place) ∙ (sym (get_or-drop (128 * (k / 128)) xs (k % 128) d) ∙ sym (get_or-take 128 (drop (128 * (k / 128)) xs) (k % 128) d within))

same_records : (xs ys : List ℕ) (count : ℕ) → length xs ≡ 128 * count → length ys ≡ 128 * count
    → ((m : ℕ) → m < count → take 128 (drop (128 * m) xs) ≡ take 128 (drop (128 * m) ys)) → xs ≡ ys
same_records xs ys count a b same =
    same_lists xs ys (a ∙ sym b) (λ k d h.
    let within : k / 128 < count = omega arith in
    place_in_record xs k d ∙ (ap (λ zs. get_or zs (k % 128) d) (same (k / 128) within) ∙ sym (place_in_record ys k d)))

no_fewer : (disk : Disk) (user : ℕ) (name : List ℕ) (a b : ℕ) → HasRecords disk user name a → HasRecords disk user name b → a ≤ b
no_fewer disk user name a b p q =
    elim (cases_lt b a) [
      | inr ge ↦ ge
      | inl lt ↦
          let last : b ≤ a - 1 = omega arith in
          absurd (p.last (omega arith) (q.none (a - 1) last))
    ]

one_text : (disk : Disk) (user : ℕ) (name a b : List ℕ) → AreBytesOf disk user name a → AreBytesOf disk user name b → a ≡ b
one_text disk user name a b p q =
    let low = no_fewer disk user name p.count q.count p.records q.records in
    let high = no_fewer disk user name q.count p.count q.records p.records in
    let count : p.count ≡ q.count = omega arith in
    same_records a b p.count p.size (q.size ∙ ap (λ n. 128 * n) (sym count)) (λ m h. p.each m h ∙ sym (q.each m (subst (λ n. m < n) count h)))

pub one_got : (disk : Disk) (user : ℕ) (name a b : List ℕ) → IsGot disk user name a → IsGot disk user name b → a ≡ b
one_got disk user name a b p q = one_text disk user name a b p.file q.file

-- ---- one more file

compared_push : (start : Option Disk) (left : Disk) (files : List DiskFile) (compared : List ComparedFile) (file : DiskFile) (one : ComparedFile)
    → AreFilesCompared start left files compared → IsFileCompared start left file one → AreFilesCompared start left (files ++ file ∷ []) (compared ++ one ∷ [])
compared_push start left [] [] file one h is = (is, tt)
compared_push start left [] (c ∷ cs) file one h is = absurd h
compared_push start left (f ∷ fs) [] file one h is = absurd h
compared_push start left (f ∷ fs) (c ∷ cs) file one h is = (h.0, compared_push start left fs cs file one h.1 is)

pub compared_more : (start : Option Disk) (left : Disk) (files : List DiskFile) (i : ℕ) (d : DiskFile) (compared all : List ComparedFile) (one : ComparedFile)
    → i < length files → all ≡ compared ++ one ∷ [] → AreFilesCompared start left (take i files) compared → IsFileCompared start left (get_or files i d) one
    → AreFilesCompared start left (take (i + 1) files) all
compared_more start left files i d compared all one within pushed h this =
    subst (λ (fs : List DiskFile). AreFilesCompared start left fs all) (sym (take_more files i d within))
    (subst (λ (cs : List ComparedFile). AreFilesCompared start left (take i files ++ get_or files i d ∷ []) cs) (sym pushed)
    (compared_push start left (take i files) compared (get_or files i d) one h this))

-- ---- the first name that spells another one

abbrev spelling_from : List (String Global) → (name : List ℕ) → Option (List ℕ)
spelling_from names name = first_spelling (map string_bytes names) name

spelled_next : (names : List (String Global)) (i : ℕ) (d : String Global) (name : List ℕ) → i < length names
    → spelling_from (drop i names) name
    ≡ cond (spells name (string_bytes (get_or names i d))) (Some (string_bytes (get_or names i d))) (spelling_from (drop (i + 1) names) name)
unfolding first_spelling
spelled_next names i d name within = at_drop_more (λ (ns : List (String Global)). spelling_from ns name) names i d within

pub spelled_here : (names : List (String Global)) (i : ℕ) (x : String Global) (name text : List ℕ) → x ≡ get_or names i x → i < length names → text ≡ string_bytes x
    → spells name text ≡ true → spelling_from (drop i names) name ≡ Some text
spelled_here names i x name text is within same found =
    let whole : text ≡ string_bytes (get_or names i x) = same ∙ ap string_bytes is in
    let test : spells name (string_bytes (get_or names i x)) ≡ true = ap (spells name) (sym whole) ∙ found in
    spelled_next names i x name within
    ∙ ap (λ (b : Bool). cond b (Some (string_bytes (get_or names i x))) (spelling_from (drop (i + 1) names) name)) test
    ∙ ap (λ (t : List ℕ). Some t) (sym whole)

pub spelled_past : (names : List (String Global)) (i : ℕ) (x : String Global) (name text : List ℕ) → x ≡ get_or names i x → i < length names → text ≡ string_bytes x
    → spells name text ≡ false → spelling_from (drop i names) name ≡ spelling_from (drop (i + 1) names) name
spelled_past names i x name text is within same other =
    let whole : text ≡ string_bytes (get_or names i x) = same ∙ ap string_bytes is in
    let test : spells name (string_bytes (get_or names i x)) ≡ false = ap (spells name) (sym whole) ∙ other in
    spelled_next names i x name within
    ∙ ap (λ (b : Bool). cond b (Some (string_bytes (get_or names i x))) (spelling_from (drop (i + 1) names) name)) test

pub spelled_none : (names : List (String Global)) (i : ℕ) (name : List ℕ) → length names ≤ i → None ≡ spelling_from (drop i names) name
unfolding first_spelling
spelled_none names i name past = ap (λ (ns : List (String Global)). spelling_from ns name) (sym (drop_all i names past))
