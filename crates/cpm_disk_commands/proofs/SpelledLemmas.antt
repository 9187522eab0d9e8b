-- The text of a name that a text spells: it is read as the name again. Two names with one text are the same.
use Rattle.std.proofs.Common.{◌≡◌, ◌∙◌, ℕ, zero, suc, ◌+◌, ◌-◌, ◌%◌, ◌<◌, ◌≤◌, Bool, true, false, not, ◌&&◌, cond, eqb, leb, ltb, List, [], ◌∷◌, ◌++◌, Option, Some, None, length, take, drop, replicate, map, get_or, refl, sym, ap, subst, inl, inr, arith, append_assoc, append-nil, length-append}
use Rattle.std.specs.List.{list_all, list_any, position_or_len, range_with_len}
use Rattle.std.proofs.Math.ListN.{drop_of_length-le}
use Rattle.std.proofs.Math.Seq.{take-append_seam, drop-append-add, get_or-append_seam, take-length}
use Rattle.std.proofs.lemmas.Bool.{false≢true, agree_below, agree_below_at, and_parts, and_from, and_left, or_from, or_parts, not-false, not_from_false, eqb-true, eq-eqb, ltb-true, leb-true, lt-ltb, le-ltb, le-leb, cases_lt}
use Rattle.std.proofs.lemmas.List.{length-map, length-replicate, get_or-map, get_or_append_left, get_or-append_right, get_or-replicate, take-append-drop}
use Rattle.std.proofs.lemmas.List.Folds.{list_any-append}
use Rattle.std.proofs.lemmas.List.FromFn.{fill_by_all}
use Rattle.std.proofs.lemmas.List.Sums.{position_or_len_is}
use Rattle.cpm_volume.specs.Files.{same_name}
use Rattle.cpm_volume.proofs.NameLemmas.{same_name-sym, same_name-trans}
use Rattle.cpm_disk_commands.specs.HostNames.{host_part, host_text, is_host_name, is_read_as, shown_small, small, ApartLaw, SpelledLaw}
use Rattle.cpm_disk_commands.specs.Listing.{is_blank_byte}
use Rattle.cpm_disk_commands.specs.Names.{capital_letter, character_at, fields, has_parts, is_name_character, is_part, is_sized, with_marks, one_name, name_part, star_of, type_part, with_bit}
use Rattle.cpm_disk_commands.proofs.NameLemmas.{all_at, bit_low, name_is, name_low, right_of, star_behind}

-- ---- a character of a name, as it is shown

abbrev shown : ℕ → ℕ
shown c = small (capital_letter c)

never : (f : ℕ → Bool) → agree_below (λ k. is_name_character k && f k) (λ _. false) 128 ≡ true → (c : ℕ) → is_name_character c ≡ true → f c ≡ false
never f h c is = right_of (is_name_character c) (f c) (agree_below_at (λ k. is_name_character k && f k) (λ _. false) 128 c h (name_low c is)) is

shown_name : (c : ℕ) → is_name_character c ≡ true → is_name_character (shown c) ≡ true
unfolding is_name_character capital_letter small
shown_name c h = not-false (is_name_character (shown c)) (never (λ k. not (is_name_character (shown k))) refl c h)

shown_capital : (c : ℕ) → is_name_character c ≡ true → capital_letter (shown c) ≡ capital_letter c
unfolding is_name_character capital_letter small
shown_capital c h = eqb-true (capital_letter (shown c)) (capital_letter c) (not-false (eqb (capital_letter (shown c)) (capital_letter c)) (never (λ k. not (eqb (capital_letter (shown k)) (capital_letter k))) refl c h))

shown_dot : (c : ℕ) → is_name_character c ≡ true → eqb (shown c) 46 ≡ false
unfolding is_name_character capital_letter small
shown_dot c h = never (λ k. eqb (shown k) 46) refl c h

shown_slash : (c : ℕ) → is_name_character c ≡ true → eqb (shown c) 47 ≡ eqb c 47
unfolding is_name_character capital_letter small
shown_slash c h = agree_below_at (λ k. eqb (shown k) 47) (λ k. eqb k 47) 128 c refl (name_low c h)

capital_seen : (c : ℕ) → is_name_character c ≡ true → is_blank_byte (capital_letter c) ≡ false
unfolding is_name_character capital_letter
capital_seen c h = never (λ k. is_blank_byte (capital_letter k)) refl c h

-- ---- a part of a name, as it is shown

shown_all : (p : List ℕ) → list_all is_name_character p ≡ true → list_all is_name_character (map shown p) ≡ true
shown_all [] h = refl
shown_all (c ∷ p) h =
    let both = and_parts (is_name_character c) (list_all is_name_character p) h in
    and_from (is_name_character (shown c)) (list_all is_name_character (map shown p)) (shown_name c both.0) (shown_all p both.1)

shown_back : (p : List ℕ) → list_all is_name_character p ≡ true → map capital_letter (map shown p) ≡ map capital_letter p
shown_back [] h = refl
shown_back (c ∷ p) h =
    let both = and_parts (is_name_character c) (list_all is_name_character p) h in
    λ i. shown_capital c both.0 i ∷ shown_back p both.1 i

shown_slashes : (p : List ℕ) → list_all is_name_character p ≡ true → list_any (λ c. eqb c 47) (map shown p) ≡ list_any (λ c. eqb c 47) p
shown_slashes [] h = refl
shown_slashes (c ∷ p) h =
    let both = and_parts (is_name_character c) (list_all is_name_character p) h in
    rw (shown_slash c both.0, shown_slashes p both.1) refl

host_capitals : (p : List ℕ) → list_all is_name_character p ≡ true → host_part (map capital_letter p) ≡ map shown p
unfolding host_part
host_capitals [] h = refl
host_capitals (c ∷ p) h =
    let both = and_parts (is_name_character c) (list_all is_name_character p) h in
    rw (capital_seen c both.0, host_capitals p both.1) refl

host_blanks : (n : ℕ) → host_part (replicate n 32) ≡ []
unfolding host_part
host_blanks zero = refl
host_blanks (suc n) = host_blanks n

host_append : (xs ys : List ℕ) → host_part (xs ++ ys) ≡ host_part xs ++ host_part ys
unfolding host_part
host_append [] ys = refl
host_append (x ∷ xs) ys = ap (λ (zs : List ℕ). shown_small x ++ zs) (host_append xs ys) ∙ sym (append_assoc (shown_small x) (host_part xs) (host_part ys))

-- ---- the field that a part fills

char_below : (p : List ℕ) (k : ℕ) → list_all is_name_character p ≡ true → k < length p → character_at p k ≡ capital_letter (get_or p k 0)
unfolding character_at
char_below p k h l =
    let before : ltb k (star_of p) ≡ true = rw (star_behind p h) (lt-ltb k (length p) l) in
    rw before refl

char_above : (p : List ℕ) (k : ℕ) → list_all is_name_character p ≡ true → length p ≤ k → character_at p k ≡ 32
unfolding character_at
char_above p k h l =
    let behind : ltb k (star_of p) ≡ false = rw (star_behind p h) (le-ltb k (length p) l) in
    let none : ltb (star_of p) (length p) ≡ false = rw (star_behind p h) (le-ltb (length p) (length p) (omega arith)) in
    rw behind (rw none refl)

field_is : (p : List ℕ) (n : ℕ) → list_all is_name_character p ≡ true → length p ≤ n → map capital_letter p ++ replicate (n - length p) 32 ≡ map (character_at p) (range_with_len 0 n)
field_is p n h l =
    let blanks : List ℕ = replicate (n - length p) 32 in
    let front : length (map capital_letter p) ≡ length p = length-map p capital_letter in
    let back : length blanks ≡ n - length p = length-replicate (n - length p) 32 in
    let size : length (map capital_letter p ++ blanks) ≡ n = length-append (map capital_letter p) blanks ∙ omega (arith, front, back) in
    fill_by_all (character_at p) (map capital_letter p ++ blanks) n 0 size (λ k m.
    elim (cases_lt k (length p)) [
      | inl lt ↦
          get_or_append_left (map capital_letter p) blanks 0 k (omega (arith, front)) ∙ (get_or-map capital_letter p k 0 0 lt ∙ sym (char_below p k h lt))
      | inr ge ↦
          get_or-append_right (map capital_letter p) blanks (length p) k 0 front ge ∙ (get_or-replicate (n - length p) (k - length p) 32 0 (omega arith) ∙ sym (char_above p k h ge))
    ])

host_field : (p : List ℕ) (n : ℕ) → list_all is_name_character p ≡ true → length p ≤ n → host_part (map (character_at p) (range_with_len 0 n)) ≡ map shown p
host_field p n h l =
    ap host_part (sym (field_is p n h l)) ∙ (host_append (map capital_letter p) (replicate (n - length p) 32)
    ∙ (ap (λ (zs : List ℕ). host_part (map capital_letter p) ++ zs) (host_blanks (n - length p)) ∙ (append-nil (host_part (map capital_letter p)) ∙ host_capitals p h)))

-- what is shown of a part fills the same field
field_back : (p : List ℕ) (n : ℕ) → list_all is_name_character p ≡ true → length p ≤ n → map (character_at (map shown p)) (range_with_len 0 n) ≡ map (character_at p) (range_with_len 0 n)
field_back p n h l =
    let size : length (map shown p) ≡ length p = length-map p shown in
    let same : map capital_letter (map shown p) ++ replicate (n - length (map shown p)) 32 ≡ map capital_letter p ++ replicate (n - length p) 32 = λ i. shown_back p h i ++ replicate (n - size i) 32 in
    sym (field_is (map shown p) n (shown_all p h) (omega (arith, size))) ∙ (same ∙ field_is p n h l)

-- ---- a text of one part or two

dot_behind : (a b : List ℕ) → ((k : ℕ) → k < length a → eqb (get_or a k 0) 46 ≡ false) → position_or_len (λ c. eqb c 46) (a ++ 46 ∷ b) ≡ length a
dot_behind a b plain =
    let size : length (a ++ 46 ∷ b) ≡ length a + length (46 ∷ b) = length-append a (46 ∷ b) in
    position_or_len_is (λ c. eqb c 46) (a ++ 46 ∷ b) (length a) 0 (omega (arith, size))
    (λ k l. ap (λ (c : ℕ). eqb c 46) (get_or_append_left a (46 ∷ b) 0 k l) ∙ plain k l)
    (λ l. ap (λ (c : ℕ). eqb c 46) (get_or-append_seam a 46 b 0))

dot_none : (a : List ℕ) → ((k : ℕ) → k < length a → eqb (get_or a k 0) 46 ≡ false) → position_or_len (λ c. eqb c 46) a ≡ length a
dot_none a plain = position_or_len_is (λ c. eqb c 46) a (length a) 0 (omega arith) plain (λ l. absurd (omega arith))

name_dotted : (a b : List ℕ) → ((k : ℕ) → k < length a → eqb (get_or a k 0) 46 ≡ false) → name_part (a ++ 46 ∷ b) ≡ a
unfolding name_part
name_dotted a b plain = ap (λ (n : ℕ). take n (a ++ 46 ∷ b)) (dot_behind a b plain) ∙ take-append_seam a (46 ∷ b)

type_dotted : (a b : List ℕ) → ((k : ℕ) → k < length a → eqb (get_or a k 0) 46 ≡ false) → type_part (a ++ 46 ∷ b) ≡ b
unfolding type_part
type_dotted a b plain = ap (λ (n : ℕ). drop (n + 1) (a ++ 46 ∷ b)) (dot_behind a b plain) ∙ drop-append-add a (46 ∷ b) 1

name_plain : (a : List ℕ) → ((k : ℕ) → k < length a → eqb (get_or a k 0) 46 ≡ false) → name_part a ≡ a
unfolding name_part
name_plain a plain = ap (λ (n : ℕ). take n a) (dot_none a plain) ∙ take-length a

type_plain : (a : List ℕ) → ((k : ℕ) → k < length a → eqb (get_or a k 0) 46 ≡ false) → type_part a ≡ []
unfolding type_part
type_plain a plain = ap (λ (n : ℕ). drop (n + 1) a) (dot_none a plain) ∙ drop_of_length-le a (omega arith)

-- ---- a name's two parts, as they are shown

part_of : (most : ℕ) (p : List ℕ) → list_all is_name_character p ≡ true → length p ≤ most → is_part is_name_character most p ≡ true
unfolding is_sized
part_of most p h l =
    let star = star_behind p h in
    and_from _ _ (and_from _ _ (le-leb (length p) most l) (le-leb (length p) (star_of p + 1) (omega (arith, star)))) h

record IsSpelled (name kind : List ℕ) : Type 0 where
  pub some : 0 < length name
  pub short : length name ≤ 8
  pub letters : list_all is_name_character name ≡ true
  pub short_kind : length kind ≤ 3
  pub kind_letters : list_all is_name_character kind ≡ true

plain_shown : (p : List ℕ) → list_all is_name_character p ≡ true → (k : ℕ) → k < length (map shown p) → eqb (get_or (map shown p) k 0) 46 ≡ false
plain_shown p h k l =
    let within : k < length p = omega (arith, length-map p shown) in
    ap (λ (c : ℕ). eqb c 46) (get_or-map shown p k 0 0 within) ∙ shown_dot (get_or p k 0) (all_at is_name_character p k h within)

read_back : (text name kind : List ℕ) → IsSpelled name kind → name_part text ≡ map shown name → type_part text ≡ map shown kind
    → one_name text ≡ Some (map (character_at name) (range_with_len 0 8) ++ map (character_at kind) (range_with_len 0 3))
unfolding one_name has_parts fields
read_back text name kind is first second =
    let size : length (map shown name) ≡ length name = length-map name shown in
    let kind_size : length (map shown kind) ≡ length kind = length-map kind shown in
    let has : has_parts is_name_character text ≡ true =
    rw first (rw second (and_from _ _ (lt-ltb 0 (length (map shown name)) (omega (arith, size, is.some))) (and_from _ _ (part_of 8 (map shown name) (shown_all name is.letters) (omega (arith, size, is.short))) (part_of 3 (map shown kind) (shown_all kind is.kind_letters) (omega (arith, kind_size, is.short_kind)))))) in
    let both : fields text ≡ map (character_at name) (range_with_len 0 8) ++ map (character_at kind) (range_with_len 0 3) =
    (λ i. map (character_at (first i)) (range_with_len 0 8) ++ map (character_at (second i)) (range_with_len 0 3)) ∙ (λ i. field_back name 8 is.letters is.short i ++ field_back kind 3 is.kind_letters is.short_kind i) in
    let named : ◌≡◌ {A = Option (List ℕ)} (Some (fields text)) (Some (map (character_at name) (range_with_len 0 8) ++ map (character_at kind) (range_with_len 0 3))) = λ i. Some (both i) in
    rw has named

-- ---- the text of a name with attributes

bit_shown : (is_set : Bool) (c : ℕ) → shown_small (with_bit is_set c) ≡ shown_small c
unfolding small
bit_shown is_set c = ap (λ (m : ℕ). cond (eqb m 32) [] (cond (leb 65 m && leb m 90) (m + 32) m ∷ [])) (bit_low is_set c)

-- a type's three characters with their attributes
abbrev kind_with : (is_read_only is_system : Bool) → List ℕ → List ℕ
kind_with is_read_only is_system kind =
    with_bit is_read_only (character_at kind 0) ∷ with_bit is_system (character_at kind 1) ∷ character_at kind 2 ∷ []

kind_shown : (is_read_only is_system : Bool) (kind : List ℕ) → host_part (kind_with is_read_only is_system kind) ≡ host_part (map (character_at kind) (range_with_len 0 3))
unfolding host_part
kind_shown is_read_only is_system kind =
    rw (bit_shown is_read_only (character_at kind 0), bit_shown is_system (character_at kind 1)) refl

kind_blank : (is_read_only is_system : Bool) (kind : List ℕ) → list_all is_blank_byte (kind_with is_read_only is_system kind) ≡ list_all is_blank_byte (map (character_at kind) (range_with_len 0 3))
kind_blank is_read_only is_system kind =
    rw (bit_low is_read_only (character_at kind 0), bit_low is_system (character_at kind 1)) refl

no_kind : list_all is_blank_byte (map (character_at []) (range_with_len 0 3)) ≡ true
unfolding character_at
no_kind = refl

some_kind : (c : ℕ) (kind : List ℕ) → list_all is_name_character (c ∷ kind) ≡ true → list_all is_blank_byte (map (character_at (c ∷ kind)) (range_with_len 0 3)) ≡ false
some_kind c kind h =
    let first : character_at (c ∷ kind) 0 ≡ capital_letter c = char_below (c ∷ kind) 0 h (omega arith) in
    let seen : is_blank_byte (character_at (c ∷ kind) 0) ≡ false = ap is_blank_byte first ∙ capital_seen c (and_parts _ _ h).0 in
    and_left _ _ seen

-- the text of two parts
abbrev text_with : (has_none : Bool) (name kind : List ℕ) → List ℕ
text_with has_none name kind = cond has_none name (name ++ 46 ∷ kind)

text_is : (is_read_only is_system : Bool) (text : List ℕ) → IsSpelled (name_part text) (type_part text)
    → host_text (with_marks is_read_only is_system (fields text)) ≡ text_with (list_all is_blank_byte (map (character_at (type_part text)) (range_with_len 0 3))) (map shown (name_part text)) (map shown (type_part text))
unfolding host_text with_marks fields
text_is is_read_only is_system text is =
    let blank = kind_blank is_read_only is_system (type_part text) in
    let name = host_field (name_part text) 8 is.letters is.short in
    let kind = kind_shown is_read_only is_system (type_part text) ∙ host_field (type_part text) 3 is.kind_letters is.short_kind in
    let dotted = append_assoc (map shown (name_part text)) (46 ∷ []) (map shown (type_part text)) in
    (λ i. cond (blank i) (name i) (name i ++ 46 ∷ [] ++ kind i)) ∙ ap (λ (t : List ℕ). cond (list_all is_blank_byte (map (character_at (type_part text)) (range_with_len 0 3))) (map shown (name_part text)) t) dotted

-- ---- it has no slash, and is read as the name

-- what a text has to be, to be a name's
record IsReadBack (text name kind : List ℕ) : Type 0 where
  pub read : one_name text ≡ Some (map (character_at name) (range_with_len 0 8) ++ map (character_at kind) (range_with_len 0 3))
  pub plain : list_any (λ c. eqb c 47) text ≡ false

text_back : (name kind : List ℕ) → IsSpelled name kind → list_any (λ c. eqb c 47) name ≡ false → list_any (λ c. eqb c 47) kind ≡ false
    → IsReadBack (text_with (list_all is_blank_byte (map (character_at kind) (range_with_len 0 3))) (map shown name) (map shown kind)) name kind
text_back name [] is p q =
    let dots = plain_shown name is.letters in
    let back : IsReadBack (map shown name) name [] = record {
      read = read_back (map shown name) name [] is (name_plain (map shown name) dots) (type_plain (map shown name) dots);
      plain = shown_slashes name is.letters ∙ p;
    } in
    rw no_kind back
text_back name (c ∷ kind) is p q =
    let dots = plain_shown name is.letters in
    let text = map shown name ++ 46 ∷ map shown (c ∷ kind) in
    let back : IsReadBack text name (c ∷ kind) = record {
      read = read_back text name (c ∷ kind) is (name_dotted (map shown name) (map shown (c ∷ kind)) dots) (type_dotted (map shown name) (map shown (c ∷ kind)) dots);
      plain = list_any-append (λ c. eqb c 47) (map shown name) (46 ∷ map shown (c ∷ kind)) ∙ or_from _ _ (shown_slashes name is.letters ∙ p) (shown_slashes (c ∷ kind) is.kind_letters ∙ q);
    } in
    rw (some_kind c kind is.kind_letters) back

-- a part of a text without a slash has none
front_plain : (n : ℕ) (xs : List ℕ) → list_any (λ c. eqb c 47) xs ≡ false → (list_any (λ c. eqb c 47) (take n xs) ≡ false) × (list_any (λ c. eqb c 47) (drop n xs) ≡ false)
front_plain n xs h =
    or_parts _ _ (sym (list_any-append (λ c. eqb c 47) (take n xs) (drop n xs)) ∙ (ap (list_any (λ c. eqb c 47)) (take-append-drop n xs) ∙ h))

parts_plain : (text : List ℕ) → list_any (λ c. eqb c 47) text ≡ false → (list_any (λ c. eqb c 47) (name_part text) ≡ false) × (list_any (λ c. eqb c 47) (type_part text) ≡ false)
unfolding name_part type_part
parts_plain text h =
    let place = position_or_len (λ c. eqb c 46) text in
    ((front_plain place text h).0, (front_plain (place + 1) text h).1)

spelled_parts : (text : List ℕ) → has_parts is_name_character text ≡ true → IsSpelled (name_part text) (type_part text)
unfolding has_parts is_sized
spelled_parts text h =
    let some = and_parts _ _ h in
    let both = and_parts _ _ some.1 in
    let name = and_parts _ _ both.0 in
    let kind = and_parts _ _ both.1 in
    record {
      some = ltb-true _ _ some.0;
      short = leb-true _ _ (and_parts _ _ name.0).0;
      letters = name.1;
      short_kind = leb-true _ _ (and_parts _ _ kind.0).0;
      kind_letters = kind.1;
    }

same_marked : (is_read_only is_system : Bool) (text : List ℕ) → same_name (fields text) (with_marks is_read_only is_system (fields text)) ≡ true
unfolding same_name with_marks fields
same_marked is_read_only is_system text =
    let at = λ (k : ℕ). eq-eqb (character_at (name_part text) k % 128) (character_at (name_part text) k % 128) refl in
    let first = eq-eqb _ _ (sym (bit_low is_read_only (character_at (type_part text) 0))) in
    let second = eq-eqb _ _ (sym (bit_low is_system (character_at (type_part text) 1))) in
    let third = eq-eqb (character_at (type_part text) 2 % 128) (character_at (type_part text) 2 % 128) refl in
    and_from _ _ (at 0) (and_from _ _ (at 1) (and_from _ _ (at 2) (and_from _ _ (at 3) (and_from _ _ (at 4) (and_from _ _ (at 5) (and_from _ _ (at 6) (and_from _ _ (at 7)
    (and_from _ _ first (and_from _ _ second (and_from _ _ third refl))))))))))

pub spelled : SpelledLaw
unfolding is_host_name fields
spelled text name is_read_only is_system h slash =
    let is = name_is text name (sym h) in
    let parts = spelled_parts text is.0 in
    let plain = parts_plain text slash in
    let made = with_marks is_read_only is_system (fields text) in
    let back : IsReadBack (host_text made) (name_part text) (type_part text) =
    subst (λ t. IsReadBack t (name_part text) (type_part text)) (sym (text_is is_read_only is_system text parts)) (text_back (name_part text) (type_part text) parts plain.0 plain.1) in
    let read : is_read_as made (one_name (host_text made)) ≡ true = ap (is_read_as made) back.read ∙ same_marked is_read_only is_system text in
    let whole : is_host_name (host_text made) made ≡ true = and_from _ _ (not_from_false _ back.plain) read in
    subst (λ n. is_host_name (host_text (with_marks is_read_only is_system n)) (with_marks is_read_only is_system n) ≡ true) (sym is.1) whole

-- ---- names with one text

read_apart : (found : Option (List ℕ)) (name other : List ℕ) → is_read_as name found ≡ true → is_read_as other found ≡ true → same_name name other ≡ true
read_apart None name other p q = absurd (false≢true p)
read_apart (Some found) name other p q = same_name-trans name other found (same_name-sym found name p) (same_name-sym found other q)

pub apart : ApartLaw
unfolding is_host_name
apart name other p q e =
    read_apart (one_name (host_text name)) name other (and_parts _ _ p).1 (ap (λ t. is_read_as other (one_name t)) e ∙ (and_parts _ _ q).1)
