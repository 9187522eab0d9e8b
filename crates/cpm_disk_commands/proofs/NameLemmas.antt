-- Names have no character that stands for others.
use Rattle.std.proofs.Common.{◌≡◌, ◌∙◌, ℕ, ◌+◌, ◌%◌, ◌<◌, Bool, true, false, ◌&&◌, cond, eqb, ltb, List, [], ◌∷◌, Some, None, length, take, drop, ◌++◌, get_or, refl, sym, ap, inl, inr, arith, take-append-drop}
use Rattle.std.specs.List.{list_all}
use Rattle.std.proofs.lemmas.Bool.{true≢false, false≢true, and_parts, or_from, ltb-true, lt-ltb, le-ltb, cases_lt, true_from_ne_false, agree_below_at}
use Rattle.std.proofs.lemmas.List.Folds.{list_all_at}
use Rattle.std.proofs.lemmas.List.Sums.{position_or_len_is}
use Rattle.std.proofs.lemmas.Option.{none-some}
use Rattle.std.specs.Str.{NoCharPasses}
use Rattle.std.specs.Str.Pattern.{HasCharAt}
use Rattle.std.proofs.lemmas.List.{take_more}
use Rattle.std.proofs.lemmas.Str.{len_utf8_ascii}
use Rattle.std.proofs.lemmas.Str.Pattern.{NoCharPasses-char}
use Rattle.cpm_volume.specs.Files.{has_wildcard}
use Rattle.cpm_disk_commands.specs.Names.{is_name_character, capital_letter, character_at, star_of, name_part, type_part, has_parts, fields, one_name, with_bit, with_marks, IsBaseName}

-- ---- a character of a name

pub name_low : (c : ℕ) → is_name_character c ≡ true → c < 128
unfolding is_name_character
name_low c h =
    let less : c < 127 = ltb-true c 127 (and_parts (ltb c 127) _ (and_parts (ltb 32 c) _ h).1).0 in omega (arith, less)

pub right_of : (x y : Bool) → (x && y) ≡ false → x ≡ true → y ≡ false
right_of true y h e = h
right_of false y h e = absurd (false≢true e)

plain_capital : (c : ℕ) → is_name_character c ≡ true → eqb (capital_letter c % 128) 63 ≡ false
unfolding is_name_character capital_letter
plain_capital c h =
    right_of (is_name_character c) _ (agree_below_at (λ k. is_name_character k && eqb (capital_letter k % 128) 63) (λ _. false) 128 c refl (name_low c h)) h

no_star : (c : ℕ) → is_name_character c ≡ true → eqb c 42 ≡ false
unfolding is_name_character
no_star c h =
    right_of (is_name_character c) _ (agree_below_at (λ k. is_name_character k && eqb k 42) (λ _. false) 128 c refl (name_low c h)) h

-- ---- a part of a name

pub all_at : (p : ℕ → Bool) (xs : List ℕ) (i : ℕ) → list_all p xs ≡ true → i < length xs → p (get_or xs i 0) ≡ true
all_at p xs i h l = true_from_ne_false _ (λ e. true≢false (sym h ∙ list_all_at p xs i 0 l e))

pub star_behind : (part : List ℕ) → list_all is_name_character part ≡ true → star_of part ≡ length part
star_behind part h =
    position_or_len_is (λ c. eqb c 42) part (length part) 0 (omega arith) (λ k l. no_star (get_or part k 0) (all_at is_name_character part k h l)) (λ l. absurd (omega arith))

plain_at : (part : List ℕ) → list_all is_name_character part ≡ true → (place : ℕ) → eqb (character_at part place % 128) 63 ≡ false
unfolding character_at
plain_at part h place =
    let star = star_behind part h in
    elim (cases_lt place (length part)) [
      | inl lt ↦
          let before : ltb place (star_of part) ≡ true = rw star (lt-ltb _ _ lt) in
          rw before (plain_capital (get_or part place 0) (all_at is_name_character part place h lt))
      | inr ge ↦
          let behind : ltb place (star_of part) ≡ false = rw star (le-ltb _ _ ge) in
          let none : ltb (star_of part) (length part) ≡ false = rw star (le-ltb _ _ (omega arith)) in
          rw behind (rw none refl)
    ]

-- ---- a whole name, with attributes

pub bit_low : (is_set : Bool) (c : ℕ) → with_bit is_set c % 128 ≡ c % 128
unfolding with_bit
bit_low true c = omega arith
bit_low false c = omega arith

pub plain_name : (is_read_only is_system : Bool) (text : List ℕ) → has_parts is_name_character text ≡ true → has_wildcard (with_marks is_read_only is_system (fields text)) ≡ false
unfolding has_wildcard with_marks fields has_parts
plain_name is_read_only is_system text h =
    let both = and_parts _ _ (and_parts _ _ h).1 in
    let name = plain_at (name_part text) (and_parts _ _ both.0).1 in
    let kind = plain_at (type_part text) (and_parts _ _ both.1).1 in
    or_from _ _ (name 0) (or_from _ _ (name 1) (or_from _ _ (name 2) (or_from _ _ (name 3) (or_from _ _ (name 4) (or_from _ _ (name 5) (or_from _ _ (name 6) (or_from _ _ (name 7)
    (or_from _ _ (ap (λ (n : ℕ). eqb n 63) (bit_low is_read_only (character_at (type_part text) 0)) ∙ kind 0)
    (or_from _ _ (ap (λ (n : ℕ). eqb n 63) (bit_low is_system (character_at (type_part text) 1)) ∙ kind 1)
    (or_from _ _ (kind 2) refl))))))))))

-- what a text spells that is a name
pub name_is : (text name : List ℕ) → Some name ≡ one_name text → (has_parts is_name_character text ≡ true) × (name ≡ fields text)
unfolding one_name
name_is text name h = go (has_parts is_name_character text) h refl
  where
    go : (b : Bool) → Some name ≡ cond b (Some (fields text)) None → has_parts is_name_character text ≡ b → (has_parts is_name_character text ≡ true) × (name ≡ fields text)
    go true e is = (is, cc)
    go false e is = absurd (none-some name (sym e))

-- ---- the last name of a path

-- with no slash
pub base_none : (path : List ℕ) → NoCharPasses (λ d. eqb d 47) path → IsBaseName path path
base_none path h = record { front = []; whole = refl; plain = λ k l. NoCharPasses-char 47 path k h (omega arith) l; last = inl refl }

-- behind the last slash
pub base_some : (path name : List ℕ) (i j : ℕ) → NoCharPasses (λ d. eqb d 47) (drop j path) → HasCharAt 47 path i j → name ≡ drop j path → length name + j ≡ length path → IsBaseName path name
base_some path name i j h at is size =
    let next : j ≡ i + 1 = omega (arith, at.ends, len_utf8_ascii 47 (omega arith)) in
    let within : i < length path = omega arith in
    let slash : get_or path i 0 ≡ 47 = at.byte (omega arith) in
    record {
      front = take j path;
      whole = sym (take-append-drop j path) ∙ ap (λ (xs : List ℕ). take j path ++ xs) (sym is);
      plain = λ k l. NoCharPasses-char 47 name k (rw is h) (omega arith) l;
      last = inr (take i path, ap (λ (n : ℕ). take n path) next ∙ take_more path i 0 within ∙ ap (λ (c : ℕ). take i path ++ c ∷ []) slash);
    }
