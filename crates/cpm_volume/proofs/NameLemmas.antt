-- Names, and the first match of a name without a `?`.
use Rattle.std.proofs.Common.{◌≡◌, ℕ, ◌%◌, Bool, true, false, ◌&&◌, eqb, List, [], ◌∷◌, length, sym, refl, ap, ◌∙◌, arith}
use Rattle.std.specs.List.{position_or_len, list_all, zip}
use Rattle.std.proofs.lemmas.Bool.{false≢true, eqb-true, eq-eqb, and_parts, and_from, or_parts}
use Rattle.cpm_geom.specs.declared.dpb.Dpb.{Dpb}
use Rattle.cpm_volume.specs.declared.extent.Entry.{Entry}
use Rattle.cpm_volume.specs.Files.{wildcard_or_same, extent_number, group_of, same_name, name_matches, has_wildcard, is_of, matches, first_of, first_match, entry_at, entry_block, file_block}

-- a pattern without a `?` matches the same name alone
pub name_matches_plain : (a b : List ℕ) → has_wildcard a ≡ false → name_matches a b ≡ same_name a b
unfolding name_matches same_name has_wildcard
name_matches_plain [] [] h = refl
name_matches_plain [] (y ∷ b) h = refl
name_matches_plain (x ∷ a) [] h = refl
name_matches_plain (x ∷ a) (y ∷ b) h =
    let p = or_parts (eqb (x % 128) 63) (has_wildcard a) h in rw (p.0, name_matches_plain a b p.1) refl

pub matches_plain : (d : Dpb) (user : ℕ) (name : List ℕ) (group : ℕ) (e : Entry) → has_wildcard name ≡ false → matches d user name group e ≡ is_of d user name group e
unfolding matches is_of
matches_plain d user name group e h = ap (λ (b : Bool). eqb e.user user && (b && eqb (group_of d (extent_number e.extent)) group)) (name_matches_plain name e.extent.name h)

pub first_match_plain : (d : Dpb) (es : List Entry) (user : ℕ) (name : List ℕ) (group : ℕ) → has_wildcard name ≡ false → first_match d es user name group ≡ first_of d es user name group
unfolding first_match first_of
first_match_plain d es user name group h =
    ap (λ (p : Entry → Bool). position_or_len p es) (λ i e. matches_plain d user name group e h i)

-- names that are one name's are one another's
pub same_name-trans : (a b c : List ℕ) → same_name a c ≡ true → same_name b c ≡ true → same_name a b ≡ true
unfolding same_name
same_name-trans [] [] c p q = refl
same_name-trans [] (y ∷ b) [] p q = q
same_name-trans [] (y ∷ b) (z ∷ c) p q = absurd (false≢true p)
same_name-trans (x ∷ a) [] [] p q = p
same_name-trans (x ∷ a) [] (z ∷ c) p q = absurd (false≢true q)
same_name-trans (x ∷ a) (y ∷ b) [] p q = absurd (false≢true q)
same_name-trans (x ∷ a) (y ∷ b) (z ∷ c) p q =
    let p' = and_parts _ _ p in
    let q' = and_parts _ _ q in
    and_from _ _ (eq-eqb _ _ (eqb-true _ _ p'.0 ∙ sym (eqb-true _ _ q'.0))) (same_name-trans a b c p'.1 q'.1)

pub same_name-sym : (a b : List ℕ) → same_name a b ≡ true → same_name b a ≡ true
unfolding same_name
same_name-sym [] [] h = refl
same_name-sym [] (y ∷ b) h = h
same_name-sym (x ∷ a) [] h = h
same_name-sym (x ∷ a) (y ∷ b) h =
    let p = and_parts _ _ h in
    and_from _ _ (eq-eqb _ _ (sym (eqb-true _ _ p.0))) (same_name-sym a b p.1)

pub same_name-refl : (a : List ℕ) → same_name a a ≡ true
unfolding same_name
same_name-refl [] = refl
same_name-refl (x ∷ a) = and_from _ _ (eq-eqb _ _ refl) (same_name-refl a)

pub same_wildcard : (a b : List ℕ) → same_name a b ≡ true → has_wildcard b ≡ has_wildcard a
unfolding same_name has_wildcard
same_wildcard [] [] h = refl
same_wildcard [] (y ∷ b) h = absurd (false≢true h)
same_wildcard (x ∷ a) [] h = absurd (false≢true h)
same_wildcard (x ∷ a) (y ∷ b) h =
    let p = and_parts _ _ h in
    rw (eqb-true (x % 128) (y % 128) p.0, same_wildcard a b p.1) refl

-- one name's files are those of the same name
pub same_name_as : (a b c : List ℕ) → same_name a b ≡ true → same_name a c ≡ same_name b c
unfolding same_name
same_name_as [] [] c h = refl
same_name_as [] (y ∷ b) c h = absurd (false≢true h)
same_name_as (x ∷ a) [] c h = absurd (false≢true h)
same_name_as (x ∷ a) (y ∷ b) [] h = refl
same_name_as (x ∷ a) (y ∷ b) (z ∷ c) h =
    let p = and_parts _ _ h in
    rw (eqb-true (x % 128) (y % 128) p.0, same_name_as a b c p.1) refl

pub first_of_same : (d : Dpb) (es : List Entry) (user : ℕ) (a b : List ℕ) (group : ℕ) → same_name a b ≡ true → first_of d es user a group ≡ first_of d es user b group
unfolding first_of is_of
first_of_same d es user a b group h =
    ap (λ (p : Entry → Bool). position_or_len p es) (λ i e. eqb e.user user && (same_name_as a b e.extent.name h i && eqb (group_of d (extent_number e.extent)) group))

pub file_block_same : (d : Dpb) (es : List Entry) (user : ℕ) (a b : List ℕ) (n : ℕ) → same_name a b ≡ true → file_block d es user a n ≡ file_block d es user b n
unfolding file_block
file_block_same d es user a b n h = ap (λ j. entry_block d (entry_at es j) n) (first_of_same d es user a b _ h)

-- over names of one length the match is a test of each pair
pub name_matches_zip : (a b : List ℕ) → length a ≡ length b → list_all wildcard_or_same (zip a b) ≡ name_matches a b
unfolding name_matches
name_matches_zip [] [] h = refl
name_matches_zip [] (y ∷ b) h = absurd (omega arith)
name_matches_zip (x ∷ a) [] h = absurd (omega arith)
name_matches_zip (x ∷ a) (y ∷ b) h = ap (λ (t : Bool). wildcard_or_same (x, y) && t) (name_matches_zip a b (omega arith))
