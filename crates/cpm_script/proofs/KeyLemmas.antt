-- The keys of a text, one after another.
use Rattle.std.proofs.Common.{◌≡◌, ◌<◌, ◌≤◌, ◌+◌, ℕ, Bool, true, false, List, [], ◌∷◌, ◌++◌, Option, Some, None, length, arith, refl, ap, ◌∙◌, sym, append_assoc, option_map, length-append}
use Rattle.std.specs.Prelude.{IfSome, Result, Ok, Err, option_and_then, is_some, not, ◌==◌, nat_le, if◌then◌else◌}
use Rattle.std.proofs.lemmas.List.{append-nil, length-map}
use Rattle.std.proofs.lemmas.Bool.{eqb-true}
use Rattle.std.proofs.lemmas.Bool.Decides.{nat_tests}
use Rattle.cpm_script.specs.KeyText.{caret, control_key, first_key_of_text, keys_of, onto, plain_key}
use Rattle.cpm_script.specs.Script.{is_allowed, keys_at, keys_added_within, most_keys, or_fault}
use Rattle.cpm_script.specs.declared.fault.LineFault.{LineFault}
use Rattle.cpm_script.specs.declared.fault.LineFault.TheVariants.{NotAKey, TooManyKeys}
use Rattle.cpm_script.specs.declared.script.Key.{Key}

pub not_empty : (xs : List ℕ) → false ≡ (length xs == 0) → 0 < length xs
not_empty [] e = absurd (cc)
not_empty (x ∷ xs) e = omega arith

-- the keys of what follows a first key, with it in front
abbrev pub fronted : Option (ℕ × List ℕ) → Option (List ℕ)
fronted first = option_and_then (λ p. option_map (λ ks. p.0 ∷ ks) (keys_of p.1)) first

more : (k : Option ℕ) (rest : List ℕ) → onto k (keys_of rest) ≡ fronted (option_map (λ b. (b, rest)) k)
more None rest = refl
more (Some b) rest = refl

by_caret : (is_caret : Bool) (b c : ℕ) (rest : List ℕ)
    → (if is_caret then onto (control_key c) (keys_of rest) else onto (plain_key b) (keys_of (c ∷ rest)))
    ≡ fronted (if is_caret then option_map (λ k. (k, rest)) (control_key c) else option_map (λ k. (k, c ∷ rest)) (plain_key b))
by_caret true b c rest = more (control_key c) rest
by_caret false b c rest = more (plain_key b) (c ∷ rest)

pub keys_of-first : (text : List ℕ) → 0 < length text → keys_of text ≡ fronted (first_key_of_text text)
keys_of-first [] some = absurd (omega arith)
keys_of-first (b ∷ []) some = more (plain_key b) []
keys_of-first (b ∷ c ∷ rest) some = by_caret (b == caret) b c rest

longer : (k : ℕ) (o : Option (List ℕ)) (ks : List ℕ) → option_map (λ rest. k ∷ rest) o ≡ Some ks → 0 < length ks
longer k None ks is = absurd (cc)
longer k (Some rest) [] is = absurd (cc)
longer k (Some rest) (x ∷ ks) is = omega arith

fronted-some : (first : Option (ℕ × List ℕ)) (ks : List ℕ) → fronted first ≡ Some ks → 0 < length ks
fronted-some None ks is = absurd (cc)
fronted-some (Some p) ks is = longer p.0 (keys_of p.1) ks is

-- a text that is not empty has a key
pub keys_of-some : (text : List ℕ) (ks : List ℕ) → 0 < length text → keys_of text ≡ Some ks → 0 < length ks
keys_of-some text ks some is = fronted-some (first_key_of_text text) ks (sym (keys_of-first text some) ∙ is)

fronted-is_some : (k : ℕ) (o : Option (List ℕ)) → is_some (option_map (λ ks. k ∷ ks) o) ≡ is_some o
fronted-is_some k None = refl
fronted-is_some k (Some ks) = refl

-- a text is keys where what follows its first key is
pub is_some-first : (text : List ℕ) (k : ℕ) (rest : List ℕ) → 0 < length text → first_key_of_text text ≡ Some (k, rest) → is_some (keys_of text) ≡ is_some (keys_of rest)
is_some-first text k rest some first =
    ap is_some (keys_of-first text some ∙ ap fronted first) ∙ fronted-is_some k (keys_of rest)

-- ---- the keys so far, and those of a rest

abbrev pub joined : List Key → ℕ → Option (List ℕ) → Option (List Key)
joined keys count rest = option_map (λ ks. keys ++ keys_at count ks) rest

pub joined-first : (keys : List Key) (count byte : ℕ) (rest : Option (List ℕ))
    → joined (keys ++ record { count = count; byte = byte } ∷ []) count rest ≡ joined keys count (option_map (λ ks. byte ∷ ks) rest)
joined-first keys count byte None = refl
joined-first keys count byte (Some ks) = ap Some (append_assoc keys _ (keys_at count ks))

pub joined-end : (keys : List Key) (count : ℕ) (rest : List ℕ) → true ≡ (length rest == 0) → Some keys ≡ joined keys count (keys_of rest)
joined-end keys count [] e = ap Some (sym (append-nil keys))
joined-end keys count (x ∷ rest) e = absurd (omega (arith, eqb-true (length (x ∷ rest)) 0 (sym e)))

pub fits : (n m : ℕ) → n + m ≤ most_keys → nat_le (n + m) most_keys ≡ true
fits n m room = grind (arith, nat_tests)

pub too_many : (n m : ℕ) → most_keys < n + m → nat_le (n + m) most_keys ≡ false
too_many n m over = grind (arith, nat_tests)

-- a number that is no more than the limit is allowed
pub allowed : (limit : Option ℕ) (n : ℕ) → IfSome limit (λ most. n ≤ most) → is_allowed limit n ≡ true
allowed None n room = refl
allowed (Some most) n room = grind (arith, nat_tests, room)

-- what is more than a number that is too large is so too
over : (limit : Option ℕ) (n m : ℕ) → is_allowed limit n ≡ false → n ≤ m → is_allowed limit m ≡ false
over None n m full more = absurd (cc)
over (Some most) n m full more = grind (arith, nat_tests, full, more)

-- where one more is allowed there is room for it
pub room_for_one : (limit : Option ℕ) (n : ℕ) → false ≡ not (is_allowed limit (n + 1)) → IfSome limit (λ most. n + 1 ≤ most)
room_for_one None n fit = tt
room_for_one (Some most) n fit = by_test (nat_le (n + 1) most) refl fit
  where
    by_test : (t : Bool) → nat_le (n + 1) most ≡ t → false ≡ not t → n + 1 ≤ most
    by_test true e f = grind (arith, nat_tests, e)
    by_test false e f = absurd (cc)

pub not_allowed : (t : Bool) → true ≡ not t → t ≡ false
not_allowed true e = absurd (cc)
not_allowed false e = refl

-- the text's keys, or the fault of the line
abbrev pub added : Option ℕ → List Key → ℕ → Option (List ℕ) → Result (List Key) LineFault
added limit keys count text = or_fault NotAKey text (keys_added_within limit keys count)

-- all keys of a text were added
pub added-all : (limit : Option ℕ) (old now : List Key) (count : ℕ) (text : Option (List ℕ)) → ((ks : List ℕ) → text ≡ Some ks → 0 < length ks)
    → IfSome limit (λ most. length now ≤ most) → Some now ≡ joined old count text → added limit old count text ≡ Ok now
added-all limit old now count None some room same = absurd (cc)
added-all limit old now count (Some []) some room same = absurd (omega (arith, some [] refl))
added-all limit old now count (Some (k ∷ ks)) some room same =
    let is : now ≡ old ++ keys_at count (k ∷ ks) = cc in
    let lengths : length now ≡ length old + length (k ∷ ks) = ap length is ∙ length-append old (keys_at count (k ∷ ks)) ∙ ap (λ n. length old + n) (length-map (k ∷ ks) _) in
    rw (ap (is_allowed limit) (sym lengths) ∙ allowed limit (length now) room) (ap Ok (sym is))

-- a text whose rest is refused is refused
pub added-refused : (limit : Option ℕ) (old now : List Key) (count : ℕ) (rest text : Option (List ℕ)) → joined now count rest ≡ joined old count text → rest ≡ None
    → added limit old count text ≡ Err NotAKey
added-refused limit old now count rest None same none = refl
added-refused limit old now count None (Some ks) same none = absurd (cc)
added-refused limit old now count (Some rs) (Some ks) same none = absurd (cc)

full : (limit : Option ℕ) (old : List Key) (count : ℕ) (ks : List ℕ) → is_allowed limit (length old + length ks) ≡ false → 0 < length ks
    → keys_added_within limit old count ks ≡ Err TooManyKeys
full limit old count [] many some = absurd (omega (arith, some))
full limit old count (k ∷ ks) many some = rw many refl

-- a text whose rest has no room is refused, for its rest or for its length
pub added-full : (limit : Option ℕ) (old now : List Key) (count : ℕ) (rest text : Option (List ℕ)) → joined now count rest ≡ joined old count text
    → ((ks : List ℕ) → rest ≡ Some ks → 0 < length ks) → ((ks : List ℕ) → text ≡ Some ks → 0 < length ks) → is_allowed limit (length now + 1) ≡ false
    → added limit old count text ≡ Err (if is_some rest then TooManyKeys else NotAKey)
added-full limit old now count None text same some some_key many = added-refused limit old now count None text same refl
added-full limit old now count (Some rs) None same some some_key many = absurd (cc)
added-full limit old now count (Some rs) (Some ks) same some some_key many =
    let is : now ++ keys_at count rs ≡ old ++ keys_at count ks = cc in
    let here = some rs refl in
    let lengths = sym (length-append now (keys_at count rs)) ∙ ap length is ∙ length-append old (keys_at count ks) in
    let same_rest : length (keys_at count rs) ≡ length rs = length-map rs _ in
    let same_text : length (keys_at count ks) ≡ length ks = length-map ks _ in
    full limit old count ks (over limit (length now + 1) (length old + length ks) many (omega (arith, here, lengths, same_rest, same_text)))
    (some_key ks refl)

-- ---- how many keys a text stands for

-- a key more in front, and one less to come
pub counted-first : (n k : ℕ) (rest : Option (List ℕ))
    → option_map (λ ks. n + 1 + length ks) rest ≡ option_map (λ ks. n + length ks) (option_map (λ ks. k ∷ ks) rest)
counted-first n k None = refl
counted-first n k (Some ks) = ap Some (omega arith)

rest_of : (k : Option ℕ) (rest after : List ℕ) (key : ℕ) → option_map {U = ℕ × List ℕ} (λ b. (b, rest)) k ≡ Some (key, after) → rest ≡ after
rest_of None rest after key is = absurd (cc)
rest_of (Some b) rest after key is =
    let same : ◌≡◌ {A = ℕ × List ℕ} (b, rest) (key, after) = cc in ap (λ (p : ℕ × List ℕ). p.1) same

rest_by_caret : (is_caret : Bool) (b c : ℕ) (rest after : List ℕ) (key : ℕ)
    → (if is_caret then option_map {U = ℕ × List ℕ} (λ k. (k, rest)) (control_key c) else option_map (λ k. (k, c ∷ rest)) (plain_key b)) ≡ Some (key, after)
    → length after < length (b ∷ c ∷ rest)
rest_by_caret true b c rest after key is = omega (arith, ap length (rest_of (control_key c) rest after key is))
rest_by_caret false b c rest after key is = omega (arith, ap length (rest_of (plain_key b) (c ∷ rest) after key is))

-- what follows a first key is shorter
pub first_key-shorter : (text after : List ℕ) (key : ℕ) → first_key_of_text text ≡ Some (key, after) → length after < length text
first_key-shorter [] after key is = absurd (cc)
first_key-shorter (b ∷ []) after key is = omega (arith, ap length (rest_of (plain_key b) [] after key is))
first_key-shorter (b ∷ c ∷ rest) after key is = rest_by_caret (b == caret) b c rest after key is
