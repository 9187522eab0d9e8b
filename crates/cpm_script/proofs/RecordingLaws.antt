-- What a recording gives: in order, and the same as a script, whose keys are not too many.
use Rattle.std.proofs.Common.{◌≡◌, ◌≢◌, ◌<◌, ◌≤◌, ◌+◌, ◌-◌, ◌^◌, ◌⊎◌, inl, inr, ℕ, suc, Bool, true, false, List, [], ◌∷◌, ◌++◌, Option, Some, None, Result, Ok, Err, IfOk, length, arith, refl, ap, ◌∙◌, sym, subst, slice_get, nat_le, nat_lt, length-append}
use Rattle.std.specs.Prelude.{◌&&◌, if◌then◌else◌}
use Rattle.std.specs.Char.{is_ascii_digit}
use Rattle.std.specs.List.{after_first, before_first, list_all}
use Rattle.std.specs.Option.{option_map_or}
use Rattle.std.specs.Str.Lines.{lines}
use Rattle.std.specs.Str.Parse.{digits_value}
use Rattle.std.proofs.lemmas.Bool.Decides.{nat_tests}
use Rattle.std.proofs.lemmas.List.{length-map}
use Rattle.cpm_script.specs.KeyText.{count_of, keys_of}
use Rattle.cpm_script.specs.Laws.{FaultsOfScripts, FewAreScripts, RecordingsInOrder, ScriptsAreRecordings}
use Rattle.cpm_script.specs.Recording.{AreTyped, recording}
use Rattle.cpm_script.specs.Script.{at_line, is_after, is_allowed, is_script_space, is_skipped, keys_added_within, keys_at, keys_with_counted_within, keys_with_line_within, keys_with_text_within, most_keys, or_fault, script, script_from_within}
use Rattle.cpm_script.specs.declared.fault.LineFault.{LineFault}
use Rattle.cpm_script.specs.declared.fault.LineFault.TheVariants.{CountFalls, NoCount, NotAKey, TooManyKeys}
use Rattle.cpm_script.specs.declared.script.Key.{Key}
use Rattle.cpm_script.proofs.CueLaws.{AreAscii, ascii-keys}

-- ---- in order

typed-at : (n count : ℕ) (bytes : List ℕ) → n ≤ count → count < 2 ^ 64 → AreAscii bytes → AreTyped n (keys_at count bytes)
typed-at n count [] low small ascii = tt
typed-at n count (b ∷ bytes) low small ascii = (low, small, ascii.0, typed-at count count bytes (omega arith) small ascii.1)

-- keys that come no sooner than the last
typed-more : (n count : ℕ) (k : Key) (keys : List Key) (bytes : List ℕ) → is_after (k ∷ keys) count ≡ true → count < 2 ^ 64 → AreAscii bytes
    → AreTyped n (k ∷ keys) → AreTyped n ((k ∷ keys) ++ keys_at count bytes)
typed-more n count k [] bytes late small ascii typed =
    let last : nat_le k.count count ≡ true = late in
    (typed.0, typed.1, typed.2, typed-at k.count count bytes (grind (arith, nat_tests)) small ascii)
typed-more n count k (next ∷ keys) bytes late small ascii typed =
    let place : length (k ∷ next ∷ keys) - 1 ≡ suc (length (next ∷ keys) - 1) = omega arith in
    let rest : is_after (next ∷ keys) count ≡ true = sym (ap (λ i. option_map_or (λ (x : Key). nat_le x.count count) (slice_get (k ∷ next ∷ keys) i) true) place) ∙ late in
    (typed.0, typed.1, typed.2, typed-more k.count count next keys bytes rest small ascii typed.3)

typed-all : (count : ℕ) (keys : List Key) (bytes : List ℕ) → is_after keys count ≡ true → count < 2 ^ 64 → AreAscii bytes → AreTyped 0 keys
    → AreTyped 0 (keys ++ keys_at count bytes)
typed-all count [] bytes late small ascii typed = typed-at 0 count bytes (omega arith) small ascii
typed-all count (k ∷ keys) bytes late small ascii typed = typed-more 0 count k keys bytes late small ascii typed

-- what is true of the keys with those of a text behind them
after-keys : (limit : Option ℕ) (P : List Key → Type 0) (keys : List Key) (count : ℕ) (bytes : List ℕ) → P (keys ++ keys_at count bytes)
    → IfOk (keys_added_within limit keys count bytes) P
after-keys limit P keys count [] holds = tt
after-keys limit P keys count (b ∷ bytes) holds = by_test (is_allowed limit (length keys + length (b ∷ bytes)))
  where
    by_test : (t : Bool) → IfOk (if t then Ok (keys ++ keys_at count (b ∷ bytes)) else Err TooManyKeys) P
    by_test true = holds
    by_test false = tt

after-text : (limit : Option ℕ) (P : List Key → Type 0) (keys : List Key) (count : ℕ) (text : Option (List ℕ))
    → ((bytes : List ℕ) → text ≡ Some bytes → P (keys ++ keys_at count bytes)) → IfOk (or_fault NotAKey text (keys_added_within limit keys count)) P
after-text limit P keys count None each = tt
after-text limit P keys count (Some bytes) each = after-keys limit P keys count bytes (each bytes refl)

after-counted : (limit : Option ℕ) (P : List Key → Type 0) (keys : List Key) (number : Option ℕ) (text : List ℕ)
    → ((count : ℕ) (bytes : List ℕ) → number ≡ Some count → is_after keys count ≡ true → keys_of text ≡ Some bytes → P (keys ++ keys_at count bytes))
    → IfOk (or_fault NoCount number (λ count. if is_after keys count then keys_with_text_within limit keys count text else Err CountFalls)) P
after-counted limit P keys None text each = tt
after-counted limit P keys (Some count) text each = by_test (is_after keys count) refl
  where
    by_test : (t : Bool) → is_after keys count ≡ t → IfOk (if t then keys_with_text_within limit keys count text else Err CountFalls) P
    by_test true late = after-text limit P keys count (keys_of text) (λ bytes is. each count bytes refl late is)
    by_test false late = tt

-- what is true of the keys so far is true after a line, where it is true with more keys at a count
after-line : (limit : Option ℕ) (P : List Key → Type 0)
    → ((keys : List Key) (number text : List ℕ) (count : ℕ) (bytes : List ℕ) → P keys → count_of number ≡ Some count → is_after keys count ≡ true → keys_of text ≡ Some bytes
    → P (keys ++ keys_at count bytes))
    → (keys : List Key) (line : List ℕ) → P keys → IfOk (keys_with_line_within limit keys line) P
after-line limit P each keys line holds = by_test (is_skipped line)
  where
    by_test : (t : Bool)
        → IfOk (if t then Ok keys else keys_with_counted_within limit keys (before_first is_script_space line) (after_first is_script_space line)) P
    by_test true = holds
    by_test false =
        let number = before_first is_script_space line in
        let text = after_first is_script_space line in
        after-counted limit P keys (count_of number) text (λ count bytes is late key. each keys number text count bytes holds is late key)

numbered : (P : List Key → Type 0) (number : ℕ) (r : Result (List Key) LineFault) (next : List Key → Result (List Key) (ℕ × LineFault))
    → ((more : List Key) → P more → IfOk (next more) P) → IfOk r P → IfOk (at_line number r next) P
numbered P number (Ok more) next goes holds = goes more holds
numbered P number (Err fault) next goes holds = tt

-- and after all lines
after-lines : (limit : Option ℕ) (P : List Key → Type 0)
    → ((keys : List Key) (number text : List ℕ) (count : ℕ) (bytes : List ℕ) → P keys → count_of number ≡ Some count → is_after keys count ≡ true → keys_of text ≡ Some bytes
    → P (keys ++ keys_at count bytes))
    → (number : ℕ) (keys : List Key) (rest : List (List ℕ)) → P keys → IfOk (script_from_within limit number keys rest) P
after-lines limit P each number keys [] holds = holds
after-lines limit P each number keys (line ∷ rest) holds =
    numbered P number (keys_with_line_within limit keys line) (λ more. script_from_within limit (number + 1) more rest)
    (λ more good. after-lines limit P each (number + 1) more rest good) (after-line limit P each keys line holds)

small-by : (a b t : Bool) (v n : ℕ) → nat_lt v (2 ^ 64) ≡ t → (if a && b && t then Some v else None) ≡ Some n → n < 2 ^ 64
small-by true true true v n e is = let same : v ≡ n = cc in grind (arith, nat_tests, e, same)
small-by true true false v n e is = absurd (cc)
small-by true false t v n e is = absurd (cc)
small-by false b t v n e is = absurd (cc)

count-small : (ds : List ℕ) (n : ℕ) → count_of ds ≡ Some n → n < 2 ^ 64
count-small ds n is =
    small-by (nat_lt 0 (length ds)) (list_all is_ascii_digit ds) (nat_lt (digits_value 10 ds) (2 ^ 64)) (digits_value 10 ds) n refl is

pub recordings-ordered : RecordingsInOrder
recordings-ordered text = after-lines None (AreTyped 0)
    (λ keys number text count bytes typed is late key. typed-all count keys bytes late (count-small number count is) (ascii-keys text bytes key) typed)
    1 [] (lines text) tt

-- ---- the same as a script

-- there don't get fewer keys
stays-longer : (n number : ℕ) (keys : List Key) (rest : List (List ℕ)) → n < length keys → IfOk (script_from_within None number keys rest) (λ all. n < length all)
stays-longer n number keys rest more = after-lines None (λ all. n < length all)
    (λ keys number text count bytes more is late key. omega (arith, more, length-append keys (keys_at count bytes))) number keys rest more

-- the same of a line without the limit as with it, or too many keys for it
abbrev SameLine : Result (List Key) LineFault → Result (List Key) LineFault → Type 0
SameLine (Ok keys) read = read ≡ Ok keys
SameLine (Err fault) read = (read ≡ Err fault) ⊎ ((fault ≡ TooManyKeys) × IfOk read (λ keys. most_keys < length keys))

-- and of a text
abbrev IsSame : Result (List Key) (ℕ × LineFault) → Result (List Key) (ℕ × LineFault) → Type 0
IsSame (Ok keys) read = read ≡ Ok keys
IsSame (Err fault) read = (read ≡ Err fault) ⊎ ((fault.1 ≡ TooManyKeys) × IfOk read (λ keys. most_keys < length keys))

same-keys : (keys : List Key) (count : ℕ) (bytes : List ℕ) → SameLine (keys_added_within (Some most_keys) keys count bytes) (keys_added_within None keys count bytes)
same-keys keys count [] = inl refl
same-keys keys count (b ∷ bytes) = by_test (nat_le (length keys + length (b ∷ bytes)) most_keys) refl
  where
    by_test : (t : Bool) → nat_le (length keys + length (b ∷ bytes)) most_keys ≡ t
        → SameLine (if t then Ok (keys ++ keys_at count (b ∷ bytes)) else Err TooManyKeys) (Ok (keys ++ keys_at count (b ∷ bytes)))
    by_test true e = refl
    by_test false e =
        let over : most_keys < length keys + length (b ∷ bytes) = grind (arith, nat_tests, e) in
        let as_many : length (keys_at count (b ∷ bytes)) ≡ length (b ∷ bytes) = length-map (b ∷ bytes) _ in
        inr (refl, omega (arith, over, length-append keys (keys_at count (b ∷ bytes)), as_many))

same-text : (keys : List Key) (count : ℕ) (text : Option (List ℕ))
    → SameLine (or_fault NotAKey text (keys_added_within (Some most_keys) keys count)) (or_fault NotAKey text (keys_added_within None keys count))
same-text keys count None = inl refl
same-text keys count (Some bytes) = same-keys keys count bytes

same-counted : (keys : List Key) (number : Option ℕ) (text : List ℕ)
    → SameLine (or_fault NoCount number (λ count. if is_after keys count then keys_with_text_within (Some most_keys) keys count text else Err CountFalls))
    (or_fault NoCount number (λ count. if is_after keys count then keys_with_text_within None keys count text else Err CountFalls))
same-counted keys None text = inl refl
same-counted keys (Some count) text = by_test (is_after keys count)
  where
    by_test : (t : Bool) → SameLine (if t then keys_with_text_within (Some most_keys) keys count text else Err CountFalls)
        (if t then keys_with_text_within None keys count text else Err CountFalls)
    by_test true = same-text keys count (keys_of text)
    by_test false = inl refl

same-line : (keys : List Key) (line : List ℕ) → SameLine (keys_with_line_within (Some most_keys) keys line) (keys_with_line_within None keys line)
same-line keys line = by_test (is_skipped line) (before_first is_script_space line) (after_first is_script_space line)
  where
    by_test : (t : Bool) (number text : List ℕ) → SameLine (if t then Ok keys else keys_with_counted_within (Some most_keys) keys number text)
        (if t then Ok keys else keys_with_counted_within None keys number text)
    by_test true number text = refl
    by_test false number text = same-counted keys (count_of number) text

-- what follows a line
same-after : (number : ℕ) (rest : List (List ℕ)) (r read : Result (List Key) LineFault) → SameLine r read
    → ((more : List Key) → IsSame (script_from_within (Some most_keys) (number + 1) more rest) (script_from_within None (number + 1) more rest))
    → IsSame (at_line number r (λ more. script_from_within (Some most_keys) (number + 1) more rest)) (at_line number read (λ more. script_from_within None (number + 1) more rest))
same-after number rest (Ok more) read same goes =
    subst (λ r. IsSame (script_from_within (Some most_keys) (number + 1) more rest) (at_line number r (λ keys. script_from_within None (number + 1) keys rest))) (sym same) (goes more)
same-after number rest (Err fault) read (inl same) goes = inl (ap (λ r. at_line number r (λ keys. script_from_within None (number + 1) keys rest)) same)
same-after number rest (Err fault) read (inr many) goes =
    inr (
      many.0,
      numbered (λ keys. most_keys < length keys) number read (λ more. script_from_within None (number + 1) more rest)
          (λ more longer. stays-longer most_keys (number + 1) more rest longer) many.1,
    )

same-lines : (number : ℕ) (keys : List Key) (rest : List (List ℕ)) → IsSame (script_from_within (Some most_keys) number keys rest) (script_from_within None number keys rest)
same-lines number keys [] = refl
same-lines number keys (line ∷ rest) =
    same-after number rest (keys_with_line_within (Some most_keys) keys line) (keys_with_line_within None keys line) (same-line keys line)
    (λ more. same-lines (number + 1) more rest)

same : (text : List ℕ) → IsSame (script text) (recording text)
same text = same-lines 1 [] (lines text)

-- ---- the laws

keys-same : (r read : Result (List Key) (ℕ × LineFault)) (keys : List Key) → IsSame r read → r ≡ Ok keys → read ≡ Ok keys
keys-same (Ok more) read keys is e = is ∙ e
keys-same (Err fault) read keys is e = absurd (cc)

pub scripts-recordings : ScriptsAreRecordings
scripts-recordings text keys is = keys-same (script text) (recording text) keys (same text) is

fault-same : (r read : Result (List Key) (ℕ × LineFault)) (number : ℕ) (fault : LineFault) → IsSame r read → r ≡ Err (number, fault) → fault ≢ TooManyKeys → read ≡ Err (number, fault)
fault-same (Ok more) read number fault is e other = absurd (cc)
fault-same (Err first) read number fault (inl is) e other = is ∙ e
fault-same (Err first) read number fault (inr many) e other =
    let equal : first ≡ (number, fault) = cc in
    absurd (other (sym (ap (λ (p : ℕ × LineFault). p.1) equal) ∙ many.0))

pub faults-same : FaultsOfScripts
faults-same text number fault is other = fault-same (script text) (recording text) number fault (same text) is other

few-same : (r read : Result (List Key) (ℕ × LineFault)) (keys : List Key) → IsSame r read → read ≡ Ok keys → length keys ≤ most_keys → r ≡ Ok keys
few-same (Ok more) read keys is e few = sym is ∙ e
few-same (Err fault) read keys (inl is) e few = absurd (cc)
few-same (Err fault) read keys (inr many) e few =
    let longer : most_keys < length keys = subst (λ r. IfOk r (λ (all : List Key). most_keys < length all)) e many.1 in
    absurd (omega (arith, longer, few))

pub few-scripts : FewAreScripts
few-scripts text keys is few = few-same (script text) (recording text) keys (same text) is few
