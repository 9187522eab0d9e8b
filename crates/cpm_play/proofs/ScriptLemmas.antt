-- The keys of a script are in order, and not too many.
use Rattle.std.proofs.Common.{◌≡◌, ℕ, suc, ◌+◌, ◌-◌, ◌≤◌, Bool, true, false, nat_le, Option, Some, None, Result, Ok, Err, IfOk, List, [], ◌∷◌, ◌++◌, length, refl, sym, ap, ◌∙◌, arith, if◌then◌else◌, slice_get, length-append}
use Rattle.std.specs.List.{before_first, after_first}
use Rattle.std.specs.Option.{option_map_or}
use Rattle.std.specs.Str.Lines.{lines}
use Rattle.std.proofs.lemmas.Bool.Decides.{nat_tests}
use Rattle.cpm_script.specs.declared.script.Key.{Key}
use Rattle.cpm_script.specs.declared.fault.LineFault.{LineFault}
use Rattle.cpm_script.specs.declared.fault.LineFault.TheVariants.{NoCount, CountFalls, NotAKey, TooManyKeys}
use Rattle.cpm_script.specs.KeyText.{count_of, keys_of}
use Rattle.cpm_script.specs.Script.{is_after, is_skipped, is_script_space, keys_at, or_fault, keys_added, keys_with_text, keys_with_counted, keys_with_line, at_line, script_from}
use Rattle.cpm_play.specs.Playing.{IsInOrder}
use Rattle.cpm_play.specs.Laws.{ScriptsInOrder}

abbrev IsGood : List Key → Type 0
IsGood keys = IsInOrder 0 keys × (length keys ≤ 4096)

same-count : (count : ℕ) (bytes : List ℕ) → IsInOrder count (keys_at count bytes)
same-count count [] = tt
same-count count (b ∷ bytes) = (omega arith, same-count count bytes)

from-count : (n count : ℕ) (bytes : List ℕ) → n ≤ count → IsInOrder n (keys_at count bytes)
from-count n count [] low = tt
from-count n count (b ∷ bytes) low = (low, same-count count bytes)

length-keys : (count : ℕ) (bytes : List ℕ) → length (keys_at count bytes) ≡ length bytes
length-keys count [] = refl
length-keys count (b ∷ bytes) = ap suc (length-keys count bytes)

-- keys that come no sooner than the last
order-more : (n count : ℕ) (k : Key) (keys : List Key) (bytes : List ℕ) → is_after (k ∷ keys) count ≡ true → IsInOrder n (k ∷ keys) → IsInOrder n ((k ∷ keys) ++ keys_at count bytes)
order-more n count k [] bytes late order =
    let last : nat_le k.count count ≡ true = late in
    (order.0, from-count k.count count bytes (grind (arith, nat_tests)))
order-more n count k (next ∷ keys) bytes late order =
    let place : length (k ∷ next ∷ keys) - 1 ≡ suc (length (next ∷ keys) - 1) = omega arith in
    let rest : is_after (next ∷ keys) count ≡ true = sym (ap (λ i. option_map_or (λ (x : Key). nat_le x.count count) (slice_get (k ∷ next ∷ keys) i) true) place) ∙ late in
    (order.0, order-more k.count count next keys bytes rest order.1)

order-all : (count : ℕ) (keys : List Key) (bytes : List ℕ) → is_after keys count ≡ true → IsInOrder 0 keys → IsInOrder 0 (keys ++ keys_at count bytes)
order-all count [] bytes late order = from-count 0 count bytes (omega arith)
order-all count (k ∷ keys) bytes late order = order-more 0 count k keys bytes late order

good-keys : (keys : List Key) (count : ℕ) (bytes : List ℕ) → is_after keys count ≡ true → IsGood keys → IfOk (keys_added keys count bytes) IsGood
good-keys keys count [] late good = tt
good-keys keys count (b ∷ bytes) late good = by_test (nat_le (length keys + length (b ∷ bytes)) 4096) refl
  where
    by_test : (t : Bool) → nat_le (length keys + length (b ∷ bytes)) 4096 ≡ t → IfOk (if t then Ok (keys ++ keys_at count (b ∷ bytes)) else Err TooManyKeys) IsGood
    by_test false e = tt
    by_test true e =
        let room : length keys + length (b ∷ bytes) ≤ 4096 = grind (arith, nat_tests) in
        let more : length (keys ++ keys_at count (b ∷ bytes)) ≡ length keys + length (keys_at count (b ∷ bytes)) = length-append keys (keys_at count (b ∷ bytes)) in
        let same = length-keys count (b ∷ bytes) in
        (order-all count keys (b ∷ bytes) late good.0, omega arith)

good-text : (keys : List Key) (count : ℕ) (o : Option (List ℕ)) → is_after keys count ≡ true → IsGood keys → IfOk (or_fault NotAKey o (keys_added keys count)) IsGood
good-text keys count None late good = tt
good-text keys count (Some bytes) late good = good-keys keys count bytes late good

good-counted : (keys : List Key) (o : Option ℕ) (text : List ℕ) → IsGood keys → IfOk (or_fault NoCount o (λ count. if is_after keys count then keys_with_text keys count text else Err CountFalls)) IsGood
good-counted keys None text good = tt
good-counted keys (Some count) text good = by_test (is_after keys count) refl
  where
    by_test : (t : Bool) → is_after keys count ≡ t → IfOk (if t then keys_with_text keys count text else Err CountFalls) IsGood
    by_test true e = good-text keys count (keys_of text) e good
    by_test false e = tt

good-line : (keys : List Key) (line : List ℕ) → IsGood keys → IfOk (keys_with_line keys line) IsGood
good-line keys line good = by_test (is_skipped line)
  where
    by_test : (t : Bool) → IfOk (if t then Ok keys else keys_with_counted keys (before_first is_script_space line) (after_first is_script_space line)) IsGood
    by_test true = good
    by_test false = good-counted keys (count_of (before_first is_script_space line)) (after_first is_script_space line) good

good-numbered : (number : ℕ) (r : Result (List Key) LineFault) (next : List Key → Result (List Key) (ℕ × LineFault)) → ((more : List Key) → IsGood more → IfOk (next more) IsGood) → IfOk r IsGood → IfOk (at_line number r next) IsGood
good-numbered number (Ok more) next goes g = goes more g
good-numbered number (Err fault) next goes g = tt

good-from : (number : ℕ) (keys : List Key) (rest : List (List ℕ)) → IsGood keys → IfOk (script_from number keys rest) IsGood
good-from number keys [] good = good
good-from number keys (line ∷ rest) good =
    good-numbered number (keys_with_line keys line) (λ more. script_from (number + 1) more rest) (λ more g. good-from (number + 1) more rest g) (good-line keys line good)

pub script-order : ScriptsInOrder
script-order text = good-from 1 [] (lines text) (tt, omega arith)
