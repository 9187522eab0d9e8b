-- What a script says: the same as before where no line waits, and in order.
use Rattle.std.proofs.Common.{◌≡◌, ◌≢◌, ◌<◌, ◌≤◌, ◌+◌, ◌-◌, ℕ, zero, suc, Bool, true, false, List, [], ◌∷◌, ◌++◌, Option, Some, None, Result, Ok, Err, IfOk, map, length, arith, refl, ap, ◌∙◌, sym, subst, append_assoc, slice_get, nat_le}
use Rattle.std.specs.Prelude.{⊤, ◌==◌, codes, if◌then◌else◌}
use Rattle.std.specs.List.{after_first, before_first}
use Rattle.std.specs.Option.{option_map_or}
use Rattle.std.specs.Str.{bytes_eq}
use Rattle.std.specs.Str.Lines.{lines}
use Rattle.std.proofs.lemmas.Bool.{false≢true, false_from_ne_true}
use Rattle.std.proofs.lemmas.Bool.Decides.{nat_tests}
use Rattle.std.proofs.lemmas.List.{map-append}
use Rattle.std.proofs.lemmas.Slice.Eq.{bytes_eq-Decides}
use Rattle.cpm_script.specs.Cues.{Awaited, Counted, Pressed, CueText, cues_from, is_expect, is_wait_word, cued_key_count, last_cue_count, key_cue, quoted}
use Rattle.cpm_script.specs.Cues as cue
use Rattle.cpm_script.specs.KeyText.{caret, control_key, count_of, keys_of, onto, plain_key}
use Rattle.cpm_script.specs.Laws.{AreInOrder, CountsRise, CuesInOrder, KeysAreAscii, MeansTheSame, PlainScripts, PressesFollow}
use Rattle.cpm_script.specs.Script.{is_after, is_skipped, is_script_space, keys_at, most_keys, at_line, or_fault, script_from, keys_with_counted, keys_added, keys_with_line, keys_with_text}
use Rattle.cpm_script.specs.declared.fault.LineFault.{LineFault}
use Rattle.cpm_script.specs.declared.fault.LineFault.TheVariants.{CountFalls, NoCount, NoText, NotAKey, TooManyKeys}
use Rattle.cpm_script.specs.declared.script.Key.{Key}
use Rattle.cpm_script.proofs.CueLemmas.{ascii-append, counted-keys, keys_in-append}

-- ---- a line with a count means the same

-- what one line adds: the same keys, or the same fault unless a count is missing
abbrev SameLine : Result (List Key) LineFault → Result (List CueText) LineFault → Type 0
SameLine (Ok keys) read = read ≡ Ok (map Counted keys)
SameLine (Err fault) read = fault ≢ NoCount → read ≡ Err fault

counted-at : (count : ℕ) (bytes : List ℕ) → map Counted (keys_at count bytes) ≡ map (key_cue (Some count)) bytes
counted-at count [] = refl
counted-at count (b ∷ bytes) = ap (λ cs. key_cue (Some count) b ∷ cs) (counted-at count bytes)

there : (n m count : ℕ) (xs : List Key) (i : ℕ) → i < length xs
    → option_map_or (λ (x : Key). nat_le x.count count) (slice_get xs i) (nat_le n count)
    ≡ option_map_or (λ (x : Key). nat_le x.count count) (slice_get xs i) (nat_le m count)
there n m count [] i within = absurd (omega (arith, within))
there n m count (x ∷ xs) zero within = refl
there n m count (x ∷ xs) (suc i) within = there n m count xs i (omega (arith, within))

last-tested : (n count : ℕ) (keys : List Key) → option_map_or (λ (k : Key). nat_le k.count count) (slice_get keys (length keys - 1)) (nat_le n count) ≡ nat_le (last_cue_count n (map Counted keys)) count
last-tested n count [] = refl
last-tested n count (k ∷ []) = refl
last-tested n count (k ∷ next ∷ keys) =
    let place : length (k ∷ next ∷ keys) - 1 ≡ suc (length (next ∷ keys) - 1) = omega arith in
    ap (λ i. option_map_or (λ (x : Key). nat_le x.count count) (slice_get (k ∷ next ∷ keys) i) (nat_le n count)) place
    ∙ there n k.count count (next ∷ keys) (length (next ∷ keys) - 1) (omega arith) ∙ last-tested k.count count (next ∷ keys)

nat_le-zero : (count : ℕ) → nat_le 0 count ≡ true
nat_le-zero count = grind (arith, nat_tests)

after-same : (keys : List Key) (count : ℕ) → is_after keys count ≡ nat_le (last_cue_count 0 (map Counted keys)) count
after-same keys count = ap (option_map_or (λ (k : Key). nat_le k.count count) (slice_get keys (length keys - 1))) (sym (nat_le-zero count)) ∙ last-tested 0 count keys

same-keys : (keys : List Key) (count : ℕ) (bytes : List ℕ) → SameLine (keys_added keys count bytes) (cue.cues_with_keys (map Counted keys) (Some count) bytes)
same-keys keys count [] = λ other. refl
same-keys keys count (b ∷ bytes) = by_test (nat_le (length keys + length (b ∷ bytes)) most_keys)
    (nat_le (cued_key_count (map Counted keys) + length (b ∷ bytes)) most_keys) (ap (λ n. nat_le (n + length (b ∷ bytes)) most_keys) (counted-keys keys))
  where
    by_test : (t u : Bool) → u ≡ t
        → SameLine (if t then Ok (keys ++ keys_at count (b ∷ bytes)) else Err TooManyKeys)
        (if u then Ok (map Counted keys ++ map (key_cue (Some count)) (b ∷ bytes)) else Err TooManyKeys)
    by_test true true e = ap Ok (ap (λ cs. map Counted keys ++ cs) (sym (counted-at count (b ∷ bytes))) ∙ sym (map-append Counted keys (keys_at count (b ∷ bytes))))
    by_test false false e = λ other. refl
    by_test true false e = absurd (false≢true e)
    by_test false true e = absurd (false≢true (sym e))

same-text : (keys : List Key) (count : ℕ) (text : Option (List ℕ))
    → SameLine (or_fault NotAKey text (keys_added keys count)) (or_fault NotAKey text (cue.cues_with_keys (map Counted keys) (Some count)))
same-text keys count None = λ other. refl
same-text keys count (Some bytes) = same-keys keys count bytes

same-counted : (keys : List Key) (number : Option ℕ) (text : List ℕ)
    → SameLine (or_fault NoCount number (λ count. if is_after keys count then keys_with_text keys count text else Err CountFalls))
    (or_fault NoCount number (λ count. if nat_le (last_cue_count 0 (map Counted keys)) count then cue.cues_with_text (map Counted keys) (Some count) text else Err CountFalls))
same-counted keys None text = λ other. refl
same-counted keys (Some count) text = by_test (is_after keys count) (nat_le (last_cue_count 0 (map Counted keys)) count) (after-same keys count)
  where
    by_test : (t u : Bool) → t ≡ u
        → SameLine (if t then keys_with_text keys count text else Err CountFalls) (if u then cue.cues_with_text (map Counted keys) (Some count) text else Err CountFalls)
    by_test true true e = same-text keys count (keys_of text)
    by_test false false e = λ other. refl
    by_test true false e = absurd (false≢true (sym e))
    by_test false true e = absurd (false≢true e)

-- a word that is a count is no other word
other-word : (word name : List ℕ) (n : ℕ) → count_of word ≡ Some n → count_of name ≡ None → bytes_eq word name ≡ false
other-word word name n is none = false_from_ne_true _ (λ same.
    let equal : word ≡ name = (bytes_eq-Decides word name).0 same in
    let both : Some n ≡ None = sym is ∙ ap count_of equal ∙ none in
    absurd (cc))

same-word : (keys : List Key) (word text : List ℕ) → SameLine (keys_with_counted keys word text) (cue.cues_with_word (map Counted keys) word text)
same-word keys word text = by_count (count_of word) refl
  where
    by_count : (o : Option ℕ) → count_of word ≡ o
        → SameLine (or_fault NoCount o (λ count. if is_after keys count then keys_with_text keys count text else Err CountFalls)) (cue.cues_with_word (map Counted keys) word text)
    by_count None is = λ other. absurd (other refl)
    by_count (Some n) is =
        let counted = subst (λ o. SameLine (or_fault NoCount (Some n) (λ count. if is_after keys count then keys_with_text keys count text else Err CountFalls))
        (or_fault NoCount o (λ count. if nat_le (last_cue_count 0 (map Counted keys)) count then cue.cues_with_text (map Counted keys) (Some count) text else Err CountFalls)))
        (sym is) (same-counted keys (Some n) text) in
        rw (other-word word (codes "wait") n is refl, other-word word (codes "expect") n is refl) counted

same-line : (keys : List Key) (line : List ℕ) → SameLine (keys_with_line keys line) (cue.cues_with_line (map Counted keys) line)
same-line keys line = by_test (is_skipped line)
  where
    by_test : (t : Bool) → SameLine (if t then Ok keys else keys_with_counted keys (before_first is_script_space line) (after_first is_script_space line))
        (if t then Ok (map Counted keys) else cue.cues_with_word (map Counted keys) (before_first is_script_space line) (after_first is_script_space line))
    by_test true = refl
    by_test false = same-word keys (before_first is_script_space line) (after_first is_script_space line)

after-same-line : (number : ℕ) (rest : List (List ℕ)) (r : Result (List Key) LineFault) (read : Result (List CueText) LineFault) → SameLine r read
    → ((more : List Key) → MeansTheSame (script_from (number + 1) more rest) (cues_from (number + 1) (map Counted more) rest))
    → MeansTheSame (at_line number r (λ more. script_from (number + 1) more rest)) (at_line number read (λ more. cues_from (number + 1) more rest))
after-same-line number rest (Ok more) read is goes =
    subst (λ r. MeansTheSame (script_from (number + 1) more rest) (at_line number r (λ cs. cues_from (number + 1) cs rest))) (sym is) (goes more)
after-same-line number rest (Err fault) read is goes = λ other. ap (λ r. at_line number r (λ cs. cues_from (number + 1) cs rest)) (is other)

same-lines : (number : ℕ) (keys : List Key) (rest : List (List ℕ)) → MeansTheSame (script_from number keys rest) (cues_from number (map Counted keys) rest)
same-lines number keys [] = refl
same-lines number keys (line ∷ rest) =
    after-same-line number rest (keys_with_line keys line) (cue.cues_with_line (map Counted keys) line) (same-line keys line) (λ more. same-lines (number + 1) more rest)

pub plain-same : PlainScripts
plain-same text = same-lines 1 [] (lines text)

-- ---- keys are below 80h

abbrev pub AreAscii : List ℕ → Type 0
AreAscii [] = ⊤
AreAscii (b ∷ bytes) = (b < 128) × AreAscii bytes

ascii-onto : (k : Option ℕ) (keys : Option (List ℕ)) (all : List ℕ) → onto k keys ≡ Some all → ((b : ℕ) → k ≡ Some b → b < 128)
    → ((bytes : List ℕ) → keys ≡ Some bytes → AreAscii bytes) → AreAscii all
ascii-onto None keys all is one rest = absurd (cc)
ascii-onto (Some b) None all is one rest = absurd (cc)
ascii-onto (Some b) (Some bytes) all is one rest = let same : b ∷ bytes ≡ all = cc in subst AreAscii same (one b refl, rest bytes refl)

ascii-plain : (b k : ℕ) → plain_key b ≡ Some k → k < 128
ascii-plain b k is = grind (arith, nat_tests, is)

ascii-control : (c k : ℕ) → control_key c ≡ Some k → k < 128
ascii-control c k is = grind (arith, nat_tests, is)

ascii-caret : (t : Bool) (b c : ℕ) (rest all : List ℕ) → ((bytes : List ℕ) → keys_of rest ≡ Some bytes → AreAscii bytes)
    → ((bytes : List ℕ) → keys_of (c ∷ rest) ≡ Some bytes → AreAscii bytes)
    → (if t then onto (control_key c) (keys_of rest) else onto (plain_key b) (keys_of (c ∷ rest))) ≡ Some all → AreAscii all
ascii-caret true b c rest all one two e = ascii-onto (control_key c) (keys_of rest) all e (λ k. ascii-control c k) one
ascii-caret false b c rest all one two e = ascii-onto (plain_key b) (keys_of (c ∷ rest)) all e (λ k. ascii-plain b k) two

no-keys : (all : List ℕ) → Some [] ≡ Some all → AreAscii all
no-keys all is = let same : [] ≡ all = cc in subst AreAscii same tt

pub ascii-keys : (text all : List ℕ) → keys_of text ≡ Some all → AreAscii all
ascii-keys [] all is = no-keys all is
ascii-keys (b ∷ []) all is = ascii-onto (plain_key b) (Some []) all is (λ k. ascii-plain b k) no-keys
ascii-keys (b ∷ c ∷ rest) all is = ascii-caret (b == caret) b c rest all (λ bytes. ascii-keys rest bytes) (λ bytes. ascii-keys (c ∷ rest) bytes) is

-- ---- what follows what is in order

pub counts-append : (n : ℕ) (a b : List CueText) → CountsRise n a → CountsRise (last_cue_count n a) b → CountsRise n (a ++ b)
counts-append n [] b first later = later
counts-append n (Counted key ∷ a) b first later = (first.0, counts-append key.count a b first.1 later)
counts-append n (Awaited text ∷ a) b first later = counts-append n a b first later
counts-append n (Pressed byte ∷ a) b first later = counts-append n a b first later

presses-append : (waited : Bool) (a b : List CueText) → PressesFollow waited a → ((t : Bool) → PressesFollow t b) → PressesFollow waited (a ++ b)
presses-append waited [] b first later = later waited
presses-append waited (Counted key ∷ a) b first later = presses-append false a b first later
presses-append waited (Awaited text ∷ a) b first later = presses-append true a b first later
presses-append waited (Pressed byte ∷ a) b first later = (first.0, presses-append true a b first.1 later)

-- cues that may follow others whose last count is this one
record MayFollow (n : ℕ) (b : List CueText) : Type 0 where
  pub counts : CountsRise n b
  pub ascii : KeysAreAscii b
  pub presses : (t : Bool) → PressesFollow t b

follows : (a b : List CueText) → AreInOrder a → MayFollow (last_cue_count 0 a) b → cued_key_count a + cued_key_count b ≤ most_keys → AreInOrder (a ++ b)
follows a b good later room = record {
  few = omega (arith, keys_in-append a b, room);
  counts = counts-append 0 a b good.counts later.counts;
  ascii = ascii-append a b good.ascii later.ascii;
  presses = presses-append false a b good.presses later.presses;
}

-- ---- the keys of a line

pub as_many : (at : Option ℕ) (bytes : List ℕ) → cued_key_count (map (key_cue at) bytes) ≡ length bytes
as_many at [] = refl
as_many None (b ∷ bytes) = omega (arith, as_many None bytes)
as_many (Some count) (b ∷ bytes) = omega (arith, as_many (Some count) bytes)

pub counts-at : (n count : ℕ) (bytes : List ℕ) → n ≤ count → CountsRise n (map (key_cue (Some count)) bytes)
counts-at n count [] low = tt
counts-at n count (b ∷ bytes) low = (low, counts-at count count bytes (omega arith))

presses-at : (count : ℕ) (t : Bool) (bytes : List ℕ) → PressesFollow t (map (key_cue (Some count)) bytes)
presses-at count t [] = tt
presses-at count t (b ∷ bytes) = presses-at count false bytes

pub counts-none : (n : ℕ) (bytes : List ℕ) → CountsRise n (map (key_cue None) bytes)
counts-none n [] = tt
counts-none n (b ∷ bytes) = counts-none n bytes

presses-none : (bytes : List ℕ) → PressesFollow true (map (key_cue None) bytes)
presses-none [] = tt
presses-none (b ∷ bytes) = (refl, presses-none bytes)

ascii-said : (at : Option ℕ) (bytes : List ℕ) → AreAscii bytes → KeysAreAscii (map (key_cue at) bytes)
ascii-said at [] all = tt
ascii-said None (b ∷ bytes) all = (all.0, ascii-said None bytes all.1)
ascii-said (Some count) (b ∷ bytes) all = (all.0, ascii-said (Some count) bytes all.1)

-- what is true of cues with keys of a text behind them, whatever keys they are
pub by-keys : (P : List CueText → Type 0) (cs all : List CueText) (at : Option ℕ) (keys : Option (List ℕ)) → or_fault NotAKey keys (cue.cues_with_keys cs at) ≡ Ok all
    → ((bytes : List ℕ) → keys ≡ Some bytes → cued_key_count cs + length bytes ≤ most_keys → P (cs ++ map (key_cue at) bytes)) → P all
by-keys P cs all at None is each = absurd (cc)
by-keys P cs all at (Some []) is each = absurd (cc)
by-keys P cs all at (Some (b ∷ bytes)) is each = by_test (nat_le (cued_key_count cs + length (b ∷ bytes)) most_keys) refl is
  where
    by_test : (t : Bool) → nat_le (cued_key_count cs + length (b ∷ bytes)) most_keys ≡ t
        → (if t then Ok (cs ++ map (key_cue at) (b ∷ bytes)) else Err TooManyKeys) ≡ Ok all → P all
    by_test true fit e =
        let same : cs ++ map (key_cue at) (b ∷ bytes) ≡ all = cc in
        subst P same (each (b ∷ bytes) refl (grind (arith, nat_tests, fit)))
    by_test false fit e = absurd (cc)

order-counted : (cs all : List CueText) (count : ℕ) (text : List ℕ) → AreInOrder cs → last_cue_count 0 cs ≤ count → cue.cues_with_text cs (Some count) text ≡ Ok all → AreInOrder all
order-counted cs all count text good late is = by-keys AreInOrder cs all (Some count) (keys_of text) is (λ bytes some room.
    follows cs (map (key_cue (Some count)) bytes) good (record {
      counts = counts-at (last_cue_count 0 cs) count bytes late;
      ascii = ascii-said (Some count) bytes (ascii-keys text bytes some);
      presses = λ t. presses-at count t bytes;
    }) (omega (arith, as_many (Some count) bytes, room)))

order-awaited : (cs all : List CueText) (shown : Option (List ℕ)) (text : List ℕ) → AreInOrder cs
    → or_fault NotAKey shown (λ bytes. cue.cues_with_text (cs ++ Awaited bytes ∷ []) None text) ≡ Ok all → AreInOrder all
order-awaited cs all None text good is = absurd (cc)
order-awaited cs all (Some shown) text good is = by-keys AreInOrder (cs ++ Awaited shown ∷ []) all None (keys_of text) is (λ bytes some room.
    subst AreInOrder (sym (append_assoc cs (Awaited shown ∷ []) (map (key_cue None) bytes)))
    (follows cs (Awaited shown ∷ map (key_cue None) bytes) good (record {
      counts = counts-none (last_cue_count 0 cs) bytes;
      ascii = ascii-said None bytes (ascii-keys text bytes some);
      presses = λ t. presses-none bytes;
    }) (omega (arith, as_many None bytes, keys_in-append cs (Awaited shown ∷ []), room))))

order-expected : (cs all : List CueText) (parts : Option (List ℕ × List ℕ)) → AreInOrder cs → or_fault NoText parts (λ p. cue.cues_with_awaited cs p.0 p.1) ≡ Ok all → AreInOrder all
order-expected cs all None good is = absurd (cc)
order-expected cs all (Some p) good is = order-awaited cs all (keys_of p.0) p.1 good is

order-number : (cs all : List CueText) (number : Option ℕ) (text : List ℕ) → AreInOrder cs
    → or_fault NoCount number (λ count. if nat_le (last_cue_count 0 cs) count then cue.cues_with_text cs (Some count) text else Err CountFalls) ≡ Ok all → AreInOrder all
order-number cs all None text good is = absurd (cc)
order-number cs all (Some count) text good is = by_test (nat_le (last_cue_count 0 cs) count) refl is
  where
    by_test : (t : Bool) → nat_le (last_cue_count 0 cs) count ≡ t → (if t then cue.cues_with_text cs (Some count) text else Err CountFalls) ≡ Ok all → AreInOrder all
    by_test true late e = order-counted cs all count text good (grind (arith, nat_tests, late)) e
    by_test false late e = absurd (cc)

order-word : (cs all : List CueText) (word text : List ℕ) → AreInOrder cs → cue.cues_with_word cs word text ≡ Ok all → AreInOrder all
order-word cs all word text good is = by_tests (is_wait_word word) (is_expect word) is
  where
    by_tests : (t u : Bool) → (if t then cue.cues_with_awaited cs [] text else (if u then cue.cues_with_expected cs text else cue.cues_with_counted cs word text)) ≡ Ok all → AreInOrder all
    by_tests true u e = order-awaited cs all (Some []) text good e
    by_tests false true e = order-expected cs all (quoted text) good e
    by_tests false false e = order-number cs all (count_of word) text good e

order-line : (cs all : List CueText) (line : List ℕ) → AreInOrder cs → cue.cues_with_line cs line ≡ Ok all → AreInOrder all
order-line cs all line good is = by_test (is_skipped line) is
  where
    by_test : (t : Bool) → (if t then Ok cs else cue.cues_with_word cs (before_first is_script_space line) (after_first is_script_space line)) ≡ Ok all → AreInOrder all
    by_test true e = let same : cs ≡ all = cc in subst AreInOrder same good
    by_test false e = order-word cs all (before_first is_script_space line) (after_first is_script_space line) good e

order-after : (number : ℕ) (rest : List (List ℕ)) (r : Result (List CueText) LineFault) → ((more : List CueText) → r ≡ Ok more → IfOk (cues_from (number + 1) more rest) AreInOrder)
    → IfOk (at_line number r (λ more. cues_from (number + 1) more rest)) AreInOrder
order-after number rest (Ok more) goes = goes more refl
order-after number rest (Err fault) goes = tt

order-lines : (number : ℕ) (cs : List CueText) (rest : List (List ℕ)) → AreInOrder cs → IfOk (cues_from number cs rest) AreInOrder
order-lines number cs [] good = good
order-lines number cs (line ∷ rest) good =
    order-after number rest (cue.cues_with_line cs line) (λ more is. order-lines (number + 1) more rest (order-line cs more line good is))

pub cues-ordered : CuesInOrder
cues-ordered text = order-lines 1 [] (lines text) (record { few = omega arith; counts = tt; ascii = tt; presses = tt })
