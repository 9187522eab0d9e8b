-- What the own script of a forked session says: from the fork on, and not too many keys.
use Rattle.std.proofs.Common.{◌≡◌, ◌≤◌, ◌+◌, ◌-◌, ℕ, Bool, true, false, List, [], ◌∷◌, ◌++◌, Option, Some, None, option_map, Result, Ok, Err, IfOk, map, length, arith, refl, sym, subst, append_assoc, if◌then◌else◌, nat_le}
use Rattle.std.specs.Prelude.{option_and_then}
use Rattle.std.specs.List.{after_first, before_first}
use Rattle.std.specs.Option.{option_zip}
use Rattle.std.specs.Str.Lines.{lines}
use Rattle.std.proofs.lemmas.Bool.Decides.{nat_tests}
use Rattle.cpm_script.specs.Cues.{Awaited, Counted, Pressed, CueText, cues, cues_from, is_expect, is_wait_word, cued_key_count, last_cue_count, key_cue, quoted}
use Rattle.cpm_script.specs.Cues as cue
use Rattle.cpm_script.specs.Fork.{cue_fault, line_cues, own_cues, room_left, word_cues}
use Rattle.cpm_script.specs.KeyText.{count_of, keys_of}
use Rattle.cpm_script.specs.Laws.{AreInOrder, AreOwn, CountsRise, ForkedCuesInOrder}
use Rattle.cpm_script.specs.Script.{is_skipped, is_script_space, most_keys, at_line, or_fault}
use Rattle.cpm_script.specs.declared.fault.LineFault.{LineFault}
use Rattle.cpm_script.specs.declared.fault.LineFault.TheVariants.{CountFalls, NoCount, NoText, NotAKey}
use Rattle.cpm_script.proofs.CueLaws.{as_many, by-keys, counts-append, counts-at, counts-none, cues-ordered}
use Rattle.cpm_script.proofs.CueLemmas.{keys_in-append}
use Rattle.cpm_script.proofs.ForkLemmas.{after_room, room-is}

-- the cues so far count from the fork on, and there is this much room behind them
record IsGood (at total space : ℕ) (cs : List CueText) : Type 0 where
  pub counts : CountsRise at cs
  pub room : cued_key_count cs + space ≤ total

last-low : (n count : ℕ) (cs : List CueText) → n ≤ count → last_cue_count 0 cs ≤ count → last_cue_count n cs ≤ count
last-low n count [] low last = low
last-low n count (Counted key ∷ cs) low last = last
last-low n count (Awaited text ∷ cs) low last = last-low n count cs low last
last-low n count (Pressed byte ∷ cs) low last = last-low n count cs low last

-- what the keys of a text leave, which stand for these
room-text : (at room left count : ℕ) (text : Option (List ℕ)) (bytes : List ℕ) → text ≡ Some bytes → room_left at room (option_zip (Some count) (option_map length text)) ≡ Ok left
    → (at ≤ count) × (left + length bytes ≡ room)
room-text at room left count text bytes is rooms =
    room-is at room left count (length bytes) (subst (λ t. room_left at room (option_zip (Some count) (option_map length t)) ≡ Ok left) is rooms)

good-counted : (at total room left count : ℕ) (cs all : List CueText) (text : List ℕ) → IsGood at total room cs → last_cue_count 0 cs ≤ count → cue.cues_with_text cs (Some count) text ≡ Ok all
    → room_left at room (option_zip (Some count) (option_map length (keys_of text))) ≡ Ok left → IsGood at total left all
good-counted at total room left count cs all text good late is rooms = by-keys (IsGood at total left) cs all (Some count) (keys_of text) is (λ bytes some fits.
    let here = room-text at room left count (keys_of text) bytes some rooms in
    record {
      counts = counts-append at cs (map (key_cue (Some count)) bytes) good.counts (counts-at (last_cue_count at cs) count bytes (last-low at count cs here.0 late));
      room = omega (arith, keys_in-append cs (map (key_cue (Some count)) bytes), as_many (Some count) bytes, here.1, good.room);
    })

good-awaited : (at total room left : ℕ) (cs all : List CueText) (shown : Option (List ℕ)) (text : List ℕ) → IsGood at total room cs
    → or_fault NotAKey shown (λ bytes. cue.cues_with_text (cs ++ Awaited bytes ∷ []) None text) ≡ Ok all
    → room_left at room (option_zip (Some at) (option_map length (keys_of text))) ≡ Ok left → IsGood at total left all
good-awaited at total room left cs all None text good is rooms = absurd (cc)
good-awaited at total room left cs all (Some shown) text good is rooms =
    by-keys (IsGood at total left) (cs ++ Awaited shown ∷ []) all None (keys_of text) is (λ bytes some fits.
    let here = room-text at room left at (keys_of text) bytes some rooms in
    subst (IsGood at total left) (sym (append_assoc cs (Awaited shown ∷ []) (map (key_cue None) bytes))) (record {
      counts = counts-append at cs (Awaited shown ∷ map (key_cue None) bytes) good.counts (counts-none (last_cue_count at cs) bytes);
      room = omega (arith, keys_in-append cs (Awaited shown ∷ map (key_cue None) bytes), as_many None bytes, here.1, good.room);
    }))

good-expected : (at total room left : ℕ) (cs all : List CueText) (parts : Option (List ℕ × List ℕ)) → IsGood at total room cs
    → or_fault NoText parts (λ p. cue.cues_with_awaited cs p.0 p.1) ≡ Ok all
    → room_left at room (option_zip (Some at) (option_and_then (λ p. option_map length (keys_of p.1)) parts)) ≡ Ok left → IsGood at total left all
good-expected at total room left cs all None good is rooms = absurd (cc)
good-expected at total room left cs all (Some p) good is rooms = good-awaited at total room left cs all (keys_of p.0) p.1 good is rooms

good-number : (at total room left : ℕ) (cs all : List CueText) (number : Option ℕ) (text : List ℕ) → IsGood at total room cs
    → or_fault NoCount number (λ count. if nat_le (last_cue_count 0 cs) count then cue.cues_with_text cs (Some count) text else Err CountFalls) ≡ Ok all
    → room_left at room (option_zip number (option_map length (keys_of text))) ≡ Ok left → IsGood at total left all
good-number at total room left cs all None text good is rooms = absurd (cc)
good-number at total room left cs all (Some count) text good is rooms = by_test (nat_le (last_cue_count 0 cs) count) refl is
  where
    by_test : (t : Bool) → nat_le (last_cue_count 0 cs) count ≡ t → (if t then cue.cues_with_text cs (Some count) text else Err CountFalls) ≡ Ok all → IsGood at total left all
    by_test true late e = good-counted at total room left count cs all text good (grind (arith, nat_tests, late)) e rooms
    by_test false late e = absurd (cc)

good-word : (at total room left : ℕ) (cs all : List CueText) (word text : List ℕ) → IsGood at total room cs → cue.cues_with_word cs word text ≡ Ok all
    → room_left at room (word_cues at word text) ≡ Ok left → IsGood at total left all
good-word at total room left cs all word text good is rooms = by_tests (is_wait_word word) (is_expect word) is rooms
  where
    by_tests : (t u : Bool) → (if t then cue.cues_with_awaited cs [] text else (if u then cue.cues_with_expected cs text else cue.cues_with_counted cs word text)) ≡ Ok all
        → room_left at room (if t then option_zip (Some at) (option_map length (keys_of text))
        else (if u then option_zip (Some at) (option_and_then (λ p. option_map length (keys_of p.1)) (quoted text))
        else option_zip (count_of word) (option_map length (keys_of text)))) ≡ Ok left → IsGood at total left all
    by_tests true u e f = good-awaited at total room left cs all (Some []) text good e f
    by_tests false true e f = good-expected at total room left cs all (quoted text) good e f
    by_tests false false e f = good-number at total room left cs all (count_of word) text good e f

good-line : (at total room left : ℕ) (cs all : List CueText) (line : List ℕ) → IsGood at total room cs → cue.cues_with_line cs line ≡ Ok all
    → room_left at room (line_cues at line) ≡ Ok left → IsGood at total left all
good-line at total room left cs all line good is rooms = by_test (is_skipped line) is rooms
  where
    by_test : (t : Bool) → (if t then Ok cs else cue.cues_with_word cs (before_first is_script_space line) (after_first is_script_space line)) ≡ Ok all
        → room_left at room (if t then None else word_cues at (before_first is_script_space line) (after_first is_script_space line)) ≡ Ok left → IsGood at total left all
    by_test true e f = let same : cs ≡ all = cc in let same_room : room ≡ left = cc in rw (sym same, sym same_room) good
    by_test false e f = good-word at total room left cs all (before_first is_script_space line) (after_first is_script_space line) good e f

after_line : (number : ℕ) (r : Result (List CueText) LineFault) (next : List CueText → Result (List CueText) (ℕ × LineFault)) (all : List CueText) (P : Type 0)
    → ((more : List CueText) → r ≡ Ok more → next more ≡ Ok all → P) → at_line number r next ≡ Ok all → P
after_line number (Ok more) next all P goes is = goes more refl is
after_line number (Err fault) next all P goes is = absurd (cc)

good-lines : (at total room number other : ℕ) (cs all : List CueText) (rest : List (List ℕ)) → IsGood at total room cs
    → cues_from number cs rest ≡ Ok all → cue_fault at room other rest ≡ None → IsGood at total 0 all
good-lines at total room number other cs all [] good is none =
    let same : cs ≡ all = cc in
    rw (sym same) (record { counts = good.counts; room = omega (arith, good.room) })
good-lines at total room number other cs all (line ∷ rest) good is none =
    after_line number (cue.cues_with_line cs line) (λ more. cues_from (number + 1) more rest) all (IsGood at total 0 all)
    (λ more got goes. after_room other (room_left at room (line_cues at line)) (λ left. cue_fault at left (other + 1) rest) (IsGood at total 0 all)
    (λ left rooms later. good-lines at total left (number + 1) (other + 1) more all rest (good-line at total room left cs more line good got rooms) goes later) none) is

pub own-ordered : ForkedCuesInOrder
own-ordered at before text fits = by_both (cue_fault at (most_keys - before) 1 (lines text)) (cues text) refl refl (cues-ordered text)
  where
    by_both : (f : Option (ℕ × LineFault)) (r : Result (List CueText) (ℕ × LineFault)) → cue_fault at (most_keys - before) 1 (lines text) ≡ f → cues text ≡ r → IfOk r AreInOrder
        → IfOk (own_cues f r) (AreOwn at before)
    by_both f (Err first) none is order = tt
    by_both (Some fault) (Ok own) none is order = tt
    by_both None (Ok own) none is order =
        let good = good-lines at (most_keys - before) (most_keys - before) 1 1 [] own (lines text) (record { counts = tt; room = omega arith }) is none in
        record { in_order = order; from_fork = good.counts; room = omega (arith, good.room, fits) }
