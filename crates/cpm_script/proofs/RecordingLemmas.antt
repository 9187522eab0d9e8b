-- A key written as a line of a script, and read back.
use Rattle.std.proofs.Common.{◌≡◌, ◌≢◌, ◌<◌, ◌≤◌, ◌+◌, ◌-◌, ◌%◌, ◌^◌, ℕ, Bool, true, false, List, [], ◌∷◌, ◌++◌, Some, Ok, length, get_or, take, drop, arith, refl, ap, ◌∙◌, sym, append_assoc, append-nil, length-append, decimal, slice_get, nat_le, nat_lt}
use Rattle.std.specs.Prelude.{◌==◌, if◌then◌else◌, IfSome, Option, None}
use Rattle.std.specs.Char.{is_ascii_digit}
use Rattle.std.specs.Int.{IsInRange}
use Rattle.std.specs.List.{All, after_first, before_first, list_all, position_or_len, slice_split}
use Rattle.std.specs.Option.{option_map_or}
use Rattle.std.specs.Str.Lines.{lines, lines_of_parts, strip_carriage_return}
use Rattle.std.specs.Str.Parse.{digits_value}
use Rattle.std.proofs.lemmas.Bool.Decides.{nat_tests}
use Rattle.std.proofs.lemmas.Fmt.{decimal_is_IsNumeral, decimal_nonempty}
use Rattle.std.proofs.lemmas.List.{drop_at, get_or_append_left, get_or_at, length_push, take_at}
use Rattle.std.proofs.lemmas.List.Elements.{All-append, All-cons, All-from_get_or, All-get_or, All-head, All-nil, All-weaker}
use Rattle.std.proofs.lemmas.List.Splits.{length-slice_split, slice_split_at}
use Rattle.std.proofs.lemmas.List.Sums.{list_all-from_AllPass, position_or_len_is}
use Rattle.std.proofs.lemmas.Str.Parse.{digit_at}
use Rattle.cpm_script.specs.KeyText.{caret, control_key, count_of, keys_of, onto, plain_key}
use Rattle.cpm_script.specs.Laws.{RecordedKeys, RecordingsGiveTheirKeysAgain}
use Rattle.cpm_script.specs.Recording.{AreTyped, key_line, key_text, recorded}
use Rattle.cpm_script.specs.Script.{is_after, is_skipped, is_script_space, most_keys, at_line, script_from_within, keys_added_within, keys_with_line_within}
use Rattle.cpm_script.specs.declared.script.Key.{Key}
use Rattle.cpm_script.proofs.KeyLemmas.{allowed}
use Rattle.cpm_script.proofs.LineLemmas.{line_before}

-- a byte that a line may have inside
abbrev IsSeen : ℕ → Type 0
IsSeen b = 0x20 ≤ b

abbrev IsDigit : ℕ → Type 0
IsDigit b = IsInRange 48 57 b

-- ---- a key

by_tests : (P : List ℕ → Type 0) (b : ℕ) (control_is caret_is delete_is : Bool) → nat_lt b 0x20 ≡ control_is → (b == caret) ≡ caret_is → (b == 0x7F) ≡ delete_is
    → (b < 0x20 → P (caret ∷ (b + 0x40) ∷ [])) → (b ≡ caret → P (caret ∷ 0x7E ∷ [])) → (b ≡ 0x7F → P (caret ∷ 0x3F ∷ []))
    → (0x20 ≤ b → b ≢ caret → b ≢ 0x7F → P (b ∷ []))
    → P (if control_is then caret ∷ (b + 0x40) ∷ [] else (if caret_is then caret ∷ 0x7E ∷ [] else (if delete_is then caret ∷ 0x3F ∷ [] else b ∷ [])))
by_tests P b true y z is1 is2 is3 control a_caret delete plain = control (grind (arith, nat_tests, is1))
by_tests P b false true z is1 is2 is3 control a_caret delete plain = a_caret (grind (arith, nat_tests, is2))
by_tests P b false false true is1 is2 is3 control a_caret delete plain = delete (grind (arith, nat_tests, is3))
by_tests P b false false false is1 is2 is3 control a_caret delete plain =
    plain (grind (arith, nat_tests, is1)) (grind (arith, nat_tests, is2)) (grind (arith, nat_tests, is3))

-- what is true of each way to write a key
by_key : (P : List ℕ → Type 0) (b : ℕ) → (b < 0x20 → P (caret ∷ (b + 0x40) ∷ [])) → (b ≡ caret → P (caret ∷ 0x7E ∷ []))
    → (b ≡ 0x7F → P (caret ∷ 0x3F ∷ [])) → (0x20 ≤ b → b ≢ caret → b ≢ 0x7F → P (b ∷ [])) → P (key_text b)
unfolding key_text
by_key P b control a_caret delete plain =
    by_tests P b (nat_lt b 0x20) (b == caret) (b == 0x7F) refl refl refl control a_caret delete plain

seen_one : (a : ℕ) → IsSeen a → All IsSeen (a ∷ [])
seen_one a first = All-cons IsSeen a [] first (All-nil IsSeen)

seen_two : (a b : ℕ) → IsSeen a → IsSeen b → All IsSeen (a ∷ b ∷ [])
seen_two a b first second = All-cons IsSeen a (b ∷ []) first (seen_one b second)

key-seen : (b : ℕ) → All IsSeen (key_text b)
key-seen b =
    by_key (All IsSeen) b (λ low. seen_two caret (b + 0x40) (omega arith) (omega arith)) (λ is. seen_two caret 0x7E (omega arith) (omega arith))
    (λ is. seen_two caret 0x3F (omega arith) (omega arith)) (λ high other last. seen_one b high)

control-is : (b : ℕ) → b < 0x20 → control_key (b + 0x40) ≡ Some b
control-is b low =
    let same : (b + 0x40) % 0x20 ≡ b = omega arith in
    grind (arith, nat_tests, same)

plain-is : (b : ℕ) → 0x20 ≤ b → b < 128 → b ≢ caret → b ≢ 0x7F → plain_key b ≡ Some b
plain-is b high ascii other last = grind (arith, nat_tests)

-- a key is read back
key-read : (b : ℕ) → b < 128 → keys_of (key_text b) ≡ Some (b ∷ [])
key-read b ascii =
    by_key (λ text. keys_of text ≡ Some (b ∷ [])) b
    (λ low. ap (λ k. onto k (Some [])) (control-is b low))
    (λ is. ap (λ (k : ℕ). Some (k ∷ [])) (sym is))
    (λ is. ap (λ (k : ℕ). Some (k ∷ [])) (sym is))
    (λ high other last. ap (λ k. onto k (Some [])) (plain-is b high ascii other last))

-- ---- a count

digits-decimal : (n : ℕ) → n < 2 ^ 64 → All IsDigit (decimal n)
digits-decimal n small = All-from_get_or IsDigit (decimal n) 0 (λ i within. digit_at (decimal n) i (decimal_is_IsNumeral n small).0.1 within)

is_digit-pass : (b : ℕ) → IsDigit b → is_ascii_digit b ≡ true
is_digit-pass b digit = grind (arith, nat_tests)

counted : (ds : List ℕ) (n : ℕ) → 0 < length ds → list_all is_ascii_digit ds ≡ true → digits_value 10 ds ≡ n → n < 2 ^ 64 → count_of ds ≡ Some n
counted ds n some digits value small =
    let there : nat_lt 0 (length ds) ≡ true = grind (arith, nat_tests) in
    let fits : nat_lt n (2 ^ 64) ≡ true = grind (arith, nat_tests) in
    rw (there, digits, value, fits) refl

-- a count is read back
count-read : (n : ℕ) → n < 2 ^ 64 → count_of (decimal n) ≡ Some n
count-read n small =
    let digits = All-weaker IsDigit (λ b. is_ascii_digit b ≡ true) is_digit-pass (decimal n) (digits-decimal n small) in
    counted (decimal n) n (decimal_nonempty n small) (list_all-from_AllPass is_ascii_digit (decimal n) digits) (decimal_is_IsNumeral n small).1 small

-- ---- a line, of digits before a space

digit-no_space : (b : ℕ) → IsDigit b → is_script_space b ≡ false
digit-no_space b digit = grind (arith, nat_tests)

space-place : (ds rest : List ℕ) → All IsDigit ds → position_or_len is_script_space (ds ++ 0x20 ∷ rest) ≡ length ds
space-place ds rest digits =
    position_or_len_is is_script_space (ds ++ 0x20 ∷ rest) (length ds) 0 (omega (arith, length-append ds (0x20 ∷ rest)))
    (λ k before. ap is_script_space (get_or_append_left ds (0x20 ∷ rest) 0 k before) ∙ digit-no_space _ (All-get_or IsDigit ds k 0 before digits))
    (λ within. ap is_script_space (get_or_at ds 0x20 rest 0 (length ds) refl))

line-number : (ds rest : List ℕ) → All IsDigit ds → before_first is_script_space (ds ++ 0x20 ∷ rest) ≡ ds
line-number ds rest digits =
    ap (λ i. take i (ds ++ 0x20 ∷ rest)) (space-place ds rest digits) ∙ take_at ds (0x20 ∷ rest) (length ds) refl

line-text : (ds rest : List ℕ) → All IsDigit ds → after_first is_script_space (ds ++ 0x20 ∷ rest) ≡ rest
line-text ds rest digits =
    ap (λ i. drop (i + 1) (ds ++ 0x20 ∷ rest)) (space-place ds rest digits)
    ∙ ap (drop (length ds + 1)) (sym (append_assoc ds (0x20 ∷ []) rest)) ∙ drop_at (ds ++ 0x20 ∷ []) rest (length ds + 1) (length_push ds 0x20)

digit-counts : (d : ℕ) (rest : List ℕ) → IsDigit d → is_skipped (d ∷ rest) ≡ false
digit-counts d rest digit =
    let no_space = digit-no_space d digit in
    let no_comment : (d == 0x23) ≡ false = grind (arith, nat_tests) in
    rw (no_space, no_comment) refl

line-counts : (ds rest : List ℕ) → 0 < length ds → All IsDigit ds → is_skipped (ds ++ rest) ≡ false
line-counts [] rest some digits = absurd (omega arith)
line-counts (d ∷ ds) rest some digits = digit-counts d (ds ++ rest) (All-head IsDigit d ds digits)

-- ---- the keys so far with one more

last-pushed : (keys : List Key) (k : Key) → slice_get (keys ++ k ∷ []) (length keys) ≡ Some k
last-pushed [] k = refl
last-pushed (x ∷ keys) k = last-pushed keys k

after-pushed : (keys : List Key) (k : Key) (count : ℕ) → k.count ≤ count → is_after (keys ++ k ∷ []) count ≡ true
after-pushed keys k count late =
    let place : length (keys ++ k ∷ []) - 1 ≡ length keys = omega (arith, length_push keys k) in
    ap (λ i. option_map_or (λ (x : Key). nat_le x.count count) (slice_get (keys ++ k ∷ []) i) true) place
    ∙ ap (λ o. option_map_or (λ (x : Key). nat_le x.count count) o true) (last-pushed keys k) ∙ grind (arith, nat_tests)

one_more : (limit : Option ℕ) (keys : List Key) (k : Key) → IfSome limit (λ most. length keys + 1 ≤ most) → keys_added_within limit keys k.count (k.byte ∷ []) ≡ Ok (keys ++ k ∷ [])
one_more limit keys k room = rw (allowed limit (length keys + 1) room) refl

counted_line : (limit : Option ℕ) (keys : List Key) (k : Key) (line number text : List ℕ) → is_skipped line ≡ false → before_first is_script_space line ≡ number
    → after_first is_script_space line ≡ text → count_of number ≡ Some k.count → is_after keys k.count ≡ true → keys_of text ≡ Some (k.byte ∷ [])
    → IfSome limit (λ most. length keys + 1 ≤ most) → keys_with_line_within limit keys line ≡ Ok (keys ++ k ∷ [])
counted_line limit keys k line number text counts number_is text_is count late key room =
    rw (counts, number_is, text_is, count, late, key) (one_more limit keys k room)

-- the line of a key without its end
abbrev key_front : Key → List ℕ
key_front k = decimal k.count ++ 0x20 ∷ key_text k.byte

line-read : (limit : Option ℕ) (keys : List Key) (k : Key) → k.count < 2 ^ 64 → k.byte < 128 → is_after keys k.count ≡ true → IfSome limit (λ most. length keys + 1 ≤ most)
    → keys_with_line_within limit keys (key_front k) ≡ Ok (keys ++ k ∷ [])
line-read limit keys k small ascii late room =
    let digits = digits-decimal k.count small in
    counted_line limit keys k (key_front k) (decimal k.count) (key_text k.byte)
    (line-counts (decimal k.count) (0x20 ∷ key_text k.byte) (decimal_nonempty k.count small) digits)
    (line-number (decimal k.count) (key_text k.byte) digits) (line-text (decimal k.count) (key_text k.byte) digits)
    (count-read k.count small) late (key-read k.byte ascii) room

-- ---- the lines of a script

no_return : (line : List ℕ) → All IsSeen line → strip_carriage_return line ≡ line
no_return [] seen = refl
no_return (b ∷ line) seen =
    let high : 0x20 ≤ get_or (b ∷ line) (length (b ∷ line) - 1) 0 = All-get_or IsSeen (b ∷ line) (length (b ∷ line) - 1) 0 (omega arith) seen in
    let other : (get_or (b ∷ line) (length (b ∷ line) - 1) 0 == 13) ≡ false = grind (arith, nat_tests) in
    rw other refl

no_newline : (b : ℕ) → IsSeen b → (b == 10) ≡ false
no_newline b seen = grind (arith, nat_tests)

line-ends : (line rest : List ℕ) → All IsSeen line → lines (line ++ 0x0A ∷ rest) ≡ line ∷ lines rest
line-ends line rest seen =
    let parts = slice_split (λ (b : ℕ). b == 10) rest in
    ap lines_of_parts (slice_split_at (λ (b : ℕ). b == 10) line 10 rest (All-weaker IsSeen (λ (b : ℕ). (b == 10) ≡ false) no_newline line seen) refl)
    ∙ line_before line parts (omega (arith, length-slice_split (λ (b : ℕ). b == 10) rest)) ∙ ap (λ l. l ∷ lines rest) (no_return line seen)

front-seen : (k : Key) → k.count < 2 ^ 64 → All IsSeen (key_front k)
front-seen k small =
    All-append IsSeen (decimal k.count) (0x20 ∷ key_text k.byte)
    (All-weaker IsDigit IsSeen (λ b digit. omega (arith, digit.0)) (decimal k.count) (digits-decimal k.count small))
    (All-cons IsSeen 0x20 (key_text k.byte) (omega arith) (key-seen k.byte))

line-joined : (k : Key) (rest : List ℕ) → key_line k ++ rest ≡ key_front k ++ 0x0A ∷ rest
unfolding key_line
line-joined k rest = append_assoc (key_front k) (0x0A ∷ []) rest

lines-recorded : (k : Key) (keys : List Key) → k.count < 2 ^ 64 → lines (recorded (k ∷ keys)) ≡ key_front k ∷ lines (recorded keys)
lines-recorded k keys small = ap lines (line-joined k (recorded keys)) ∙ line-ends (key_front k) (recorded keys) (front-seen k small)

-- ---- all keys

-- a smaller number is no more than the limit either
less : (limit : Option ℕ) (n m : ℕ) → IfSome limit (λ most. m ≤ most) → n ≤ m → IfSome limit (λ most. n ≤ most)
less None n m room low = tt
less (Some most) n m room low = omega (arith, room, low)

-- the keys of the lines, behind those so far
read-behind : (limit : Option ℕ) (number n : ℕ) (before keys : List Key) → ((count : ℕ) → n ≤ count → is_after before count ≡ true) → AreTyped n keys
    → IfSome limit (λ most. length before + length keys ≤ most) → script_from_within limit number before (lines (recorded keys)) ≡ Ok (before ++ keys)
read-behind limit number n before [] late typed room = ap Ok (sym (append-nil before))
read-behind limit number n before (k ∷ keys) late typed room =
    let more = before ++ k ∷ [] in
    let all = length before + length (k ∷ keys) in
    let first = line-read limit before k typed.1 typed.2 (late k.count typed.0) (less limit (length before + 1) all room (omega arith)) in
    let rest = read-behind limit (number + 1) k.count more keys (λ count low. after-pushed before k count low) typed.3
    (less limit (length more + length keys) all room (omega (arith, length_push before k))) in
    ap (script_from_within limit number before) (lines-recorded k keys typed.1)
    ∙ ap (λ r. at_line number r (λ ks. script_from_within limit (number + 1) ks (lines (recorded keys)))) first
    ∙ rest ∙ ap Ok (append_assoc before (k ∷ []) keys)

pub recorded-read : RecordedKeys
recorded-read keys typed room = read-behind (Some most_keys) 1 0 [] keys (λ count low. refl) typed (omega (arith, room))

pub recording-read : RecordingsGiveTheirKeysAgain
recording-read keys typed = read-behind None 1 0 [] keys (λ count low. refl) typed tt
