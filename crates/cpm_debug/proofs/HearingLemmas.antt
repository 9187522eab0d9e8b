-- Lines of a text, one after another.
use Rattle.std.proofs.Common.{◌≡◌, ◌∙◌, ◌<◌, ◌≤◌, ◌+◌, ◌-◌, ap, sym, refl, ℕ, zero, suc, nat_le, Bool, true, false, List, [], ◌∷◌, Option, Some, None, IfSome, length, map, take, arith, ⊎_elim}
use Rattle.std.proofs.Math.Seq.{take-nil}
use Rattle.std.proofs.lemmas.Bool.{cases_lt}
use Rattle.std.proofs.lemmas.List.{length-take-le, take_all}
use Rattle.std.specs.Prelude.{◌==◌, if◌then◌else◌}
use Rattle.std.specs.Io.BufRead.{take_through, drop_through, DropsThrough}
use Rattle.std.specs.Io.KnownBytes.{IsAtEnd}
use Rattle.std.proofs.lemmas.Bool.Decides.{nat_tests}
use Rattle.cpm_debug.specs.Hearing.{Hears, heard, ended_lines, ending_within, lines_within, onto_first, without_end}

by_case : (ends : Bool) (b : ℕ) (bs : List ℕ) → onto_first b (ended_lines bs) ≡ (b ∷ take_through 10 bs) ∷ ended_lines (drop_through 10 bs)
    → (if ends then (b ∷ []) ∷ ended_lines bs else onto_first b (ended_lines bs))
    ≡ (if ends then b ∷ [] else b ∷ take_through 10 bs) ∷ ended_lines (if ends then bs else drop_through 10 bs)
by_case true b bs e = refl
by_case false b bs e = e

onto : (b : ℕ) (bs : List ℕ) → onto_first b (ended_lines bs) ≡ (b ∷ take_through 10 bs) ∷ ended_lines (drop_through 10 bs)
onto b [] = refl
onto b (x ∷ xs) = ap (onto_first b) (by_case (x == 10) x xs (onto x xs))

-- the first line, and those of what follows it
pub ended_first : (b : ℕ) (bs : List ℕ) → ended_lines (b ∷ bs) ≡ take_through 10 (b ∷ bs) ∷ ended_lines (drop_through 10 (b ∷ bs))
ended_first b bs = by_case (b == 10) b bs (onto b bs)

fits : (n room : ℕ) → n ≤ room → nat_le n room ≡ true
fits n room h = grind (arith, nat_tests)

too_long : (n room : ℕ) → room < n → nat_le n room ≡ false
too_long n room h = grind (arith, nat_tests)

-- where it ends within the bytes, and where it doesn't
part_fits : (room : ℕ) (part : List ℕ) (parts : List (List ℕ)) → length part ≤ room
    → map without_end (ending_within room (part ∷ parts)) ≡ without_end part ∷ map without_end (ending_within (room - length part) parts)
part_fits room part parts h =
    ap (λ t. map without_end (if t then part ∷ ending_within (room - length part) parts else [])) (fits (length part) room h)

part_cut : (room : ℕ) (part : List ℕ) (parts : List (List ℕ)) → room < length part → map without_end (ending_within room (part ∷ parts)) ≡ []
part_cut room part parts h =
    ap (λ t. map without_end (if t then part ∷ ending_within (room - length part) parts else [])) (too_long (length part) room h)

pub line_heard : (room : ℕ) (text : List ℕ) → 0 < length (take_through 10 text) → length (take_through 10 text) ≤ room
    → lines_within room text ≡ without_end (take_through 10 text) ∷ lines_within (room - length (take_through 10 text)) (drop_through 10 text)
line_heard room [] some h = absurd (omega arith)
line_heard room (b ∷ bs) some h =
    ap (λ parts. map without_end (ending_within room parts)) (ended_first b bs)
    ∙ part_fits room (take_through 10 (b ∷ bs)) (ended_lines (drop_through 10 (b ∷ bs))) h

pub line_cut : (room : ℕ) (text : List ℕ) → room < length (take_through 10 text) → lines_within room text ≡ []
line_cut room [] h = refl
line_cut room (b ∷ bs) h =
    ap (λ parts. map without_end (ending_within room parts)) (ended_first b bs)
    ∙ part_cut room (take_through 10 (b ∷ bs)) (ended_lines (drop_through 10 (b ∷ bs))) h

-- ---- what is known of a reader

pub hears_line : (room count left : ℕ) (old new : Option (List ℕ)) (line : List ℕ) → IfSome old (λ xs. line ≡ take_through 10 xs) → DropsThrough old new 10
    → length line ≡ count → 0 < count → count ≤ room → left ≡ room - count → Hears room left old new (Some (without_end line))
hears_line room count left None new line read rest size some within is = tt
hears_line room count left (Some xs) None line read rest size some within is = absurd (cc)
hears_line room count left (Some xs) (Some ys) line read rest size some within is =
    let long : length (take_through 10 xs) ≡ count = ap length (sym read) ∙ size in
    let last : ys ≡ drop_through 10 xs = cc in
    let less : room - length (take_through 10 xs) ≡ left = omega (arith, long, is) in
    line_heard room xs (omega (arith, long)) (omega (arith, long))
    ∙ ap (λ n. without_end (take_through 10 xs) ∷ lines_within n (drop_through 10 xs)) less
    ∙ ap (λ l. without_end l ∷ lines_within left (drop_through 10 xs)) (sym read)
    ∙ ap (λ r. without_end line ∷ lines_within left r) (sym last)

pub hears_end : (room left : ℕ) (old new : Option (List ℕ)) → IsAtEnd old → Hears room left old new None
hears_end room left None new end = tt
hears_end room left (Some xs) new end = ap (lines_within room) end

pub hears_cut : (room left count : ℕ) (old new : Option (List ℕ)) (line : List ℕ) → IfSome old (λ xs. line ≡ take_through 10 xs) → length line ≡ count → room < count
    → Hears room left old new None
hears_cut room left count None new line read size over = tt
hears_cut room left count (Some xs) new line read size over =
    let long : length (take_through 10 xs) ≡ count = ap length (sym read) ∙ size in line_cut room xs (omega (arith, long))

-- ---- a text of which no more is read than a byte behind the last that counts

front_step : (ends : Bool) (b : ℕ) (cut whole : List ℕ) (n : ℕ) → cut ≡ take n whole → (if ends then b ∷ [] else b ∷ cut) ≡ take (suc n) (if ends then b ∷ [] else b ∷ whole)
front_step true b cut whole n e = ap (λ bs. b ∷ bs) (sym (take-nil n))
front_step false b cut whole n e = ap (λ bs. b ∷ bs) e

rest_step : (ends : Bool) (b : ℕ) (front bs cut line rest : List ℕ) (n : ℕ) → front ≡ take n bs → cut ≡ take (n - length line) rest
    → (if ends then front else cut) ≡ take (suc n - length (if ends then b ∷ [] else b ∷ line)) (if ends then bs else rest)
rest_step true b front bs cut line rest n is e = is ∙ ap (λ k. take k bs) (let same : n ≡ suc n - length (b ∷ []) = omega arith in same)
rest_step false b front bs cut line rest n is e = e ∙ ap (λ k. take k rest) (let same : n - length line ≡ suc n - length (b ∷ line) = omega arith in same)

through_front : (n : ℕ) (text : List ℕ) → take_through 10 (take n text) ≡ take n (take_through 10 text)
through_front zero text = refl
through_front (suc n) [] = refl
through_front (suc n) (b ∷ bs) = front_step (b == 10) b (take_through 10 (take n bs)) (take_through 10 bs) n (through_front n bs)

through_rest : (n : ℕ) (text : List ℕ) → drop_through 10 (take n text) ≡ take (n - length (take_through 10 text)) (drop_through 10 text)
through_rest zero text = ap (λ k. take k (drop_through 10 text)) (let none : 0 ≡ 0 - length (take_through 10 text) = omega arith in none)
through_rest (suc n) [] = sym (take-nil (suc n - 0))
through_rest (suc n) (b ∷ bs) = rest_step (b == 10) b (take n bs) bs (drop_through 10 (take n bs)) (take_through 10 bs) (drop_through 10 bs) n refl (through_rest n bs)

some_step : (ends : Bool) (b : ℕ) (line : List ℕ) → 0 < length (if ends then b ∷ [] else b ∷ line)
some_step true b line = omega arith
some_step false b line = omega arith

some_through : (b : ℕ) (bs : List ℕ) → 0 < length (take_through 10 (b ∷ bs))
some_through b bs = some_step (b == 10) b (take_through 10 bs)

shorter_step : (ends : Bool) (bs rest : List ℕ) → length rest ≤ length bs → length (if ends then bs else rest) ≤ length bs
shorter_step true bs rest h = omega arith
shorter_step false bs rest h = h

rest_at_most : (text : List ℕ) → length (drop_through 10 text) ≤ length text
rest_at_most [] = omega arith
rest_at_most (b ∷ bs) = let h = shorter_step (b == 10) bs (drop_through 10 bs) (rest_at_most bs) in omega (arith, h)

rest_shorter : (b : ℕ) (bs : List ℕ) → length (drop_through 10 (b ∷ bs)) ≤ length bs
rest_shorter b bs = shorter_step (b == 10) bs (drop_through 10 bs) (rest_at_most bs)

-- the first line ends behind the bytes that count
bounded_cut : (room : ℕ) (text : List ℕ) → room < length (take_through 10 text) → lines_within room (take (room + 1) text) ≡ lines_within room text
bounded_cut room text over =
    let front = through_front (room + 1) text in
    let long : length (take_through 10 (take (room + 1) text)) ≡ room + 1 = ap length front ∙ length-take-le (room + 1) (take_through 10 text) (omega arith) in
    line_cut room (take (room + 1) text) (omega (arith, long)) ∙ sym (line_cut room text over)

-- the first line ends within them
bounded_step : (room : ℕ) (text : List ℕ) → 0 < length (take_through 10 text) → length (take_through 10 text) ≤ room
    → lines_within (room - length (take_through 10 text)) (take (room - length (take_through 10 text) + 1) (drop_through 10 text))
    ≡ lines_within (room - length (take_through 10 text)) (drop_through 10 text)
    → lines_within room (take (room + 1) text) ≡ lines_within room text
bounded_step room text some within rest =
    let line = take_through 10 text in
    let n = length line in
    let same : take_through 10 (take (room + 1) text) ≡ line = through_front (room + 1) text ∙ take_all (room + 1) line (omega arith) in
    let left : room + 1 - n ≡ room - n + 1 = omega arith in
    let behind : drop_through 10 (take (room + 1) text) ≡ take (room - n + 1) (drop_through 10 text) = through_rest (room + 1) text ∙ ap (λ k. take k (drop_through 10 text)) left in
    let long : length (take_through 10 (take (room + 1) text)) ≡ n = ap length same in
    line_heard room (take (room + 1) text) (omega (arith, long, some)) (omega (arith, long, within))
    ∙ ap (λ l. without_end l ∷ lines_within (room - length l) (drop_through 10 (take (room + 1) text))) same
    ∙ ap (λ r. without_end line ∷ lines_within (room - n) r) behind
    ∙ ap (λ ls. without_end line ∷ ls) rest
    ∙ sym (line_heard room text some within)

bounded : (fuel room : ℕ) (text : List ℕ) → length text ≤ fuel → lines_within room (take (room + 1) text) ≡ lines_within room text
bounded zero room [] h = ap (lines_within room) (take-nil (room + 1))
bounded zero room (b ∷ bs) h = absurd (omega arith)
bounded (suc fuel) room [] h = ap (lines_within room) (take-nil (room + 1))
bounded (suc fuel) room (b ∷ bs) h = ⊎_elim
    (λ (over : room < length (take_through 10 (b ∷ bs))). bounded_cut room (b ∷ bs) over)
    (λ (within : length (take_through 10 (b ∷ bs)) ≤ room).
    bounded_step room (b ∷ bs) (some_through b bs) within
    (bounded fuel (room - length (take_through 10 (b ∷ bs))) (drop_through 10 (b ∷ bs)) (let less = rest_shorter b bs in omega (arith, less, h))))
    (cases_lt room (length (take_through 10 (b ∷ bs))))

pub heard_bounded : (text : List ℕ) → heard (take 16777217 text) ≡ heard text
heard_bounded text = ap (take 1000000) (bounded (length text) 16777216 text (omega arith))
