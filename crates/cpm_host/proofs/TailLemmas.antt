-- Words of a tail, one after another.
use Rattle.std.proofs.Common.{◌≡◌, ◌∙◌, ℕ, suc, ◌+◌, ◌<◌, ◌≤◌, true, cond, List, ◌∷◌, length, length-append, get_or, drop, map, sym, ap, arith, Bor}
use Rattle.std.proofs.lemmas.Bool.{and_parts, ltb-true}
use Rattle.std.proofs.lemmas.List.{at_drop_more, length-map}
use Rattle.std.specs.List.{list_all}
use Rattle.std.specs.Prelude.{Result, Err}
use Rattle.cpm_ccp.specs.Capitals.{capital}
use Rattle.cpm_host.specs.Tails.{fits_tail, is_typed, tail_from, tail_with_word}

-- a word that may stand there, and the rest
pub word_more : (tail : List ℕ) (words : List (Bor (List ℕ))) (i : ℕ) (d : Bor (List ℕ)) (more : List ℕ) (all : Result (List ℕ) (List ℕ)) → i < length words
    → fits_tail tail (get_or words i d).now ≡ true → more ≡ tail_with_word tail (get_or words i d).now
    → tail_from tail (map (λ w. w.now) (drop i words)) ≡ all → tail_from more (map (λ w. w.now) (drop (i + 1) words)) ≡ all
word_more tail words i d more all l h e before =
    let word = (get_or words i d).now in
    let rest = map (λ (w : Bor (List ℕ)). w.now) (drop (i + 1) words) in
    ap (λ (t : List ℕ). tail_from t rest) e
    ∙ sym (at_drop_more (λ (ws : List (Bor (List ℕ))). tail_from tail (map (λ w. w.now) ws)) words i d l
    ∙ ap (λ b. cond b (tail_from (tail_with_word tail word) rest) (Err word)) h) ∙ before

-- and it is short enough then
pub word_short : (tail word more : List ℕ) → fits_tail tail word ≡ true → more ≡ tail_with_word tail word → length more ≤ 126
unfolding fits_tail
word_short tail word more h e =
    let less : length tail + length word < 126 = ltb-true _ 126 (and_parts (list_all is_typed word) _ h).1 in
    let long : length more ≡ length tail + suc (length (map capital word)) = ap length e ∙ length-append tail (0x20 ∷ map capital word) in
    let same : length (map capital word) ≡ length word = length-map word capital in
    omega (arith, less, long, same)
