-- What a line asks for, by its length and its second word.
use Rattle.std.proofs.Common.{◌≡◌, ◌∙◌, ◌-◌, ◌<◌, ◌≤◌, ℕ, Bool, true, false, List, [], ◌∷◌, None, ap, arith, codes, drop, get_or, length, map, refl, sym, take, Bor}
use Rattle.std.proofs.lemmas.List.{take_rest}
use Rattle.std.specs.Str.{bytes_eq}
use Rattle.cpm_commands.specs.Words.{line_behind, order_of_words}
use Rattle.cpm_commands.specs.Words.LineOrder.{DoCommand, TellTypedAt}

pub short-order : (ws : List (Bor (List ℕ))) → length ws < 2 → order_of_words (map (λ w. w.now) ws) ≡ DoCommand None (map (λ w. w.now) ws)
short-order [] short = refl
short-order (w ∷ []) short = refl
short-order (v ∷ w ∷ ws) short = absurd (omega (arith, short))

pub typed-at-order : (ws : List (Bor (List ℕ))) (d : Bor (List ℕ)) (is : Bool) → 2 ≤ length ws → is ≡ bytes_eq (get_or ws 1 d).now (codes "typed-at") → is ≡ true
    → order_of_words (map (λ w. w.now) ws) ≡ TellTypedAt (line_behind (map (λ w. w.now) (take (length ws - 2) (drop 2 ws))))
typed-at-order [] d is long said said_so = absurd (omega (arith, long))
typed-at-order (w ∷ []) d is long said said_so = absurd (omega (arith, long))
typed-at-order (v ∷ w ∷ ws) d is long said said_so =
    let e : bytes_eq w.now (codes "typed-at") ≡ true = sym said ∙ said_so in
    rw e (ap (λ (rest : List (Bor (List ℕ))). TellTypedAt (line_behind (map (λ w. w.now) rest))) (sym (take_rest (v ∷ w ∷ ws) 2)))

pub plain-order : (ws : List (Bor (List ℕ))) (d f : Bor (List ℕ)) (is is_from : Bool) → 2 ≤ length ws → is ≡ bytes_eq (get_or ws 1 d).now (codes "typed-at") → is ≡ false
    → is_from ≡ bytes_eq (get_or ws 1 f).now (codes "typed-from") → is_from ≡ false → order_of_words (map (λ w. w.now) ws) ≡ DoCommand None (map (λ w. w.now) ws)
plain-order [] d f is is_from long said other said_from not_from = absurd (omega (arith, long))
plain-order (w ∷ []) d f is is_from long said other said_from not_from = absurd (omega (arith, long))
plain-order (v ∷ w ∷ ws) d f is is_from long said other said_from not_from =
    let e : bytes_eq w.now (codes "typed-at") ≡ false = sym said ∙ other in
    let e_from : bytes_eq w.now (codes "typed-from") ≡ false = sym said_from ∙ not_from in
    rw e (rw e_from refl)
