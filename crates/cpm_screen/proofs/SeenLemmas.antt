-- The ends of rows from which on nothing is seen.
use Rattle.std.proofs.Common.{◌≡◌, ℕ, suc, ◌+◌, ◌-◌, ◌<◌, ◌≤◌, List, ◌∷◌, length, drop, get_or, replicate, ap, ◌∙◌, arith}
use Rattle.std.specs.Prelude.{map}
use Rattle.std.proofs.lemmas.List.{drop_more, drop_all, length-map, get_or-map}
use Rattle.cpm_screen.specs.declared.cell.ScreenCell.{ScreenCell}
use Rattle.cpm_screen.specs.declared.cell.TheConstants.{BLANK}
use Rattle.cpm_screen.specs.Painting.{seen}

pub tail_none : (cells : List ScreenCell) (end : ℕ) → end ≡ length cells → drop end (map seen cells) ≡ replicate (length cells - end) BLANK
tail_none cells end all =
    let size = length-map cells seen in
    let none : length cells - end ≡ 0 = omega arith in
    rw none (drop_all end (map seen cells) (omega (arith, size)))

pub tail_more : (cells : List ScreenCell) (end : ℕ) (d : ScreenCell) → 0 < end → end ≤ length cells → seen (get_or cells (end - 1) d) ≡ BLANK
    → drop end (map seen cells) ≡ replicate (length cells - end) BLANK → drop (end - 1) (map seen cells) ≡ replicate (length cells - (end - 1)) BLANK
tail_more cells end d some within here rest =
    let size = length-map cells seen in
    let inside : end - 1 < length (map seen cells) = omega (arith, size) in
    let one = drop_more (map seen cells) (end - 1) BLANK inside in
    let first : get_or (map seen cells) (end - 1) BLANK ≡ BLANK = get_or-map seen cells (end - 1) d BLANK (omega arith) ∙ here in
    let next : end - 1 + 1 ≡ end = omega arith in
    let count : length cells - (end - 1) ≡ suc (length cells - end) = omega arith in
    rw count (one ∙ rw first (rw next (ap (λ (ys : List ScreenCell). BLANK ∷ ys) rest)))

pub ruleset seen_tails = (tail_none, tail_more)
