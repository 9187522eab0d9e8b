use Rattle.std.proofs.Common.{◌≡◌, ◌∙◌, ◌++◌, ◌∷◌, [], ℕ, List, ap, arith, sym, take}
use Rattle.std.specs.Prelude.{map}
use Rattle.std.proofs.lemmas.List.{append_assoc}
use Rattle.cpm_screen.specs.Pictures.{row_text, seen_character, without_end_spaces}
use Rattle.cpm_screen.proofs.PictureLemmas.{line_grown}
use Rattle.cpm_screen.proofs.picture.append_line.Goals as goal

pub loop-column-preserved : goal.loop-column-preserved
loop-column-preserved c =
    c.in_ok-push.ensures.items
    ∙ line_grown c.args.cells.now c.loop-column.column _ c.args.out.now.items c.loop-column.out.items c.seen.result (omega arith) c.loop-column.invariant c.seen.ensures

pub returns : goal.returns
unfolding row_text
returns c =
    let old = c.args.out.now.items in
    let chars = map seen_character c.args.cells.now in
    let ended : c.loop-column.column ≡ c.characters_end-end.result = omega arith in
    let so_far = c.loop-column.invariant ∙ ap (λ (n : ℕ). old ++ take n chars) ended ∙ ap (λ (xs : List ℕ). old ++ xs) (sym c.characters_end-end.ensures.line) in
    c.in_ok-push-2.ensures.items ∙ ap (λ (xs : List ℕ). xs ++ 0x0A ∷ []) so_far ∙ append_assoc old (without_end_spaces chars) (0x0A ∷ [])
