use Rattle.std.proofs.Common.{ap, ◌∙◌, sym, take, drop, List, ◌∷◌, ◌<◌, ◌+◌, length, ℕ, false, arith}
use Rattle.cpm_asm.specs.Lines.{outside, parts}
use Rattle.cpm_asm.proofs.LineLemmas.{parts-first, parts-whole}
use Rattle.cpm_asm.proofs.lines.first_part.Goals as goal

pub returns-then-place-text-clause-parts : goal.returns-then-place-text-clause-parts
returns-then-place-text-clause-parts c =
    let text = c.args.text.now in
    let count = c.outside_quotes-place.ensures.count in
    let within : outside c.args.sign false text < length text = omega (arith, count, c.if-place-text.true) in
    parts-first c.args.sign text within
    ∙ ap (λ (n : ℕ). take n text ∷ parts c.args.sign false (drop (n + 1) text)) (sym count)
    ∙ ap (λ (rest : List ℕ). take c.outside_quotes-place.result text ∷ parts c.args.sign false rest) (sym c.split_at.ensures.back)

pub returns-else-place-text-clause-parts : goal.returns-else-place-text-clause-parts
returns-else-place-text-clause-parts c =
    let text = c.args.text.now in
    parts-whole c.args.sign text (omega (arith, c.outside_quotes-place.ensures.count, c.if-place-text.false))
