use Rattle.std.proofs.Common.{◌∷◌, ap₂, ◌∙◌, sym, arith}
use Rattle.std.specs.Str.Lines.{lines}
use Rattle.cpm_asm.proofs.LineLemmas.{lines-first, lines-whole}
use Rattle.cpm_asm.proofs.lines.first_line.Goals as goal

pub returns-in-Some-clause-lines : goal.returns-in-Some-clause-lines
returns-in-Some-clause-lines c =
    lines-first c.args.text.now c.in-Some.end (omega (arith, c.in-Some.ensures.0.high)) c.in-Some.ensures
    ∙ ap₂ (λ line rest. line ∷ lines rest) (sym c.without_return.ensures) (sym c.split_at.ensures.back)

pub returns-in-None-clause-lines : goal.returns-in-None-clause-lines
returns-in-None-clause-lines c = lines-whole c.args.text.now c.requires c.in-None.ensures
