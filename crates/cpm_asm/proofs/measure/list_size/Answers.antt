use Rattle.std.proofs.Common.{ap, sym, ◌∙◌, false}
use Rattle.cpm_asm.specs.Data.{list_size, sizes}
use Rattle.cpm_asm.specs.Lines.{parts, parts_behind}
use Rattle.cpm_asm.proofs.Sizes.{capped, capped-start, capped-none, capped-end}
use Rattle.cpm_asm.proofs.measure.list_size.Goals as goal

pub returns-in-None : goal.returns-in-None
unfolding list_size
returns-in-None c =
    let l = c.loop-rest in
    let w = c.args.is_words in
    sym (ap (λ r. capped l.size (sizes w r)) (ap (parts_behind 44) c.in-Some.is ∙ c.first_part.ensures.parts)
    ∙ capped-none w l.size c.first_part.result.0.now (parts_behind 44 c.first_part.result.1) (sym c.in_ok-own.ensures.size ∙ c.in-None.is))
    ∙ l.invariant.same ∙ capped-start (sizes w (parts 44 false c.args.list.now))

pub returns : goal.returns
unfolding list_size
returns c =
    let l = c.loop-rest in
    let w = c.args.is_words in
    sym (ap (λ r. capped l.size (sizes w (parts_behind 44 r))) c.in_default.is ∙ capped-end l.size l.invariant.small)
    ∙ l.invariant.same ∙ capped-start (sizes w (parts 44 false c.args.list.now))
