use Rattle.std.proofs.Common.{ap, ◌∙◌, sym, false, List, ℕ, ◌∷◌}
use Rattle.cpm_asm.specs.Lines.{parts, parts_behind}
use Rattle.cpm_asm.specs.Operands.{only_two}
use Rattle.cpm_asm.proofs.LineLemmas.{parts-some}
use Rattle.cpm_asm.proofs.OperandLemmas.{two-more}
use Rattle.cpm_asm.proofs.operands.two_operands.Goals as goal

pub returns-in-Some : goal.returns-in-Some
returns-in-Some c =
    let first = c.first_part.result.0.now in
    let second = c.first_part-2.result.0.now in
    let rest = c.in-Some.field-0.now in
    sym (ap only_two (c.first_part.ensures.parts ∙ ap (λ r. first ∷ parts_behind 44 r) c.in_ok-rest.was
    ∙ ap (λ (xs : List (List ℕ)). first ∷ xs) (c.first_part-2.ensures.parts ∙ ap (λ r. second ∷ parts_behind 44 r) c.in-Some.is))
    ∙ two-more first second (parts 44 false rest) (parts-some 44 false rest))
