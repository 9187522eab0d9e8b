use Rattle.std.proofs.Common.{ap, ◌∙◌, sym, false, ◌∷◌}
use Rattle.cpm_asm.specs.Lines.{parts, parts_behind}
use Rattle.cpm_asm.specs.Operands.{only_one}
use Rattle.cpm_asm.proofs.LineLemmas.{parts-some}
use Rattle.cpm_asm.proofs.OperandLemmas.{one-more}
use Rattle.cpm_asm.proofs.operands.one_operand.Goals as goal

pub returns-in-Some : goal.returns-in-Some
returns-in-Some c =
    let only = c.first_part.result.0.now in
    let rest = c.in-Some.field-0.now in
    sym (ap only_one (c.first_part.ensures.parts ∙ ap (λ r. only ∷ parts_behind 44 r) c.in-Some.is) ∙ one-more only (parts 44 false rest) (parts-some 44 false rest))
