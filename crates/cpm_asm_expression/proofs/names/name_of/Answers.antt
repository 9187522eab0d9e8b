-- Blanks behind the letters.
use Rattle.std.proofs.Common.{ap, ◌∙◌, List, ℕ, ◌++◌, ◌-◌, length, replicate}
use Rattle.std.proofs.lemmas.List.{drop-replicate}
use Rattle.cpm_asm_expression.specs.declared.names.Name.{Name}
use Rattle.cpm_asm_expression.proofs.names.name_of.Goals as goal

as_name : List ℕ → Name
as_name letters = record { letters = letters }

pub returns : goal.returns
unfolding as_name
returns c =
    let n = length c.args.letters.now in
    ap (λ (rest : List ℕ). as_name (c.copy_from_slice.new.self ++ rest)) (drop-replicate n 16 32)
    ∙ ap (λ (xs : List ℕ). as_name (xs ++ replicate (16 - n) 32)) c.copy_from_slice.ensures.after
