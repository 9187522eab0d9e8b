use Rattle.std.proofs.Common.{ap, sym, ◌∙◌, append-nil, ◌++◌, arith}
use Rattle.std.proofs.lemmas.List.{drop_all}
use Rattle.cpm_asm_expression.specs.Letters.{letters_of, short}
use Rattle.cpm_asm_expression.proofs.Shortness.{short-fits}
use Rattle.cpm_asm_expression.proofs.letters.letters_of.Goals as goal

pub returns : goal.returns
returns c =
    let xs = c.loop-byte.letters.items in
    let none = ap letters_of (drop_all c.loop-byte.byte-index c.args.word.now (omega arith)) in
    sym (short-fits xs c.loop-byte.invariant.room)
    ∙ ap short (sym (append-nil xs) ∙ ap (λ ys. xs ++ ys) (sym none) ∙ c.loop-byte.invariant.same)
