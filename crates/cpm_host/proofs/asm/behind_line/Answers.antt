use Rattle.std.proofs.Common.{◌∷◌, ◌∙◌, List, ℕ, ap, arith, sym, take}
use Rattle.cpm_host.specs.Asm.{lines_in}
use Rattle.cpm_host.proofs.AsmLemmas.{first_alone, first_and_rest}
use Rattle.cpm_host.proofs.asm.behind_line.Goals as goal

pub returns-in_err-end : goal.returns-in_err-end
returns-in_err-end c = rw c.from_residual.ensures (first_alone c.args.text.now c.in_err-end.ensures)

pub returns : goal.returns
returns c =
    let text = c.args.text.now in
    let end = c.in_ok-end.end in
    (take end text, first_and_rest text end (omega (arith, c.in_ok-end.ensures.0.high)) c.in_ok-end.ensures ∙ ap (λ (rest : List ℕ). take end text ∷ lines_in rest) (sym c.split_at.ensures.back))
