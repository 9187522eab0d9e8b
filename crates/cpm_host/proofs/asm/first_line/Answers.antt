use Rattle.std.proofs.Common.{List, ℕ, [], ap, arith, get_or, sym}
use Rattle.cpm_host.proofs.AsmLemmas.{first_alone, first_and_rest}
use Rattle.cpm_host.proofs.asm.first_line.Goals as goal

pub returns-in-Some : goal.returns-in-Some
returns-in-Some c =
    sym (ap (λ (lines : List (List ℕ)). get_or lines 0 []) (first_and_rest c.args.text.now c.in-Some.end (omega (arith, c.in-Some.ensures.0.high)) c.in-Some.ensures))

pub returns-in-None : goal.returns-in-None
returns-in-None c = sym (ap (λ (lines : List (List ℕ)). get_or lines 0 []) (first_alone c.args.text.now c.in-None.ensures))
