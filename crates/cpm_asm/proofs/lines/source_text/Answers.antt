use Rattle.std.proofs.Common.{ap, sym, take, arith}
use Rattle.std.proofs.lemmas.List.{take_all}
use Rattle.cpm_asm.proofs.LineLemmas.{place-found, place-none}
use Rattle.cpm_asm.proofs.lines.source_text.Goals as goal

pub returns-in-Some : goal.returns-in-Some
returns-in-Some c =
    let at_end = place-found 26 c.args.source.now c.in-Some.end (omega (arith, c.in-Some.ensures.0.high)) c.in-Some.ensures in
    ap (λ i. take i c.args.source.now) (sym at_end)

pub returns-in-None : goal.returns-in-None
returns-in-None c =
    let at_end = place-none 26 c.args.source.now c.in-None.ensures in
    rw at_end (sym (take_all _ c.args.source.now (omega arith)))
