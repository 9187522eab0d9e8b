use Rattle.std.proofs.Common.{◌+◌, ap, ◌∙◌, sym, take, drop, arith}
use Rattle.std.proofs.lemmas.List.{take_all, drop_all}
use Rattle.cpm_script.proofs.LineLemmas.{place-found, place-none}
use Rattle.cpm_script.proofs.script.parted.Goals as goal

pub returns-in-Some-clause-number : goal.returns-in-Some-clause-number
returns-in-Some-clause-number c =
    let at_space = place-found 32 c.args.line.now c.in-Some.place (omega (arith, c.in-Some.ensures.0.high)) c.in-Some.ensures in
    ap (λ i. take i c.args.line.now) (sym at_space)

pub returns-in-Some-clause-text : goal.returns-in-Some-clause-text
returns-in-Some-clause-text c =
    let at_space = place-found 32 c.args.line.now c.in-Some.place (omega (arith, c.in-Some.ensures.0.high)) c.in-Some.ensures in
    c.split_at.ensures.back ∙ ap (λ i. drop (i + 1) c.args.line.now) (sym at_space)

pub returns-in-None-clause-number : goal.returns-in-None-clause-number
returns-in-None-clause-number c =
    let at_end = place-none 32 c.args.line.now c.in-None.ensures in
    rw at_end (sym (take_all _ c.args.line.now (omega arith)))

pub returns-in-None-clause-text : goal.returns-in-None-clause-text
returns-in-None-clause-text c =
    let at_end = place-none 32 c.args.line.now c.in-None.ensures in
    rw at_end (sym (drop_all _ c.args.line.now (omega arith)))
