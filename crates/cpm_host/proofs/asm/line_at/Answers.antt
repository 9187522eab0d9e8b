use Rattle.std.proofs.Common.{◌≡◌, ◌+◌, ◌-◌, ◌<◌, arith, refl}
use Rattle.cpm_host.proofs.AsmLemmas.{line_here, lines_begun, lines_behind, no_line}
use Rattle.cpm_host.proofs.asm.line_at.Goals as goal

pub loop-before-init : goal.loop-before-init
loop-before-init c = record { behind = lines_begun c.args.text.now 0 refl; within = omega arith; some = omega arith }

pub loop-before-preserved : goal.loop-before-preserved
loop-before-preserved c =
    let l = c.loop-before in
    let i = l.invariant in
    let parts = c.in-Some.ensures in
    let below = c.loop-before-test.true in
    let more : l._before + 1 - 1 ≡ l._before - 1 + 1 = let some = i.some in omega (arith, some) in
    record {
      behind = lines_behind c.args.text.now l.rest.now parts.0 c.in-Some.behind.now (l._before - 1) (l._before + 1 - 1) more i.behind parts.1;
      within = omega (arith, below);
      some = omega arith;
    }

pub returns-in-None : goal.returns-in-None
returns-in-None c =
    let l = c.loop-before in
    let below = c.loop-before-test.true in
    let some = l.invariant.some in
    let further : l._before - 1 + 1 < c.args.number = omega (arith, below, some) in
    no_line c.args.text.now l.rest.now (l._before - 1) c.args.number further l.invariant.behind c.in-None.ensures

pub returns : goal.returns
returns c =
    let l = c.loop-before in
    let past = c.loop-before-test.false in
    let within = l.invariant.within in
    let here : l._before - 1 ≡ c.args.number - 1 = omega (arith, past, within) in
    line_here c.args.text.now l.rest.now c.first_line.result.now (l._before - 1) c.args.number here l.invariant.behind c.first_line.ensures
