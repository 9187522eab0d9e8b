use Rattle.std.proofs.Common.{get_or, true, ◌∙◌, arith}
use Rattle.std.proofs.lemmas.List.{length-set, get_or-set_other}
use Rattle.cpm_directory.proofs.LoginLemmas.{more_marked, mark_at, not_marked}
use Rattle.cpm_directory.proofs.reserved.mark.Goals as goal
use Rattle.cpm_directory.proofs.reserved.mark.Goals.{then-number-gt0, else-number-gt0}

pub loop-number-preserved : goal.loop-number-preserved
loop-number-preserved c =
    let number = get_or c.args.numbers.now c.loop-number.number-index 0 in
    let blocks = c.loop-number.blocks in
    let invariant = c.loop-number.invariant in
    elim c.if-number-gt0.branch [
      | then-number-gt0 w ↦ rw (w.blocks-is, w.insert.ensures, w.from.ensures) (
        length-set blocks number true ∙ invariant.0,
        get_or-set_other blocks number 0 true true (λ e. omega (arith, w.if-number-gt0.true)) ∙ invariant.1,
        λ b low high. more_marked c.args.numbers.now c.loop-number.number-index b _ _ _ c.loop-number-test.true (invariant.2 b low high) (mark_at blocks number b (omega (arith, invariant.0))),
      )
      | else-number-gt0 w ↦ rw w.blocks-is (
        invariant.0,
        invariant.1,
        λ b low high. more_marked c.args.numbers.now c.loop-number.number-index b _ _ _ c.loop-number-test.true (invariant.2 b low high) (not_marked (get_or blocks b true) number b (omega (arith, w.if-number-gt0.false))),
      )
    ]
