use Rattle.std.proofs.Common.{get_or, true, false, sym, ◌∙◌, arith}
use Rattle.std.proofs.lemmas.List.{length-set}
use Rattle.cpm_volume.specs.Reserved.{is_directory_block}
use Rattle.cpm_directory.proofs.LoginLemmas.{more_released, release_at, not_released}
use Rattle.cpm_directory.proofs.reserved.release.Goals as goal
use Rattle.cpm_directory.proofs.reserved.release.Goals.{then-number-gt0+then-not-is_directory_block, else-number-gt0, else-number-gt0-via-then-number-gt0+else-not-is_directory_block, else-number-gt0-via-else-number-gt0}

pub loop-number-preserved : goal.loop-number-preserved
loop-number-preserved c =
    let number = get_or c.args.numbers.now c.loop-number.number-index 0 in
    let blocks = c.loop-number.blocks in
    let invariant = c.loop-number.invariant in
    elim c.if-number-gt0.branch [
      | then-number-gt0+then-not-is_directory_block w ↦ rw (w.blocks-is, w.remove.ensures, w.from.ensures) (
        length-set blocks number false ∙ invariant.0,
        λ b high. more_released c.args.numbers.now c.loop-number.number-index b _ _ _ _ c.loop-number-test.true (invariant.1 b high) (release_at blocks number b (is_directory_block c.args.dpb.now) (omega (arith, invariant.0)) w.if-number-gt0.true (sym w.is_directory_block.ensures ∙ w.if-not-is_directory_block.true)),
      )
      | else-number-gt0 w ↦ rw w.blocks-is (
        invariant.0,
        λ b high. more_released c.args.numbers.now c.loop-number.number-index b _ _ _ _ c.loop-number-test.true (invariant.1 b high) (not_released (get_or blocks b true) number b (is_directory_block c.args.dpb.now) (λ low. elim w.else-number-gt0.branch [
          | else-number-gt0-via-then-number-gt0+else-not-is_directory_block w' ↦ sym w'.is_directory_block.ensures ∙ w'.if-not-is_directory_block.false
          | else-number-gt0-via-else-number-gt0 w' ↦ absurd (omega (arith, low, w'.if-number-gt0.false))
        ])),
      )
    ]
