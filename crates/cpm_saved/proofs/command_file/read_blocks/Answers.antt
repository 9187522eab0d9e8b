use Rattle.std.proofs.Common.{◌≡◌, ◌∙◌, ◌+◌, ◌≤◌, ℕ, List, Ok, ap, arith, length, refl, subst, sym, take, length-set}
use Rattle.std.proofs.lemmas.List.{take_all, take_more_set}
use Rattle.std.proofs.lemmas.Result.{err_from_is_err_and}
use Rattle.cpm_saved.proofs.TimesLemmas.{ReadSoFar, so_far_begun, so_far_done, so_far_more, so_far_unread}
use Rattle.cpm_saved.specs.Layout.{AnyWord}
use Rattle.cpm_saved.specs.declared.part.SavingPart.TheVariants as part
use Rattle.cpm_saved.proofs.command_file.read_blocks.Goals as goal

pub loop-index-init : goal.loop-index-init
loop-index-init c = (so_far_begun 16 (AnyWord part.CommandFile) c.args.reader.now, refl)

pub returns-in_err-blocks : goal.returns-in_err-blocks
returns-in_err-blocks c =
    let p = err_from_is_err_and c.from_residual.result c.from_residual.ensures.1 in
    let index = c.loop-index.index in
    rw (p.1, p.2) (so_far_unread 16 index (AnyWord part.CommandFile) (take index c.loop-index.blocks) c.args.reader.now c.loop-index.reader
    c.in_err-blocks.field-0.0 c.loop-index.invariant.0 c.loop-index-test.true c.in_err-blocks.ensures)

pub loop-index-preserved : goal.loop-index-preserved
loop-index-preserved c =
    let index = c.loop-index.index in
    let blocks = c.loop-index.blocks in
    let block = c.in_ok-blocks.field-0 in
    let old = c.args.reader.now in
    let long : length blocks ≡ 16 = c.loop-index.invariant.1 in (
      subst (λ (vs : List ℕ). ReadSoFar 16 (index + 1) (AnyWord part.CommandFile) vs old c.word.new.self)
          (sym (take_more_set blocks index block (omega (arith, long, c.loop-index-test.true))))
          (so_far_more 16 index (AnyWord part.CommandFile) (take index blocks) block old c.loop-index.reader c.word.new.self c.loop-index.invariant.0
          c.loop-index-test.true c.in_ok-blocks.ensures),
      length-set blocks index block ∙ long,
    )

pub returns : goal.returns
returns c =
    let index = c.loop-index.index in
    let blocks = c.loop-index.blocks in
    let all : index ≡ 16 = omega (arith, c.loop-index-test.false, c.loop-index.auto.index-end) in
    let few : length blocks ≤ index = omega (arith, c.loop-index.invariant.1, all) in
    so_far_done 16 index (AnyWord part.CommandFile) (take index blocks) c.args.reader.now c.loop-index.reader c.loop-index.invariant.0 all
    ∙ ap (λ (vs : List ℕ). Ok (vs, c.loop-index.reader)) (take_all index blocks few)
