use Rattle.std.proofs.Common.{◌≡◌, ◌+◌, ◌≤◌, ℕ, List, arith, length, subst, sym, take}
use Rattle.std.proofs.lemmas.List.{take_all, take_more}
use Rattle.cpm_saved.proofs.TimesLemmas.{times_begun, times_more}
use Rattle.cpm_saved.specs.Layout.{Times, AnyWord}
use Rattle.cpm_saved.specs.Reading.{IsPartAppended}
use Rattle.cpm_saved.specs.declared.part.SavingPart.TheVariants as part
use Rattle.cpm_saved.proofs.command_file.append_blocks.Goals as goal

pub loop-block-init : goal.loop-block-init
loop-block-init c = times_begun (AnyWord part.CommandFile) c.args.out.now.items

pub loop-block-preserved : goal.loop-block-preserved
loop-block-preserved c =
    let index = c.loop-block.block-index in
    let blocks = c.args.blocks.now in
    subst (λ (vs : List ℕ). IsPartAppended (Times (index + 1) (AnyWord part.CommandFile)) vs c.args.out.now.items c.append_word.new.out.items)
    (sym (take_more blocks index 0 (omega (arith, c.told-blocks, c.loop-block-test.true))))
    (times_more (AnyWord part.CommandFile) index (take index blocks) _ _ _ _ c.loop-block.invariant (c.in_ok-append_word.ensures part.CommandFile))

pub returns : goal.returns
returns c =
    let blocks = c.args.blocks.now in
    let all : c.loop-block.block-index ≡ 16 = omega (arith, c.loop-block-test.false, c.loop-block.auto.block-index-end) in
    let few : length blocks ≤ 16 = omega (arith, c.told-blocks) in
    subst (λ (vs : List ℕ). IsPartAppended (Times 16 (AnyWord part.CommandFile)) vs c.args.out.now.items c.loop-block.out.items) (take_all 16 blocks few)
    (subst (λ (n : ℕ). IsPartAppended (Times n (AnyWord part.CommandFile)) (take n blocks) c.args.out.now.items c.loop-block.out.items) all c.loop-block.invariant)
