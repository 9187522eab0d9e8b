use Rattle.std.proofs.Common.{◌≡◌, ◌<◌, ◌+◌, true, false, not, length, get_or, take, sym, ap, ◌∙◌, arith}
use Rattle.std.specs.List.{count_by}
use Rattle.std.proofs.Math.Seq.{take-length}
use Rattle.std.proofs.lemmas.List.Sums.{count_by_more_yes, count_by_more_no}
use Rattle.cpm_volume.specs.Reserved.{is_reserved}
use Rattle.cpm_image_files.proofs.Counting.{counted_below}
use Rattle.cpm_image_files.proofs.needs.count_free.Goals as goal
use Rattle.cpm_image_files.proofs.needs.count_free.Goals.{then-not-contains, else-not-contains}

pub overflow_add-free : goal.overflow_add-free
overflow_add-free c =
    let so_far = c.loop-block.invariant in
    let size = c.requires.size in
    let small = c.requires.small in
    let most = counted_below not c.args.reserved.now c.loop-block.block in
    omega arith

pub loop-block-preserved : goal.loop-block-preserved
unfolding is_reserved
loop-block-preserved c =
    let below : c.loop-block.block < length c.args.reserved.now = (let size = c.requires.size in omega arith) in
    let so_far = c.loop-block.invariant in
    elim c.if-not-contains.branch [
      | then-not-contains w ↦ (
          let free : not (get_or c.args.reserved.now c.loop-block.block true) ≡ true = ap not (sym c.contains.ensures ∙ w.if-not-contains.true) in
          w.free-is ∙ (ap (λ n. n + 1) so_far ∙ sym (count_by_more_yes not c.args.reserved.now c.loop-block.block true below free)))
      | else-not-contains w ↦ (
          let taken : not (get_or c.args.reserved.now c.loop-block.block true) ≡ false = ap not (sym c.contains.ensures ∙ w.if-not-contains.false) in
          w.free-is ∙ (so_far ∙ sym (count_by_more_no not c.args.reserved.now c.loop-block.block true below taken)))
    ]

pub returns : goal.returns
returns c =
    let size = c.requires.size in
    let all : take c.loop-block.block c.args.reserved.now ≡ c.args.reserved.now = ap (λ k. take k c.args.reserved.now) (let e : c.loop-block.block ≡ length c.args.reserved.now = omega arith in e) ∙ take-length c.args.reserved.now in
    c.loop-block.invariant ∙ ap (count_by not) all
