use Rattle.std.proofs.Common.{◌≡◌, ◌<◌, true, length, get_or, below_more, sym, ap, ◌∙◌, arith}
use Rattle.cpm_volume.specs.declared.extent.Entry.{Entry}
use Rattle.cpm_directory.specs.Directory.{entries_of}
use Rattle.cpm_directory.specs.WellFormed.{stands_before}
use Rattle.cpm_directory.proofs.DriveLemmas.{entries_length}
use Rattle.cpm_directory.proofs.CheckingLemmas.{map_length, number_small, stands_is, stands_of_none, twice_is, single_is}
use Rattle.cpm_directory.proofs.checking.twice_block.Goals as goal
use Rattle.cpm_directory.proofs.checking.twice_block.Goals.{else-block-ne0-via-then-block-ne0+else-is_among, else-block-ne0-via-else-block-ne0}

pub is_among-requires : goal.is_among-requires
is_among-requires c =
    number_small c.args.image.now c.args.index c.loop-place.place c.entry.result c.entry.ensures.value c.requires.index c.requires.good c.loop-place-test.true c.if-block-ne0.true

pub returns-then-is_among : goal.returns-then-is_among
returns-then-is_among c =
    let es = entries_of c.args.image.now in
    let blocks = c.entry.result.extent.blocks in
    let place = c.loop-place.place in
    let size : length blocks ≡ 16 = ap (λ (e : Entry). length e.extent.blocks) c.entry.ensures.value ∙ map_length c.args.image.now c.args.index c.requires.index in
    let count = entries_length c.args.image.now in
    let below : c.args.index < length es = omega (arith, c.requires.index) in
    let small : get_or blocks place 0 < 512 = number_small c.args.image.now c.args.index place c.entry.result c.entry.ensures.value c.requires.index c.requires.good c.loop-place-test.true c.if-block-ne0.true in
    let here : stands_before es c.args.index place ≡ true = stands_is es c.args.before.now c.args.index place c.entry.result c.is_among.result c.entry.ensures.value c.requires.before below small c.if-block-ne0.true c.is_among.ensures ∙ c.if-is_among.true in
    sym (twice_is es c.args.index place c.entry.result c.owner_of.result c.entry.ensures.value (omega (arith, c.loop-place-test.true)) c.loop-place.invariant here c.owner_of.ensures)

pub loop-place-preserved : goal.loop-place-preserved
loop-place-preserved c =
    let es = entries_of c.args.image.now in
    let blocks = c.entry.result.extent.blocks in
    let place = c.loop-place.place in
    let count = entries_length c.args.image.now in
    let below : c.args.index < length es = omega (arith, c.requires.index) in
    below_more _ _ c.loop-place.invariant (elim c.else-block-ne0.branch [
      | else-block-ne0-via-then-block-ne0+else-is_among w ↦
          let small : get_or blocks place 0 < 512 = number_small c.args.image.now c.args.index place c.entry.result c.entry.ensures.value c.requires.index c.requires.good c.loop-place-test.true w.if-block-ne0.true in
          stands_is es c.args.before.now c.args.index place c.entry.result w.is_among.result c.entry.ensures.value c.requires.before below small w.if-block-ne0.true w.is_among.ensures ∙ w.if-is_among.false
      | else-block-ne0-via-else-block-ne0 w ↦ stands_of_none es c.args.index place c.entry.result c.entry.ensures.value w.if-block-ne0.false
    ])

pub returns : goal.returns
returns c =
    let size : length c.entry.result.extent.blocks ≡ 16 = ap (λ (e : Entry). length e.extent.blocks) c.entry.ensures.value ∙ map_length c.args.image.now c.args.index c.requires.index in
    sym (single_is (entries_of c.args.image.now) c.args.index c.entry.result c.entry.ensures.value (λ k h. c.loop-place.invariant k (omega (arith, c.loop-place-test.false))))
