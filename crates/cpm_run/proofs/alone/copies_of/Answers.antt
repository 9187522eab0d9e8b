use Rattle.std.proofs.Common.{◌∙◌}
use Rattle.std.proofs.lemmas.List.{take_all}
use Rattle.cpm_run.proofs.PartLemmas.{copied_more}
use Rattle.cpm_run.proofs.alone.copies_of.Goals as goal

pub loop-image-preserved : goal.loop-image-preserved
loop-image-preserved c =
    copied_more c.args.images.now c.loop-image.copies.items c.push.new.self.items c.loop-image.image-index c.image-item.result c.in_ok-copy.field-0 c.loop-image-test.true c.image-item.is
    c.in_ok-copy.ensures c.loop-image.invariant c.in_ok-push.ensures.items

pub returns : goal.returns
returns c = c.loop-image.invariant ∙ take_all c.loop-image.image-index c.args.images.now c.loop-image-test.false
