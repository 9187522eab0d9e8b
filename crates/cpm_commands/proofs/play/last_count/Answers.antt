use Rattle.std.proofs.Common.{◌∙◌, refl}
use Rattle.cpm_commands.proofs.CountLemmas.{count_all, count_more}
use Rattle.cpm_commands.proofs.play.last_count.Goals as goal

pub loop-cue-init : goal.loop-cue-init
loop-cue-init c = refl

pub loop-cue-preserved : goal.loop-cue-preserved
loop-cue-preserved c =
    count_more c.loop-cue.last c.count_after-last.result c.args.cues.now c.loop-cue.cue-index c.cue-item.result c.loop-cue-test.true c.cue-item.is c.count_after-last.ensures
    ∙ c.loop-cue.invariant

pub returns : goal.returns
returns c = count_all c.loop-cue.last c.args.cues.now c.loop-cue.cue-index c.loop-cue-test.false ∙ c.loop-cue.invariant
