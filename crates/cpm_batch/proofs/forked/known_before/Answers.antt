use Rattle.std.proofs.Common.{◌∙◌, arith, sym}
use Rattle.cpm_batch.proofs.KnownLemmas.{all-counted, early-counted, late-counted, none-counted}
use Rattle.cpm_batch.proofs.forked.known_before.Goals.{then-key-at, else-key-at}
use Rattle.cpm_batch.proofs.forked.known_before.Goals as goal

pub returns-in_default : goal.returns-in_default
returns-in_default c =
    sym (none-counted c.loop-cue.count c.args.at c.args.cues.now c.loop-cue.cue-index c.cue-item.result c.loop-cue-test.true c.cue-item.is c.in_default.not-Key) ∙ c.loop-cue.invariant.same

pub loop-cue-preserved : goal.loop-cue-preserved
loop-cue-preserved c =
    let i = c.loop-cue.invariant in
    let n = c.loop-cue.count in
    let place = c.loop-cue.cue-index in
    let within = c.loop-cue-test.true in
    elim c.if-key-at.branch [
      | then-key-at w ↦ record {
        same = early-counted n c.if-key-at.count c.args.at c.args.cues.now place c.cue-item.result c.in-Key.key within c.cue-item.is c.in-Key.is w.if-key-at.true w.count-is ∙ i.same;
        fits = omega (arith, i.fits, w.count-is);
      }
      | else-key-at w ↦ record {
        same = late-counted n c.if-key-at.count c.args.at c.args.cues.now place c.cue-item.result c.in-Key.key within c.cue-item.is c.in-Key.is w.if-key-at.false w.count-is ∙ i.same;
        fits = omega (arith, i.fits, w.count-is);
      }
    ]

pub returns : goal.returns
returns c = all-counted c.loop-cue.count c.args.at c.args.cues.now c.loop-cue.cue-index c.loop-cue-test.false ∙ c.loop-cue.invariant.same
