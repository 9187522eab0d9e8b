use Rattle.std.proofs.Common.{⊎_elim, arith}
use Rattle.cpm_run.proofs.PartLemmas.{key_counted, none_counted, press_counted, wait_counted}
use Rattle.cpm_run.proofs.part.key_count.Goals.{in-Wait, in-Key}
use Rattle.cpm_run.proofs.part.key_count.Goals as goal

pub loop-cue-init : goal.loop-cue-init
loop-cue-init c = record { same = omega arith; fits = omega arith }

pub loop-cue-preserved : goal.loop-cue-preserved
loop-cue-preserved c =
    let i = c.loop-cue.invariant in
    let cs = c.args.cues.now in
    let place = c.loop-cue.cue-index in
    let within = c.loop-cue-test.true in
    elim c.match-cue.branch [
      | in-Wait w ↦ record {
        same = omega (arith, i.same, w.count-is, wait_counted cs place c.cue-item.result w.in-Wait.field-0 within c.cue-item.is w.in-Wait.is);
        fits = omega (arith, i.fits, w.count-is);
      }
      | in-Key w ↦ record {
        same =
            ⊎_elim (λ key. omega (arith, i.same, w.count-is, key_counted cs place c.cue-item.result key.0 within c.cue-item.is key.1))
            (λ press. omega (arith, i.same, w.count-is, press_counted cs place c.cue-item.result press.0 within c.cue-item.is press.1)) w.in-Key.is;
        fits = omega (arith, i.fits, w.count-is);
      }
    ]

pub returns : goal.returns
returns c = omega (arith, c.loop-cue.invariant.same, none_counted c.args.cues.now c.loop-cue.cue-index c.loop-cue-test.false)
