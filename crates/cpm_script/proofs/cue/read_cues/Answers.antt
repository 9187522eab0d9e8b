use Rattle.std.proofs.Common.{◌+◌, ◌∙◌, ap, arith, sym}
use Rattle.std.specs.Str.Lines.{lines}
use Rattle.cpm_script.specs.Cues.{all_said, cues_from, has_cue, is_cue}
use Rattle.cpm_script.proofs.CueLemmas.{cues-step, or-later}
use Rattle.cpm_script.proofs.cue.read_cues.Goals as goal

pub loop-rest-preserved : goal.loop-rest-preserved
loop-rest-preserved c =
    let old = all_said c.loop-rest.reading.cues in
    let new = all_said c.add_line.new.reading.cues in
    let line = c.first_line.result.0.now in
    let after = lines c.first_line.result.1.now in
    let number = c.loop-rest.number + 1 in
    record {
      same = sym (cues-step number old new line after c.in-Ok.ensures.added) ∙ ap (cues_from number old) (sym c.first_line.ensures.lines)
          ∙ c.loop-rest.invariant.same;
      reading = c.in-Ok.ensures.reading;
      cued = λ some. c.loop-rest.invariant.cued (ap has_cue c.first_line.ensures.lines ∙ or-later (is_cue line) (has_cue after) some);
      count = omega (arith, c.loop-rest.invariant.count, c.first_line.ensures.shorter);
    }
