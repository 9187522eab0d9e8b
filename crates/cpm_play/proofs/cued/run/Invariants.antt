use Rattle.std.proofs.Common.{◌≡◌, ◌-◌, ◌≤◌, true}
use Rattle.cpm_machine.specs.Step.{after}
use Rattle.cpm_play.specs.Cued.{HasExecuted, IsBusyFor}
use Rattle.cpm_play.specs.Output.{output_state}
use Rattle.cpm_play.specs.Playing.{IsQuiet}
use Rattle.cpm_play.specs.Shown.{HasGrown}
use Rattle.cpm_play.specs.Typist.{HasAttended, is_over}
use Rattle.cpm_play.proofs.cued.run.Given as goal

abbrev pub invariant-loop-executed : goal.invariant-loop-executed
invariant-loop-executed g l = record {
  within : l.executed ≤ l.steps;
  run : HasExecuted l.system l.executed l.fn.machine l.machine (output_state (g.W.Write.contents l.fn.out) (g.L.Write.contents l.fn.list)) (output_state (g.W.Write.contents l.out) (g.L.Write.contents l.list));
  quiet : IsQuiet l.machine;
  attended : HasAttended (g.A.Attendant.attending l.fn.attendant) (g.A.Attendant.attending l.attendant);
  over : is_over (g.A.Attendant.attending l.fn.attendant) ≡ true → l.executed ≡ 0;
  busy : l.to_wait ≡ true → IsBusyFor l.system l.executed l.fn.machine;
  kept : l.keeps ≡ true → HasGrown l.fn.shown l.shown (after l.system l.executed l.fn.machine).session.console.screen;
}

abbrev pub decreases-loop-executed : goal.decreases-loop-executed
decreases-loop-executed g l = l.steps - l.executed
