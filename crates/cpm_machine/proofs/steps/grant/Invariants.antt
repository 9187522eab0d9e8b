use Rattle.std.proofs.Common.{◌-◌, ◌≤◌}
use Rattle.cpm_decode.specs.Cache.{IsRightFor}
use Rattle.cpm_machine.specs.Runner.{state_of, IsRun}
use Rattle.cpm_machine.proofs.steps.grant.Given as goal

abbrev pub invariant-loop-executed : goal.invariant-loop-executed
invariant-loop-executed g l = record {
  run : IsRun l.system l.executed (state_of l.fn.runner (g.M.Memory.contents l.fn.memory)) (state_of l.runner (g.M.Memory.contents l.memory));
  right : IsRightFor (g.M.Memory.contents l.memory) (g.M.Memory.stamps l.memory) l.runner.cache;
  within : l.executed ≤ l.steps;
  leads : g.M.Memory.Leads l.fn.memory l.memory;
}

abbrev pub decreases-loop-executed : goal.decreases-loop-executed
decreases-loop-executed g l = l.steps - l.executed
