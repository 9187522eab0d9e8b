use Rattle.std.proofs.Common.{◌-◌, ◌≤◌}
use Rattle.cpm_decode.specs.Cache.{IsRightFor}
use Rattle.cpm_machine.specs.Runner.{state_of}
use Rattle.cpm_machine.proofs.UntilLaws.{IsRunUntil}
use Rattle.cpm_machine.proofs.until.grant_until.Given as goal

abbrev pub invariant-loop-executed : goal.invariant-loop-executed
invariant-loop-executed g l = record {
  run : IsRunUntil l.system l.pc l.executed (state_of l.fn.runner (g.M.Memory.contents l.fn.memory)) (state_of l.runner (g.M.Memory.contents l.memory));
  right : IsRightFor (g.M.Memory.contents l.memory) (g.M.Memory.stamps l.memory) l.runner.cache;
  within : l.executed ≤ l.steps;
  leads : g.M.Memory.Leads l.fn.memory l.memory;
}

abbrev pub decreases-loop-executed : goal.decreases-loop-executed
decreases-loop-executed g l = l.steps - l.executed
