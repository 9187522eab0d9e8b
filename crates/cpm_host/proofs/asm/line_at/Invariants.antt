use Rattle.std.proofs.Common.{◌-◌, ◌≤◌}
use Rattle.cpm_host.proofs.AsmLemmas.{AreLinesBehind}
use Rattle.cpm_host.proofs.asm.line_at.Given as goal

abbrev pub invariant-loop-before : goal.invariant-loop-before
invariant-loop-before l = record {
  behind : AreLinesBehind l.fn.text (l._before - 1) l.rest;
  within : l._before - 1 ≤ l.number - 1;
  some : 1 ≤ l._before;
}
