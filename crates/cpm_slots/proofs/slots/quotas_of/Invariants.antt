use Rattle.std.proofs.Common.{◌≡◌, ◌≤◌, ◌*◌, take, sum_by}
use Rattle.cpm_slots.proofs.slots.quotas_of.Given as goal

abbrev pub invariant-loop-slot : goal.invariant-loop-slot
invariant-loop-slot l = record {
  sum : l.total ≡ sum_by (λ x. x.runner.quota) (take l.slot-index l.slots);
  small : l.total ≤ 65535 * l.slot-index;
}
