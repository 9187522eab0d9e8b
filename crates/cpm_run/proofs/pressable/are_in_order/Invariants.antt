use Rattle.std.proofs.Common.{drop}
use Rattle.cpm_play.specs.Playing.{IsInOrder}
use Rattle.cpm_run.proofs.pressable.are_in_order.Given as goal

abbrev pub invariant-loop-key : goal.invariant-loop-key
invariant-loop-key l = record {
  order : IsInOrder l.low (drop l.key-index l.keys) → IsInOrder l.from l.keys;
  other : IsInOrder l.from l.keys → IsInOrder l.low (drop l.key-index l.keys);
}
