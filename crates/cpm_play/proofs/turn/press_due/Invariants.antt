use Rattle.std.proofs.Common.{◌≡◌, ◌-◌, ◌<◌, ℕ, length, take}
use Rattle.cpm_machine.specs.MachineState.{MachineState}
use Rattle.cpm_play.specs.Players.{AllBefore}
use Rattle.cpm_play.specs.ScriptedSlots.{script_keys, steps_of, IsResting, Moves}
use Rattle.cpm_play.proofs.turn.press_due.Given as goal

abbrev pub invariant-loop-key : goal.invariant-loop-key
invariant-loop-key l = record {
  playing : (steps : ℕ) (start : MachineState) → IsResting steps start l.fn.slot l.fn.host.host → IsResting steps start l.slot l.host.host;
  moves : Moves l.fn.slot l.slot l.fn.host.host l.host.host;
  left : steps_of l.slot ≡ steps_of l.fn.slot;
  early : (at : ℕ) → l.fn.slot.pace.done < at → AllBefore at (take l.fn.slot.pace.pressed (script_keys l.fn.slot)) → AllBefore at (take l.slot.pace.pressed (script_keys l.slot));
  done : l.slot.pace.done ≡ l.fn.slot.pace.done;
}

abbrev pub decreases-loop-key : goal.decreases-loop-key
decreases-loop-key l = length (script_keys l.slot) - l.slot.pace.pressed
