use Rattle.std.proofs.Common.{◌≡◌, take}
use Rattle.cpm_serve.specs.Compact.{AreSlotsWritten}
use Rattle.cpm_serve.proofs.compact.write_slots.Given as goal

abbrev pub invariant-loop-place : goal.invariant-loop-place
invariant-loop-place g l = (l.host ≡ l.fn.host) × AreSlotsWritten l.fn.host.host (take l.place l.fn.host.host.slots) (g.W.Write.contents l.fn.out) (g.W.Write.contents l.out)
