use Rattle.std.proofs.Common.{◌≡◌}
use Rattle.cpm_memory.specs.Tabulated.{tabulated}
use Rattle.cpm_memory.proofs.frames.new_frames.Given as goal

abbrev pub invariant-loop-frame : goal.invariant-loop-frame
invariant-loop-frame l = l.frames.items ≡ tabulated l._frame (λ _. l.zeros)
