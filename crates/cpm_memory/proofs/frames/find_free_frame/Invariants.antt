use Rattle.std.proofs.Common.{◌≤◌, sum, take}
use Rattle.cpm_memory.proofs.frames.find_free_frame.Given as goal

-- each frame so far has an owner
abbrev pub invariant-loop-frame : goal.invariant-loop-frame
invariant-loop-frame l = l.frame ≤ sum (take l.frame l.owners)
