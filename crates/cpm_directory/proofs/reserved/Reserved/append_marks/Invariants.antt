use Rattle.std.proofs.Common.{◌≡◌, ◌++◌, map, take, cond, ℕ}
use Rattle.cpm_directory.proofs.reserved.Reserved.append_marks.Given as goal

abbrev pub invariant-loop-block : goal.invariant-loop-block
invariant-loop-block l =
    l.out.items ≡ l.initial.out.items ++ map (λ reserved. cond {A = ℕ} reserved 1 0) (take l.block l.self)
