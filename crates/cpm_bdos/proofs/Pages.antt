-- The pages of a run of bytes.
use Rattle.std.proofs.Common.{ℕ, ◌+◌, ◌%◌, ◌≤◌, Bool, true, false, cond, arith}
use Rattle.std.specs.Prelude.{nat_le}
use Rattle.cpm_memory.specs.Room.{pages_of_run}

pub pages-le : (a n : ℕ) → pages_of_run a n ≤ 2
pages-le a n = by_test (nat_le (a % 256 + n) 256)
  where
    by_test : (b : Bool) → cond {A = ℕ} b 1 2 ≤ 2
    by_test true = omega arith
    by_test false = omega arith
