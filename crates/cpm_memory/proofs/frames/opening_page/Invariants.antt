use Rattle.std.proofs.Common.{◌≡◌, ℕ, ◌<◌, length, get_or}
use Rattle.cpm_memory.specs.Opening.{opening_byte}
use Rattle.cpm_memory.proofs.frames.opening_page.Given as goal

abbrev pub invariant-loop-offset : goal.invariant-loop-offset
invariant-loop-offset l = record {
  size : length l.bytes ≡ 256;
  written : (k : ℕ) → k < l.offset → get_or l.bytes k 0 ≡ opening_byte l.page k;
}
