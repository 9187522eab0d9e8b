use Rattle.std.proofs.Common.{◌≡◌, ℕ, ◌+◌, ◌%◌, ◌<◌, length, get_or}
use Rattle.cpm_memory.specs.Contents.{byte_at}
use Rattle.cpm_debug.proofs.memory.four.Given as goal

abbrev pub invariant-loop-offset : goal.invariant-loop-offset
invariant-loop-offset l = record {
  size : length l.bytes ≡ 4;
  read : (k : ℕ) → k < l.offset → get_or l.bytes k 0 ≡ byte_at l.machine.memory ((l.address + k) % 65536);
}
