use Rattle.std.proofs.Common.{◌≡◌, ◌+◌, ◌%◌, take}
use Rattle.cpm_memory.specs.Contents.{run_at}
use Rattle.cpm_memory.proofs.access.get_run.Given as goal

abbrev pub invariant-loop-byte : goal.invariant-loop-byte
invariant-loop-byte g l = record {
  run : take l.byte-index l.out ≡ run_at (g.M.Memory.contents l.memory) l.address l.byte-index;
  source : l.source ≡ (l.address + l.byte-index) % 65536;
}
