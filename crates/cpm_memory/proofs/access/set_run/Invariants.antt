use Rattle.std.proofs.Common.{◌≡◌, ◌+◌, ◌%◌, take}
use Rattle.cpm_memory.specs.Contents.{after_sets, run_puts}
use Rattle.cpm_memory.proofs.access.set_run.Given as goal

abbrev pub invariant-loop-byte : goal.invariant-loop-byte
invariant-loop-byte g l = record {
  run : g.M.Memory.contents l.memory ≡ after_sets (g.M.Memory.contents l.initial.memory) (run_puts l.address (take l.byte-index l.bytes));
  leads : g.M.Memory.Leads l.initial.memory l.memory;
  target : l.target ≡ (l.address + l.byte-index) % 65536;
}
