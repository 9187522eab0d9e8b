use Rattle.std.proofs.Common.{◌≡◌, ◌≤◌, ◌+◌, ◌++◌, drop, length}
use Rattle.cpm_disk_commands.specs.HostNames.{host_part}
use Rattle.cpm_disk_commands.proofs.host_names.add_part.Given as goal

abbrev pub invariant-loop-byte : goal.invariant-loop-byte
invariant-loop-byte l = record {
  text : l.text.bytes ++ host_part (drop l.byte-index l.part) ≡ l.fn.text.bytes ++ host_part l.fn.part;
  short : length l.text.bytes ≤ length l.fn.text.bytes + l.byte-index;
}
