-- What was added, and what is left.
use Rattle.std.proofs.Common.{◌≡◌, ◌+◌, ◌++◌, length, drop, map}
use Rattle.cpm_listing.specs.Dump.{dump_character}
use Rattle.cpm_listing.proofs.dump.add_shown.Given as goal

abbrev pub invariant-loop-byte : goal.invariant-loop-byte
invariant-loop-byte l = record {
  text : l.line.bytes ++ map dump_character (drop l.byte-index l.bytes) ≡ l.fn.line.bytes ++ map dump_character l.bytes;
  length : length l.line.bytes ≡ length l.fn.line.bytes + l.byte-index;
}
