-- What was added, and what is left.
use Rattle.std.proofs.Common.{◌≡◌, ◌+◌, ◌*◌, ◌++◌, length, drop}
use Rattle.cpm_listing.specs.Digits.{behind_spaces}
use Rattle.cpm_listing.proofs.digits.add_behind_spaces.Given as goal

abbrev pub invariant-loop-byte : goal.invariant-loop-byte
invariant-loop-byte l = record {
  text : l.line.bytes ++ behind_spaces (drop l.byte-index l.bytes) ≡ l.fn.line.bytes ++ behind_spaces l.bytes;
  length : length l.line.bytes ≡ length l.fn.line.bytes + 3 * l.byte-index;
}
