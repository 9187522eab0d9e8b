-- So many spaces were added.
use Rattle.std.proofs.Common.{◌≡◌, ◌+◌, ◌-◌, ◌++◌, length, replicate}
use Rattle.cpm_listing.proofs.digits.add_padded.Given as goal

abbrev pub invariant-loop-place : goal.invariant-loop-place
invariant-loop-place l = record {
  text : l.line.bytes ≡ l.initial.line.bytes ++ replicate (l._place - length l.text) 32;
  length : length l.line.bytes ≡ length l.initial.line.bytes + (l._place - length l.text);
}
