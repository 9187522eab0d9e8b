-- What is shown so far leads to the whole, and the dots still fit.
use Rattle.std.proofs.Common.{◌≡◌, ◌≤◌, drop, length, map}
use Rattle.cpm_shown.specs.Shown.{characters_of, shown_after, shown_of, untabbed}
use Rattle.cpm_shown.proofs.words.shown_line.Given as goal

abbrev pub invariant-loop-byte : goal.invariant-loop-byte
invariant-loop-byte l = record {
  shown : shown_after l.word.bytes (map untabbed (drop l.byte-index l.trimmed)) ≡ shown_of (characters_of l.fn.line);
  short : length l.word.bytes ≤ 196;
}
