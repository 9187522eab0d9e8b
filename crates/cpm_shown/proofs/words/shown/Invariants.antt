-- What is shown so far leads to the whole, and the dots still fit.
use Rattle.std.proofs.Common.{◌≡◌, ◌≤◌, IsUtf8, chars, length}
use Rattle.std.specs.Str.Iter.{chars_rest}
use Rattle.cpm_shown.specs.Shown.{shown_after, shown_of}
use Rattle.cpm_shown.proofs.words.shown.Given as goal

abbrev pub invariant-loop-c : goal.invariant-loop-c
invariant-loop-c l = record {
  text : IsUtf8 (chars_rest l.c-iterator);
  shown : shown_after l.word.bytes (chars (chars_rest l.c-iterator)) ≡ shown_of (chars l.fn.text);
  short : length l.word.bytes ≤ 196;
}
