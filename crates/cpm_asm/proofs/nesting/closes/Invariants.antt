-- What is sought is sought on.
use Rattle.std.proofs.Common.{◌≡◌, ◌<◌, ◌+◌, ◌^◌, length}
use Rattle.cpm_asm.specs.Pieces.{bytes_left, statements_left}
use Rattle.cpm_asm.specs.Places.{closes}
use Rattle.cpm_asm.proofs.nesting.closes.Given as goal

abbrev pub invariant-loop-piece : goal.invariant-loop-piece
invariant-loop-piece l = record {
  same : closes l.depth (statements_left l.pieces) ≡ closes l.fn.from (statements_left l.start);
  lines : l.pieces.line + length l.pieces.rest.now < 2 ^ 64;
  small : l.depth.skipped + bytes_left l.pieces < 2 ^ 100;
}

abbrev pub decreases-loop-piece : goal.decreases-loop-piece
decreases-loop-piece l = bytes_left l.pieces
