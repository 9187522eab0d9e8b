-- The image and the places so far, and what is left.
use Rattle.std.proofs.Common.{◌≡◌, ◌<◌, ◌+◌, ◌++◌, ◌^◌, [], length}
use Rattle.cpm_asm_expression.specs.Names.{in_table}
use Rattle.cpm_asm.specs.Pieces.{bytes_left, statements_left, pieces}
use Rattle.cpm_asm.specs.Places.{IsPlace, start}
use Rattle.cpm_asm.specs.Passes.{second_pass}
use Rattle.cpm_asm.specs.Placing.{places_from}
use Rattle.cpm_asm.proofs.pass.second_pass.Given as goal

abbrev pub invariant-loop-piece : goal.invariant-loop-piece
invariant-loop-piece l = record {
  same : second_pass (in_table l.names) l.assembly.image.items l.place (statements_left l.pieces) ≡ second_pass (in_table l.names) [] start (pieces l.source);
  places : l.assembly.places.items ++ places_from (in_table l.names) l.place (statements_left l.pieces) ≡ places_from (in_table l.names) start (pieces l.source);
  place : IsPlace l.place;
  lines : l.pieces.line + length l.pieces.rest.now < 2 ^ 64;
}

abbrev pub decreases-loop-piece : goal.decreases-loop-piece
decreases-loop-piece l = bytes_left l.pieces
