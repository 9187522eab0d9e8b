-- The names so far, and what is left.
use Rattle.std.proofs.Common.{◌≡◌, ◌<◌, ◌+◌, ◌^◌, length}
use Rattle.cpm_asm_expression.specs.Names.{in_table, no_names}
use Rattle.cpm_asm.specs.Pieces.{bytes_left, statements_left, pieces}
use Rattle.cpm_asm.specs.Places.{IsPlace, start}
use Rattle.cpm_asm.specs.Passes.{first_pass}
use Rattle.cpm_asm.proofs.pass.first_pass.Given as goal

abbrev pub invariant-loop-piece : goal.invariant-loop-piece
invariant-loop-piece l = record {
  same : first_pass (in_table l.names) l.place (statements_left l.pieces) ≡ first_pass no_names start (pieces l.source);
  place : IsPlace l.place;
  lines : l.pieces.line + length l.pieces.rest.now < 2 ^ 64;
  small : bytes_left l.pieces < 2 ^ 99;
}

abbrev pub decreases-loop-piece : goal.decreases-loop-piece
decreases-loop-piece l = bytes_left l.pieces
