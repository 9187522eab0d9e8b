-- What was added, and what is left.
use Rattle.std.proofs.Common.{◌≡◌, ◌++◌, false}
use Rattle.cpm_asm_expression.specs.Names.{in_table}
use Rattle.cpm_asm.specs.Data.{all_bytes, all_doubts, no_doubt}
use Rattle.cpm_asm.specs.Lines.{parts, parts_behind}
use Rattle.cpm_asm.specs.Pieces.{bytes_behind}
use Rattle.cpm_asm.proofs.emit.add_list.Given as goal

abbrev pub invariant-loop-rest : goal.invariant-loop-rest
invariant-loop-rest l = record {
  bytes : l.image.items ++ all_bytes l.is_words (in_table l.names) l.here (parts_behind 44 l.rest) ≡ l.fn.image.items ++ all_bytes l.is_words (in_table l.names) l.here (parts 44 false l.list);
  doubt : all_doubts l.is_words (in_table l.names) l.here l.doubt (parts_behind 44 l.rest) ≡ all_doubts l.is_words (in_table l.names) l.here no_doubt (parts 44 false l.list);
}

abbrev pub decreases-loop-rest : goal.decreases-loop-rest
decreases-loop-rest l = bytes_behind l.rest
