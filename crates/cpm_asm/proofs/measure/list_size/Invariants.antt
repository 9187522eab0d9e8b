-- The size so far, and that of what is left.
use Rattle.std.proofs.Common.{◌≡◌, ◌≤◌, false}
use Rattle.cpm_asm.specs.Data.{sizes}
use Rattle.cpm_asm.specs.Lines.{parts, parts_behind}
use Rattle.cpm_asm.specs.Pieces.{bytes_behind}
use Rattle.cpm_asm.proofs.Sizes.{capped}
use Rattle.cpm_asm.proofs.measure.list_size.Given as goal

abbrev pub invariant-loop-rest : goal.invariant-loop-rest
invariant-loop-rest l = record {
  same : capped l.size (sizes l.is_words (parts_behind 44 l.rest)) ≡ capped 0 (sizes l.is_words (parts 44 false l.list));
  small : l.size ≤ 65537;
}

abbrev pub decreases-loop-rest : goal.decreases-loop-rest
decreases-loop-rest l = bytes_behind l.rest
