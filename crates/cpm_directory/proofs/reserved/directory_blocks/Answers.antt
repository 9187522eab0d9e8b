use Rattle.std.proofs.Common.{false, true, sym, arith, ◌∙◌, inl, inr}
use Rattle.std.proofs.lemmas.Bool.{cases_eq}
use Rattle.std.proofs.lemmas.List.{length-set, length-replicate, get_or-set_same, get_or-set_other, get_or-replicate}
use Rattle.cpm_directory.proofs.reserved.directory_blocks.Goals as goal
use Rattle.cpm_directory.proofs.reserved.directory_blocks.Goals.{then-is_directory_block, else-is_directory_block}

pub loop-block-init : goal.loop-block-init
loop-block-init c =
    (rw c.none-blocks.ensures (length-replicate 512 false), λ b h. absurd (omega arith), λ b low high. rw c.none-blocks.ensures (get_or-replicate 512 b false true high))

pub loop-block-preserved : goal.loop-block-preserved
loop-block-preserved c =
    let invariant = c.loop-block.invariant in
    elim c.if-is_directory_block.branch [
      | then-is_directory_block w ↦ rw (w.blocks-is, w.insert.ensures, w.from.ensures) (
        length-set c.loop-block.blocks c.loop-block.block true ∙ invariant.0,
        λ b h. elim (cases_eq b c.loop-block.block) [
          | inl same ↦ rw same (get_or-set_same c.loop-block.blocks c.loop-block.block true true (omega (arith, invariant.0)) ∙ (sym w.if-is_directory_block.true ∙ c.is_directory_block.ensures))
          | inr other ↦ get_or-set_other c.loop-block.blocks c.loop-block.block b true true other ∙ invariant.1 b (omega arith)
        ],
        λ b low high. get_or-set_other c.loop-block.blocks c.loop-block.block b true true (λ e. omega arith) ∙ invariant.2 b (omega arith) high,
      )
      | else-is_directory_block w ↦ rw w.blocks-is (
        invariant.0,
        λ b h. elim (cases_eq b c.loop-block.block) [
          | inl same ↦ rw same (invariant.2 c.loop-block.block (omega arith) c.loop-block-test.true ∙ (sym w.if-is_directory_block.false ∙ c.is_directory_block.ensures))
          | inr other ↦ invariant.1 b (omega arith)
        ],
        λ b low high. invariant.2 b (omega arith) high,
      )
    ]
