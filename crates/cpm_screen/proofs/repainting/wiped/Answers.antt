use Rattle.std.proofs.Common.{◌≡◌, ◌∙◌, ◌++◌, ℕ, List, ap, arith, sym}
use Rattle.cpm_screen.specs.Ansi.{ansi_after}
use Rattle.cpm_screen.specs.Painting.{erase_bytes, move_bytes}
use Rattle.cpm_screen.proofs.WipeLemmas.{all_wiped, plain_begun, row_painted}
use Rattle.cpm_screen.proofs.repainting.wiped.Goals as goal

pub loop-row-init : goal.loop-row-init
loop-row-init c =
    λ columns t wide ready.
    let is : c.write_look.new.bytes.items ≡ _ = cc (c.in_ok-write_look.ensures, c.new-bytes.ensures.items) in
    ((t.row, t.column), ap (λ (bs : List ℕ). ansi_after bs t) is ∙ plain_begun columns c.args.rows t ready)

pub loop-row-preserved : goal.loop-row-preserved
loop-row-preserved c =
    λ columns t wide ready.
    let row = c.loop-row.row in
    let before = c.loop-row.invariant columns t wide ready in
    let rows = ready.rows_are in
    let moved = c.in_ok-write_move.ensures in
    let erased = c.in_ok-extend_from_slice.ensures.items in
    let is : c.extend_from_slice.new.self.items ≡ (c.loop-row.bytes.items ++ move_bytes row 0) ++ erase_bytes = cc in (
      (row, 0),
      ap (λ (bs : List ℕ). ansi_after bs t) is
          ∙ row_painted columns t.lines wide row (omega arith) (ready.cells_are row (omega arith)) c.loop-row.bytes.items t before.0.0 before.0.1 (omega (arith, c.requires.few)) before.1,
    )

pub returns : goal.returns
returns c =
    λ columns t wide ready.
    let before = c.loop-row.invariant columns t wide ready in
    let ended : c.loop-row.row ≡ c.args.rows = omega arith in
    let at_end = rw ended at before.1 in
    let rows = ready.rows_are in
    ap (λ (bs : List ℕ). ansi_after bs t) c.in_ok-write_move-2.ensures
    ∙ all_wiped columns t.lines wide c.args.rows c.loop-row.bytes.items t before.0.0 before.0.1 (sym rows) c.requires.some at_end
