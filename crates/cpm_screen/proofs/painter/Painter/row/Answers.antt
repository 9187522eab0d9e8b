use Rattle.std.proofs.Common.{◌≡◌, ◌<◌, arith}
use Rattle.cpm_screen.specs.Painting.{seen_screen}
use Rattle.cpm_screen.proofs.PaintLemmas.{painting_known, painting_begun, painting_same, painting_cell, painting_ended, painting_erased, zero_cell}
use Rattle.cpm_screen.proofs.painter.Painter.row.Goals as goal
use Rattle.cpm_screen.proofs.painter.Painter.row.Goals.{then-not-looks_same+in_ok-cell, else-not-looks_same}

pub loop-column-init : goal.loop-column-init
loop-column-init c =
    let s = c.args.before.now in
    let t = c.args.after.now in
    let from = c.line-from.result.now in
    let to = c.line-to.result.now in
    let known = painting_known s t c.args.row from to c.requires.columns c.requires.in_before c.requires.in_after c.line-to.ensures.screen c.line-from.ensures.value c.line-from.ensures.size c.line-to.ensures.value c.line-to.ensures.size in
    painting_begun s t c.args.row from to known _ (seen_screen s) _ _ _ c.requires.so_far

pub loop-column-preserved : goal.loop-column-preserved
loop-column-preserved c =
    let s = c.args.before.now in
    let t = c.args.after.now in
    let from = c.line-from.result.now in
    let to = c.line-to.result.now in
    let known = painting_known s t c.args.row from to c.requires.columns c.requires.in_before c.requires.in_after c.line-to.ensures.screen c.line-from.ensures.value c.line-from.ensures.size c.line-to.ensures.value c.line-to.ensures.size in
    let p = c.loop-column.self in
    let column = c.loop-column.column in
    let inside : column < s.columns = omega arith in
    elim c.if-not-looks_same.branch [
      | then-not-looks_same+in_ok-cell w ↦
          let done = painting_cell s t c.args.row from to known p.bytes.items (seen_screen s) column p.row p.column p.look zero_cell inside c.loop-column.invariant in
          let is = w.in_ok-cell.ensures in
          cc (done, is.0, is.1, is.2, is.3, w.self-is)
      | else-not-looks_same w ↦
          let same = c.looks_same.ensures.0 w.if-not-looks_same.false in
          let done = painting_same s t c.args.row from to known p.bytes.items (seen_screen s) column p.row p.column p.look zero_cell zero_cell inside same c.loop-column.invariant in
          cc (done, w.self-is)
    ]

pub returns-in_ok-erase : goal.returns-in_ok-erase
returns-in_ok-erase c =
    let s = c.args.before.now in
    let t = c.args.after.now in
    let from = c.line-from.result.now in
    let to = c.line-to.result.now in
    let known = painting_known s t c.args.row from to c.requires.columns c.requires.in_before c.requires.in_after c.line-to.ensures.screen c.line-from.ensures.value c.line-from.ensures.size c.line-to.ensures.value c.line-to.ensures.size in
    let p = c.loop-column.self in
    let end = c.text_end-end.result in
    let ended : c.loop-column.column ≡ end = omega arith in
    let inside : end < s.columns = omega arith in
    let h = rw ended at c.loop-column.invariant in
    let done = painting_erased s t c.args.row from to known p.bytes.items (seen_screen s) end p.row p.column p.look inside c.text_end-end.ensures.blank h in
    let is = c.in_ok-erase.ensures in
    cc (done, is.0, is.1, is.2, is.3)

pub returns-else-end-old_end : goal.returns-else-end-old_end
returns-else-end-old_end c =
    let s = c.args.before.now in
    let t = c.args.after.now in
    let from = c.line-from.result.now in
    let to = c.line-to.result.now in
    let known = painting_known s t c.args.row from to c.requires.columns c.requires.in_before c.requires.in_after c.line-to.ensures.screen c.line-from.ensures.value c.line-from.ensures.size c.line-to.ensures.value c.line-to.ensures.size in
    let p = c.loop-column.self in
    let end = c.text_end-end.result in
    let ended : c.loop-column.column ≡ end = omega arith in
    let h = rw ended at c.loop-column.invariant in
    painting_ended s t c.args.row from to known p.bytes.items (seen_screen s) c.text_end-old_end.result end p.row p.column p.look (omega arith) (omega arith) c.text_end-old_end.ensures.blank c.text_end-end.ensures.blank h
