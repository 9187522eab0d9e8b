use Rattle.std.proofs.Common.{◌≡◌, ◌∙◌, ℕ, List, ap, length, subst, sym}
use Rattle.cpm_screen.specs.declared.terminal.TerminalKind.TheVariants.{Vt100}
use Rattle.cpm_screen.specs.Ansi.{AnsiScreen, ansi_after}
use Rattle.cpm_screen.specs.Painting.{seen_screen}
use Rattle.cpm_screen.specs.Pictures.{IsAtRest, IsWiping, PaintsAnew}
use Rattle.cpm_screen.specs.State.{fresh_screen}
use Rattle.cpm_screen.proofs.WipeLemmas.{painted_behind, seen_fresh}
use Rattle.cpm_screen.proofs.repainting.paint_anew.Goals as goal

pub returns : goal.returns
returns c =
    let s = c.args.screen.now in
    let rows = length s.lines in
    let columns = s.columns in
    let blank = c.in-Ok.blank in
    let bytes = c.in_ok-bytes.bytes.items in
    let blank_is : blank ≡ fresh_screen Vt100 rows columns =
    c.in-Ok.ensures.1 ∙ (λ i. fresh_screen Vt100 (c.rows.ensures.value i) (c.columns.ensures.value i)) in
    let size = c.rows.ensures.size in
    let wipes = subst (λ (n : ℕ). IsWiping bytes n) c.rows-2.ensures.value c.in_ok-bytes.ensures in
    let shows : (t : AnsiScreen) → IsAtRest rows columns t → ansi_after bytes t ≡ seen_screen blank =
    λ t ready. wipes columns t size.some_columns ready ∙ sym (ap seen_screen blank_is ∙ seen_fresh Vt100 rows columns size.few_columns) in
    let painted = c.in_ok-paint.ensures.painted in
    subst (λ (bs : List ℕ). PaintsAnew bs rows columns (seen_screen s)) (sym painted.1)
    (painted_behind bytes painted.0 rows columns blank s shows painted.2)
