use Rattle.std.proofs.Common.{◌≡◌, ◌∙◌, ◌++◌, IfOk, ℕ, List, ap, length, refl, subst, sym}
use Rattle.std.proofs.lemmas.Result.{IfOk-weaker}
use Rattle.cpm_screen.specs.declared.terminal.TerminalKind.TheVariants.{Vt100}
use Rattle.cpm_screen.specs.Ansi.{ansi_after}
use Rattle.cpm_screen.specs.Painting.{seen_screen}
use Rattle.cpm_screen.specs.Painted.{PainterState}
use Rattle.cpm_screen.specs.Pictures.{IsWiping, PaintsAnew}
use Rattle.cpm_screen.proofs.WipeLemmas.{anew_of, seen_fresh}
use Rattle.cpm_screen.proofs.repainter.Repainter.begin.Goals as goal

pub returns-else-self : goal.returns-else-self
unfolding seen_screen
returns-else-self c =
    let a = c.self.inside in
    let rows = length a.shown.lines in
    let columns = a.shown.columns in
    let size = c.rows.ensures.size in
    let blank = ap seen_screen (c.self.invariant.blank c.if-self.false) ∙ seen_fresh Vt100 rows columns size.few_columns in
    subst (λ (p : PainterState). IfOk c.wiped.result (λ bytes. PaintsAnew (p.given ++ bytes.items) p.rows p.columns p.shown)) c.self.view_is
    (IfOk-weaker c.wiped.result _ _ (λ bytes wipes.
    let wiping = subst (λ (n : ℕ). IsWiping bytes.items n) c.rows.ensures.value wipes in
    let none : a.given.bytes ++ bytes.items ≡ bytes.items = ap (λ (xs : List ℕ). xs ++ bytes.items) (c.self.invariant.none c.if-self.false) in
    anew_of (a.given.bytes ++ bytes.items) rows columns (seen_screen a.shown) refl
    (λ t ready. ap (λ (bs : List ℕ). ansi_after bs t) none ∙ wiping columns t size.some_columns ready ∙ sym blank)) c.wiped.ensures)
