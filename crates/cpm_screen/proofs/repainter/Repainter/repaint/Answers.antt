use Rattle.std.proofs.Common.{◌≡◌, ◌∙◌, ◌++◌, ℕ, List, ap, length, subst, sym, true≢false}
use Rattle.std.proofs.lemmas.List.{append_assoc}
use Rattle.cpm_screen.specs.Ansi.{AnsiScreen}
use Rattle.cpm_screen.specs.Painted.{PainterState, fitted}
use Rattle.cpm_screen.specs.Painting.{seen_screen}
use Rattle.cpm_screen.specs.Pictures.{PaintsAnew}
use Rattle.cpm_screen.specs.State.{ScreenState}
use Rattle.cpm_screen.proofs.WipeLemmas.{painted_behind}
use Rattle.cpm_screen.proofs.repainter.Repainter.repaint.Goals as goal

pub returns-clause-shown : goal.returns-clause-shown
returns-clause-shown c =
    let a = c.self.inside in
    let rows = length a.shown.lines in
    let columns = a.shown.columns in
    let painted = c.in_ok-paint.ensures.painted in
    let given = a.given.bytes in
    let begun = c.in_ok-bytes.bytes.items in
    let first = given ++ begun in
    let behind = painted_behind first painted.0 rows columns a.shown c.fit.new.self c.in_ok-bytes.ensures.shown painted.2 in
    let whole : c.then-self-inside.result.bytes ≡ first ++ painted.0 =
    c.then-self-inside.ensures ∙ ap (λ (xs : List ℕ). given ++ xs) (c.deref.ensures.value ∙ painted.1) ∙ sym (append_assoc given begun painted.0) in
    let seen : seen_screen c.fit.new.self ≡ fitted rows columns c.args.screen.now =
    c.fit.ensures.seen ∙ (λ i. fitted (c.self.invariant.rows i) (c.self.invariant.columns i) c.args.screen.now) in
    let bytes = c.then-self-inside.result.bytes in
    subst (λ (p : PainterState). PaintsAnew bytes p.rows p.columns (fitted p.rows p.columns c.args.screen.now)) c.self.view_is
    (subst (λ (bs : List ℕ). PaintsAnew bs rows columns (fitted rows columns c.args.screen.now)) (sym whole)
    (subst (λ (f : AnsiScreen). PaintsAnew (first ++ painted.0) rows columns f) seen behind))

pub invariant_of-self-2 : goal.invariant_of-self-2
invariant_of-self-2 c =
    let a = c.self.inside in
    let rows = length a.shown.lines in
    let columns = a.shown.columns in
    let painted = c.in_ok-paint.ensures.painted in
    let given = a.given.bytes in
    let begun = c.in_ok-bytes.bytes.items in
    let first = given ++ begun in
    let next = c.fit.new.self in
    let now = c.copy_from.new.self in
    let same = c.copy_from.ensures in
    let behind = painted_behind first painted.0 rows columns a.shown next c.in_ok-bytes.ensures.shown painted.2 in
    let whole : c.then-self-inside.result.bytes ≡ first ++ painted.0 =
    c.then-self-inside.ensures ∙ ap (λ (xs : List ℕ). given ++ xs) (c.deref.ensures.value ∙ painted.1) ∙ sym (append_assoc given begun painted.0) in
    let rows_are : length now.lines ≡ rows = ap (λ (s : ScreenState). length s.lines) same ∙ c.fit.ensures.rows ∙ c.self.invariant.rows in
    let columns_are : now.columns ≡ columns = ap (λ (s : ScreenState). s.columns) same ∙ c.fit.ensures.columns ∙ c.self.invariant.columns in
    let shows : PaintsAnew (first ++ painted.0) (length now.lines) now.columns (seen_screen now) =
    subst (λ (s : ScreenState). PaintsAnew (first ++ painted.0) (length now.lines) now.columns (seen_screen s)) (sym same)
    (subst (λ (n : ℕ). PaintsAnew (first ++ painted.0) (length now.lines) n (seen_screen next)) (sym columns_are)
    (subst (λ (n : ℕ). PaintsAnew (first ++ painted.0) n columns (seen_screen next)) (sym rows_are) behind)) in
    record {
      rows = ap (λ (s : ScreenState). length s.lines) (sym same);
      columns = ap (λ (s : ScreenState). s.columns) (sym same);
      blank = λ e. absurd (true≢false e);
      none = λ e. absurd (true≢false e);
      shows = λ e. subst (λ (bs : List ℕ). PaintsAnew bs (length now.lines) now.columns (seen_screen now)) (sym whole) shows;
    }
