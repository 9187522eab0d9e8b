use Rattle.std.proofs.Common.{◌≡◌, ◌<◌, length, refl, ap, arith}
use Rattle.cpm_screen.specs.Painting.{seen_screen}
use Rattle.cpm_screen.proofs.PaintLemmas.{painting_none, painting_done}
use Rattle.cpm_screen.proofs.AnsiLemmas.{never_astray}
use Rattle.cpm_screen.specs.Ansi.{AnsiScreen, ansi_after}
use Rattle.cpm_screen.proofs.painting.painted.Goals as goal

pub rows-requires-clause-so_far : goal.rows-requires-clause-so_far
rows-requires-clause-so_far c =
    let p = c.at-painter in
    painting_none c.args.before.now c.args.after.now p.result.bytes.items p.result.row p.result.column p.result.look p.ensures.bytes (cc) (cc) p.ensures.look

pub returns : goal.returns
unfolding seen_screen
returns c =
    let s = c.args.before.now in
    let t = c.args.after.now in
    let p = c.rows.new.self in
    let new = c.cursor-new.ensures in
    let row : t.cursor.row < length t.lines = rw new.value at new.row in
    let column : t.cursor.column < t.columns = rw new.value at new.column in
    let done = painting_done s t p.bytes.items (seen_screen s) (length t.lines) p.row p.column p.look refl c.requires.rows c.requires.columns
    new.screen.few_rows (omega (arith, new.screen.few_columns)) row column c.in_ok-rows.ensures in
    let go = c.in_ok-go.ensures in
    let wear = c.in_ok-wear.ensures in
    let shown : ansi_after c.wear.new.self.bytes.items (seen_screen s) ≡ seen_screen t = cc (done, new.value, go.0, go.3, wear.0) in
    record { shown = shown; in_language = never_astray c.wear.new.self.bytes.items (seen_screen s) (ap (λ (f : AnsiScreen). f.reading) shown) }
