use Rattle.std.proofs.Common.{ℕ, subst}
use Rattle.std.specs.Io.KnownBytes.{Appends}
use Rattle.cpm_screen.specs.Painted.{end_bytes}
use Rattle.cpm_screen.proofs.PaintedLemmas.{finished_by}
use Rattle.cpm_screen.proofs.painted.PaintedOutput.finish.Goals as goal

pub returns : goal.returns
returns g c =
    let is = c.in_ok-paint.ensures in
    let new = c.paint.new.self in
    let ended = subst (λ (n : ℕ). Appends (g.W.Write.contents new.writer) (g.W.Write.contents c.leave.new.writer) (end_bytes n)) c.rows-rows.ensures.value c.in_ok-leave.ensures in
    finished_by g.W.Write.contents c.args.self.sent.bytes new.sent.bytes c.args.self.painter new.painter c.args.self.shown new.shown c.args.self.writer new.writer
    c.leave.new.writer is.sent is.painted is.size.0 is.size.1 is.text ended
