use Rattle.std.proofs.Common.{◌≡◌, length}
use Rattle.cpm_play.proofs.TextLemmas.{chunk_taken, moved_more, moved_none, moved_text, on_err}
use Rattle.cpm_play.proofs.machine.move_text.Goals as goal

pub loop-chunk-init : goal.loop-chunk-init
loop-chunk-init g c = moved_none c.args.machine.now (g.W.Write.contents c.args.out.now)

pub loop-chunk-preserved : goal.loop-chunk-preserved
loop-chunk-preserved g c = moved_more c.args.machine.now c.loop-chunk.machine c.take-count.new.self (g.W.Write.contents c.args.out.now) (g.W.Write.contents c.loop-chunk.out)
    (g.W.Write.contents c.write_at_once.new.out) _ _ c.loop-chunk.invariant
    (chunk_taken c.loop-chunk.machine.session.console.screen c.loop-chunk.chunk c.take-count.new.out c.take-count.result (length c.loop-chunk.chunk) c.take-count.ensures.count c.take-count.ensures.bytes)
    c.take-count.ensures.state c.in_ok-write_at_once.ensures

pub returns-in_err-write_at_once-clause-refused : goal.returns-in_err-write_at_once-clause-refused
returns-in_err-write_at_once-clause-refused g c =
    let some : c.take-count.result ≡ 0 → ⊥ = c.if-count-eq0.false in
    on_err c.from_residual.result
    (moved_text c.args.machine.now c.loop-chunk.machine (g.W.Write.contents c.args.out.now) (g.W.Write.contents c.loop-chunk.out) (length c.loop-chunk.chunk) c.take-count.result
    c.loop-chunk.invariant c.take-count.ensures.count some)
