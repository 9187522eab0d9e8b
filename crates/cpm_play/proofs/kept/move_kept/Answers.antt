use Rattle.std.proofs.Common.{◌≡◌, length}
use Rattle.cpm_play.proofs.TextLemmas.{chunk_taken, kept_more, kept_none, moved_text, on_err}
use Rattle.cpm_play.proofs.kept.move_kept.Goals as goal

pub loop-chunk-init : goal.loop-chunk-init
loop-chunk-init g c = kept_none c.args.machine.now (g.W.Write.contents c.args.out.now) c.args.shown.now _

pub loop-chunk-preserved : goal.loop-chunk-preserved
loop-chunk-preserved g c =
    let l = c.loop-chunk in
    kept_more c.args.machine.now l.machine c.take-count.new.self (g.W.Write.contents c.args.out.now) (g.W.Write.contents l.out)
    (g.W.Write.contents c.write_at_once.new.out) _ _ c.args.shown.now l.shown c.keep-whole.new.shown l.whole c.keep-whole.result l.invariant
    (chunk_taken l.machine.session.console.screen l.chunk c.take-count.new.out c.take-count.result (length l.chunk) c.take-count.ensures.count c.take-count.ensures.bytes)
    c.take-count.ensures.state c.in_ok-write_at_once.ensures c.keep-whole.ensures.whole c.keep-whole.ensures.kept

pub returns-in_err-write_at_once-clause-refused : goal.returns-in_err-write_at_once-clause-refused
returns-in_err-write_at_once-clause-refused g c =
    let some : c.take-count.result ≡ 0 → ⊥ = c.if-count-eq0.false in
    on_err c.from_residual.result
    (moved_text c.args.machine.now c.loop-chunk.machine (g.W.Write.contents c.args.out.now) (g.W.Write.contents c.loop-chunk.out) (length c.loop-chunk.chunk) c.take-count.result
    c.loop-chunk.invariant.moved c.take-count.ensures.count some)
