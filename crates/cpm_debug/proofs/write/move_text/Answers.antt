use Rattle.std.proofs.Common.{length}
use Rattle.cpm_debug.proofs.TextLemmas.{chunk_taken, moved_more}
use Rattle.cpm_debug.proofs.write.move_text.Goals as goal

pub loop-chunk-preserved : goal.loop-chunk-preserved
loop-chunk-preserved g c = moved_more c.args.machine.now c.loop-chunk.machine c.take-count.new.self (g.W.Write.contents c.args.out.now) (g.W.Write.contents c.loop-chunk.out)
    (g.W.Write.contents c.write_all.new.self) _ _ c.loop-chunk.invariant
    (chunk_taken c.loop-chunk.machine.session.console.screen c.loop-chunk.chunk c.take-count.new.out c.take-count.result (length c.loop-chunk.chunk) c.take-count.ensures.count c.take-count.ensures.bytes)
    c.take-count.ensures.state c.in_ok-write_all.ensures.bytes
