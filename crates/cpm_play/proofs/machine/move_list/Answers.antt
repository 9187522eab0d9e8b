use Rattle.std.proofs.Common.{◌≡◌, length}
use Rattle.cpm_play.proofs.TextLemmas.{chunk_taken, on_err, printed_list, printed_more, printed_none}
use Rattle.cpm_play.proofs.machine.move_list.Goals as goal

pub loop-chunk-init : goal.loop-chunk-init
loop-chunk-init g c = printed_none c.args.machine.now (g.L.Write.contents c.args.list.now)

pub loop-chunk-preserved : goal.loop-chunk-preserved
loop-chunk-preserved g c = printed_more c.args.machine.now c.loop-chunk.machine c.take_list-count.new.self (g.L.Write.contents c.args.list.now) (g.L.Write.contents c.loop-chunk.list)
    (g.L.Write.contents c.write_at_once.new.out) _ _ c.loop-chunk.invariant
    (chunk_taken c.loop-chunk.machine.session.console.printer c.loop-chunk.chunk c.take_list-count.new.out c.take_list-count.result (length c.loop-chunk.chunk) c.take_list-count.ensures.count c.take_list-count.ensures.bytes)
    c.take_list-count.ensures.state c.in_ok-write_at_once.ensures

pub returns-in_err-write_at_once-clause-refused : goal.returns-in_err-write_at_once-clause-refused
returns-in_err-write_at_once-clause-refused g c =
    let some : c.take_list-count.result ≡ 0 → ⊥ = c.if-count-eq0.false in
    on_err c.from_residual.result
    (printed_list c.args.machine.now c.loop-chunk.machine (g.L.Write.contents c.args.list.now) (g.L.Write.contents c.loop-chunk.list) (length c.loop-chunk.chunk) c.take_list-count.result
    c.loop-chunk.invariant c.take_list-count.ensures.count some)
