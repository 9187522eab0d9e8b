use Rattle.cpm_serve.proofs.WriteLemmas.{first-all, on-err}
use Rattle.cpm_serve.proofs.append.write_flushed.Goals as goal

pub returns-clause-begun : goal.returns-clause-begun
returns-clause-begun g c =
    on-err c.flush.result (first-all c.args.bytes.now (g.W.Write.contents c.args.out.now) (g.W.Write.contents c.write_bytes.new.out) (g.W.Write.contents c.flush.new.self)
    c.in_ok-write_bytes.ensures.whole c.flush.ensures.bytes)
