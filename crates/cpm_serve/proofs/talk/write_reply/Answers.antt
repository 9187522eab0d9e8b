use Rattle.std.proofs.Common.{List, ℕ, ◌∷◌, [], subst}
use Rattle.std.specs.Io.KnownBytes.{Appends}
use Rattle.cpm_serve.specs.Written.{AppendsFirst}
use Rattle.cpm_serve.proofs.WriteLemmas.{err-so, first-after, first-more, on-err}
use Rattle.cpm_serve.proofs.talk.write_reply.Goals as goal

pub returns-in_err-write_bytes-clause-begun : goal.returns-in_err-write_bytes-clause-begun
returns-in_err-write_bytes-clause-begun g c =
    let old = g.W.Write.contents c.args.out.now in
    let now = g.W.Write.contents c.write_bytes.new.out in
    on-err c.from_residual.result (first-more c.args.reply.now (0x0A ∷ []) old now
    (subst (λ (bs : List ℕ). AppendsFirst old now bs) c.as_bytes.ensures.value c.in_err-write_bytes.ensures.begun))

pub returns-clause-begun : goal.returns-clause-begun
returns-clause-begun g c =
    let old = g.W.Write.contents c.args.out.now in
    let now = g.W.Write.contents c.write_bytes.new.out in
    let new = g.W.Write.contents c.write_flushed.new.out in
    let whole : Appends old now c.args.reply.now = subst (λ (bs : List ℕ). Appends old now bs) c.as_bytes.ensures.value c.in_ok-write_bytes.ensures.whole in
    err-so c.write_flushed.result (λ k. first-after c.args.reply.now (0x0A ∷ []) old now new whole k) c.write_flushed.ensures.begun
