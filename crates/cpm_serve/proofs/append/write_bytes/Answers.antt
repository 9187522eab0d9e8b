use Rattle.std.proofs.Common.{sym, subst}
use Rattle.std.proofs.lemmas.List.{take_rest}
use Rattle.cpm_serve.proofs.WriteLemmas.{IsLineWritten, written-first, written-more, written-ok, written-same}
use Rattle.cpm_serve.proofs.append.write_bytes.Goals as goal
use Rattle.cpm_serve.proofs.append.write_bytes.Goals.{in-Ok, in-Err}

pub returns-in-Ok-eq0-clause-begun : goal.returns-in-Ok-eq0-clause-begun
returns-in-Ok-eq0-clause-begun g c =
    written-ok c.args.bytes.now c.loop-write.rest.now (g.W.Write.contents c.args.out.now) (g.W.Write.contents c.loop-write.out) (g.W.Write.contents c.write.new.self)
    c.write.result c.in-Ok-eq0.field-0 c.loop-write.invariant c.in-Ok-eq0.is c.write.ensures.bytes

pub returns-in-Err-2-clause-begun : goal.returns-in-Err-2-clause-begun
returns-in-Err-2-clause-begun g c =
    written-first c.args.bytes.now c.loop-write.rest.now (g.W.Write.contents c.args.out.now) (g.W.Write.contents c.write.new.self)
    (written-same c.args.bytes.now c.loop-write.rest.now (g.W.Write.contents c.args.out.now) (g.W.Write.contents c.loop-write.out) (g.W.Write.contents c.write.new.self)
    c.loop-write.invariant c.in-Err.ensures.bytes)

pub loop-write-preserved : goal.loop-write-preserved
loop-write-preserved g c =
    let line = c.args.bytes.now in
    let rest = c.loop-write.rest.now in
    let old = g.W.Write.contents c.args.out.now in
    let now = g.W.Write.contents c.loop-write.out in
    let next = g.W.Write.contents c.write.new.self in
    elim c.match-write.branch [
      | in-Ok w ↦
          subst (λ b. IsLineWritten line b.now old next) (sym w.rest-is)
          (subst (λ xs. IsLineWritten line xs old next) (sym (take_rest rest w.in-Ok.count))
          (written-more line rest old now next w.in-Ok.count c.loop-write.invariant w.in-Ok.ensures.bytes))
      | in-Err w ↦ subst (λ b. IsLineWritten line b.now old next) (sym w.rest-is) (written-same line rest old now next c.loop-write.invariant w.in-Err.ensures.bytes)
    ]

pub returns-clause-begun : goal.returns-clause-begun
returns-clause-begun g c =
    written-first c.args.bytes.now c.loop-write.rest.now (g.W.Write.contents c.args.out.now) (g.W.Write.contents c.loop-write.out) c.loop-write.invariant
