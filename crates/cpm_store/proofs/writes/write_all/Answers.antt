use Rattle.std.proofs.Common.{List, ℕ, map, take, drop, suc, subst, sym, arith, ◌∙◌}
use Rattle.cpm_store.specs.Files.{WhereTold, Writes}
use Rattle.cpm_store.specs.Log.{StoreAccess, AreWrites, LogLeadsBy, Wrote}
use Rattle.cpm_store.specs.Writes.{NamedBytes, WritesAll, named_output}
use Rattle.cpm_store.proofs.LogLemmas.{ran_missed, ran_write}
use Rattle.cpm_store.proofs.WriteLemmas.{named-length, named-more, named-split, told_more, told_stopped}
use Rattle.cpm_store.proofs.writes.write_all.Goals as goal

pub returns-in-Err-clause-stopped : goal.returns-in-Err-clause-stopped
returns-in-Err-clause-stopped g c =
    let os = c.args.outputs.now in
    let i = c.loop-output.output-index in
    told_stopped _ (g.S.Store.files c.loop-output.store) _ (map named_output os) (map named_output (take i os)) (named_output c.output-item.result) (map named_output (drop (suc i) os)) _
    (named-split os i c.output-item.result c.loop-output-test.true c.output-item.is) (named-length os i c.loop-output-test.true ∙ sym c.loop-output.invariant.place)
    c.loop-output.invariant.written c.in-Err.ensures.others

pub loop-output-preserved : goal.loop-output-preserved
loop-output-preserved g c =
    let os = c.args.outputs.now in
    let i = c.loop-output.output-index in
    let o = c.output-item.result in
    let before = g.S.Store.files c.loop-output.store in
    let after = g.S.Store.files c.write.new.self in
    let write : WhereTold before after (Writes (named_output o).0 (named_output o).1) = subst (λ (bytes : List ℕ). WhereTold before after (Writes (named_output o).0 bytes)) c.as_slice.ensures.value c.in-Ok.ensures.written in
    let logged = subst (λ (bytes : List ℕ). g.S.Store.does c.loop-output.store (Wrote (named_output o).0 bytes) c.write.new.self) c.as_slice.ensures.value c.in-Ok.ensures.wrote in
    record {
      written = subst (λ (ps : List NamedBytes). WhereTold (g.S.Store.files c.args.store.now) after (WritesAll ps)) (sym (named-more os i o c.loop-output-test.true c.output-item.is))
          (told_more _ before after (map named_output (take i os)) (named_output o) c.loop-output.invariant.written write);
      log = subst (λ (ps : List NamedBytes). LogLeadsBy g.S.Store.does (AreWrites ps) c.args.store.now c.write.new.self) (sym (named-more os i o c.loop-output-test.true c.output-item.is))
          (ran_write g.S.Store.does (map named_output (take i os)) (named_output o) c.args.store.now c.loop-output.store c.write.new.self c.loop-output.invariant.log logged);
      uncounted = c.in-Ok.ensures.uncounted ∙ c.loop-output.invariant.uncounted;
      counted = omega (arith, c.loop-output.invariant.counted, c.in-Ok.ensures.counted);
      place = omega (arith, c.loop-output.invariant.place);
    }

pub returns-in-Err-clause-stopped_log : goal.returns-in-Err-clause-stopped_log
returns-in-Err-clause-stopped_log g c =
    let os = c.args.outputs.now in
    let i = c.loop-output.output-index in
    ran_missed g.S.Store.does (map named_output os) (map named_output (take i os)) (named_output c.output-item.result) (map named_output (drop (suc i) os)) c.loop-output.place c.args.store.now c.loop-output.store c.write.new.self
    (named-split os i c.output-item.result c.loop-output-test.true c.output-item.is) (named-length os i c.loop-output-test.true ∙ sym c.loop-output.invariant.place)
    c.loop-output.invariant.log c.in-Err.ensures.missed
