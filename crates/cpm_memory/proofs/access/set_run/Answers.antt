use Rattle.std.proofs.Common.{take, get_or, arith, subst, ap, sym, ◌∙◌}
use Rattle.cpm_memory.specs.Contents.{IsContents, after_set, after_sets, run_puts}
use Rattle.cpm_memory.proofs.Stores.{stored-more, CanSet-stored}
use Rattle.cpm_memory.proofs.access.set_run.Goals as goal

pub set-requires : goal.set-requires
set-requires g c =
    let i = c.loop-byte.invariant in
    rw i.run
    (CanSet-stored (g.M.Memory.contents c.args.memory.now) c.args.address (take c.loop-byte.byte-index c.args.bytes.now) c.loop-byte.target (subst IsContents i.run (g.met.M.Memory.sound c.loop-byte.memory)) (omega arith) c.requires)

pub loop-byte-preserved : goal.loop-byte-preserved
loop-byte-preserved g c =
    let i = c.loop-byte.invariant in
    let old = g.M.Memory.contents c.args.memory.now in
    let n = c.loop-byte.byte-index in
    let bs = c.args.bytes.now in
    let a = c.args.address in
    record {
      run = c.set.ensures.contents
          ∙ (ap (λ x. after_set x c.loop-byte.target (get_or bs n 0)) i.run
          ∙ (ap (λ k. after_set (after_sets old (run_puts a (take n bs))) k (get_or bs n 0)) i.target
          ∙ sym (stored-more old a bs n (omega arith) (omega arith))));
      leads = g.met.M.Memory.leads_on c.args.memory.now c.loop-byte.memory c.set.new.self i.leads c.set.ensures.leads;
      target = omega (arith, i.target);
    }
