use Rattle.std.proofs.Common.{◌≡◌, List, ℕ, [], ◌∷◌, ◌++◌, length, arith, refl, ap, sym, ◌∙◌}
use Rattle.std.proofs.lemmas.List.{take_more_set, take_all}
use Rattle.cpm_memory.specs.Contents.{byte_at, run_at}
use Rattle.cpm_memory.proofs.Runs.{run_at-more}
use Rattle.cpm_memory.proofs.access.get_run.Goals as goal

pub loop-byte-init : goal.loop-byte-init
unfolding run_at
loop-byte-init g c = record { run = refl; source = omega arith }

pub loop-byte-preserved : goal.loop-byte-preserved
loop-byte-preserved g c =
    let i = c.loop-byte.invariant in
    let m = g.M.Memory.contents c.args.memory.now in
    let n = c.loop-byte.byte-index in
    let a = c.args.address in
    record {
      run = take_more_set c.loop-byte.out n c.get.result (omega arith)
          ∙ (ap (λ (bs : List ℕ). bs ++ c.get.result ∷ []) i.run
          ∙ (ap (λ (b : ℕ). run_at m a n ++ b ∷ []) c.get.ensures
          ∙ (ap (λ (k : ℕ). run_at m a n ++ byte_at m k ∷ []) i.source
          ∙ sym (run_at-more m a n (omega arith)))));
      source = omega (arith, i.source);
    }

pub returns : goal.returns
returns g c =
    let end : c.loop-byte.byte-index ≡ length c.args.out.now = omega arith in
    sym (take_all c.loop-byte.byte-index c.loop-byte.out (omega arith)) ∙ (c.loop-byte.invariant.run
    ∙ ap (λ (n : ℕ). run_at (g.M.Memory.contents c.args.memory.now) c.args.address n) end)
