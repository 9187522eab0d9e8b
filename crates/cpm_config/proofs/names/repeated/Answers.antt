use Rattle.std.proofs.Common.{ℕ, true, false, take, ap, ◌∙◌, sym, arith}
use Rattle.std.specs.List.{list_any}
use Rattle.std.specs.Str.{bytes_eq}
use Rattle.cpm_config.proofs.NameLemmas.{at, repeated-step}
use Rattle.cpm_config.proofs.names.repeated.Goals as goal

pub returns-then-is_among : goal.returns-then-is_among
returns-then-is_among c =
    let ns = c.args.names.now in
    let i = c.loop-named.named-index in
    sym (repeated-step ns i true c.loop-named-test.true
    (c.if-is_among.ensures ∙ ap (λ (k : ℕ). list_any (λ n. bytes_eq n.name.now (at ns i).name.now) (take k ns)) c.loop-named.invariant.count))
    ∙ c.loop-named.invariant.same

pub loop-named-preserved : goal.loop-named-preserved
loop-named-preserved c =
    let ns = c.args.names.now in
    let i = c.loop-named.named-index in
    record {
      same = sym (repeated-step ns i false c.loop-named-test.true
          (c.if-is_among.ensures ∙ ap (λ (k : ℕ). list_any (λ n. bytes_eq n.name.now (at ns i).name.now) (take k ns)) c.loop-named.invariant.count))
          ∙ c.loop-named.invariant.same;
      count = omega (arith, c.loop-named.invariant.count);
    }
