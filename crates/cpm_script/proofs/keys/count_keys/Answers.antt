use Rattle.std.proofs.Common.{◌∙◌, ◌+◌, List, ℕ, arith, ap, length, option_map, sym}
use Rattle.cpm_script.specs.KeyText.{keys_of}
use Rattle.cpm_script.proofs.KeyLemmas.{counted-first, first_key-shorter, fronted, keys_of-first, not_empty}
use Rattle.cpm_script.proofs.keys.count_keys.Goals as goal

pub loop-rest-preserved : goal.loop-rest-preserved
loop-rest-preserved c =
    let rest = c.loop-rest.rest.now in
    let after = c.in_ok-after.after.now in
    let first = keys_of-first rest (not_empty rest c.loop-rest-test.ensures) ∙ ap fronted (sym c.in_ok-after.ensures) in
    record {
      same = counted-first c.loop-rest.count c.in_ok-after.field-0-0 (keys_of after)
          ∙ ap (option_map (λ (ks : List ℕ). c.loop-rest.count + length ks)) (sym first) ∙ c.loop-rest.invariant.same;
      fits = omega (arith, first_key-shorter rest after c.in_ok-after.field-0-0 (sym c.in_ok-after.ensures));
    }
