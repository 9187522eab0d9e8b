use Rattle.std.proofs.Common.{◌∙◌, sym}
use Rattle.cpm_script.proofs.KeyLemmas.{is_some-first, not_empty}
use Rattle.cpm_script.proofs.keys.are_keys.Goals as goal

pub loop-rest-preserved : goal.loop-rest-preserved
loop-rest-preserved c =
    let rest = c.loop-rest.rest.now in
    sym (is_some-first rest _ c.in-Some.after.now (not_empty rest c.loop-rest-test.ensures) (sym c.in-Some.ensures)) ∙ c.loop-rest.invariant
