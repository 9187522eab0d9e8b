use Rattle.std.specs.Prelude.{option_map}
use Rattle.cpm_machine.specs.SystemDigest.{system_digest}
use Rattle.cpm_run.specs.Kept.{kept_view, standing_view}
use Rattle.cpm_run.proofs.RestLemmas.{over-all, over-more}
use Rattle.cpm_run.proofs.going_on.are_over.Goals as goal

pub loop-place-preserved : goal.loop-place-preserved
loop-place-preserved c =
    over-more c.digest_of-digest.result (standing_view c.args.kept.now) c.loop-place.place (option_map (λ k. kept_view k.now) c.kept_at.result) c.kept_at.ensures (c.is_over.ensures.over c.if-not-is_over.false)
    c.loop-place.invariant

pub returns-clause-over : goal.returns-clause-over
returns-clause-over c = λ _. over-all c.digest_of-digest.result (system_digest c.args.system.now) c.args.kept.now c.loop-place.place c.digest_of-digest.ensures c.loop-place-test.false c.loop-place.invariant
