use Rattle.std.proofs.Common.{◌≡◌, [], map, take}
use Rattle.cpm_store.specs.Writes.{named_output}
use Rattle.cpm_commands.specs.Plan.{all_planned, plan_view}
use Rattle.cpm_commands.specs.declared.plan.FileRole.TheVariants.{Plain}
use Rattle.cpm_commands.specs.declared.plan.OutputNaming.TheVariants.{ReplacesPlain}
use Rattle.cpm_commands.proofs.left.plan_of_left.Given as goal

abbrev pub invariant-loop-output : goal.invariant-loop-output
invariant-loop-output l = record {
  inputs : (plan_view l.plan).inputs ≡ [];
  outputs : (plan_view l.plan).outputs ≡ all_planned Plain (map (λ p. p.0) (map named_output (take l.output-index l.outputs)));
  naming : (plan_view l.plan).naming ≡ ReplacesPlain;
}
