use Rattle.std.proofs.Common.{◌≡◌, ◌∷◌, [], map, take}
use Rattle.cpm_store.specs.Writes.{named_output}
use Rattle.cpm_commands.specs.Get.{naming_of}
use Rattle.cpm_commands.specs.Plan.{all_planned, plan_view, planned}
use Rattle.cpm_commands.specs.declared.plan.FileRole.TheVariants.{Image, Plain}
use Rattle.cpm_commands.proofs.get.plan_of.Given as goal

abbrev pub invariant-loop-output : goal.invariant-loop-output
invariant-loop-output l = record {
  inputs : (plan_view l.plan).inputs ≡ planned l.image Image ∷ [];
  outputs : (plan_view l.plan).outputs ≡ all_planned Plain (map (λ p. p.0) (map named_output (take l.output-index l.outputs)));
  naming : (plan_view l.plan).naming ≡ naming_of l.is_forced;
}
