use Rattle.std.proofs.Common.{None, subst}
use Rattle.std.proofs.lemmas.Result.{IfErr-weaker}
use Rattle.cpm_commands.specs.Left.IsSeenUnwritten.{NotWritten}
use Rattle.cpm_commands.specs.Plan.{Plan}
use Rattle.cpm_commands.proofs.left.write_seen.Goals as goal

pub returns-clause-refusal : goal.returns-clause-refusal
returns-clause-refusal g c =
    let seen = c.see_to.new.self in
    let sees = subst (λ (p : Plan). g.F.CommandFiles.sees_to c.args.files.now p None seen) c.in_ok-plan.ensures c.in_ok-see_to.ensures.seen in
    IfErr-weaker c.write_named.result _ _ (λ e h. NotWritten seen sees h) c.write_named.ensures.refusal
