use Rattle.cpm_commands.proofs.PlanLemmas.{runs_follow}
use Rattle.cpm_commands.proofs.laws.runs_follow_plans.Goals as goal

pub returns : goal.returns
returns g c = λ stood typed told. runs_follow (record { does = g.F.Store.does; files = g.F.Store.files }) g.F.CommandFiles.sees_to g.F.CommandFiles.gives_names g.F.CommandFiles.tells_name stood _ _
