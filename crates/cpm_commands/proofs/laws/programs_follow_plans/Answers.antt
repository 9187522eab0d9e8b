use Rattle.cpm_commands.specs.Drives.{HasToldLeftOut}
use Rattle.cpm_commands.proofs.PlanLemmas.{programs_follow}
use Rattle.cpm_commands.proofs.laws.programs_follow_plans.Goals as goal

pub returns : goal.returns
returns g c = λ typed untold told task. programs_follow (record {
  does = g.F.Store.does;
  sees_to = g.F.CommandFiles.sees_to;
  tells_folder = g.F.CommandFiles.tells_folder;
  lists = g.F.CommandFiles.lists;
  unlists = g.F.CommandFiles.unlists;
  told_left_out = λ places. HasToldLeftOut g.T.Messages.tells untold places;
}) g.F.CommandFiles.gives_names _ _
