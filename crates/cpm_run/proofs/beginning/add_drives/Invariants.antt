use Rattle.std.proofs.Common.{drop}
use Rattle.cpm_run.specs.Beginning.{drive_behind, drives_behind}
use Rattle.cpm_run.proofs.BeginningLemmas.{ToldSome}
use Rattle.cpm_run.proofs.beginning.add_drives.Given as goal

abbrev pub invariant-loop-drive : goal.invariant-loop-drive
invariant-loop-drive l = ToldSome drive_behind l.fn.hasher l.hasher (λ message. drives_behind message l.drives) (drop l.drive-index l.drives)
