use Rattle.cpm_bdos.proofs.WaitLaws.{IsWaiting-now}
use Rattle.cpm_bdos.proofs.wait.waits.Goals as goal

pub returns-clause-step : goal.returns-clause-step
returns-clause-step g c = rw c.is_waiting.ensures (IsWaiting-now c.args.session.now (g.M.Memory.contents c.args.memory.now))
