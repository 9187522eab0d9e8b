use Rattle.std.proofs.Common.{ap, sym, ◌∙◌}
use Rattle.cpm_machine.specs.Step.{is_running}
use Rattle.cpm_play.proofs.CuedLemmas.{look-ended, not-running}
use Rattle.cpm_play.proofs.cued.runs.Goals as goal

pub returns-in-Running : goal.returns-in-Running
returns-in-Running c = sym (ap is_running (sym (look-ended c.args.machine.now c.look.result c.look.ensures) ∙ c.in-Running.is))

pub returns-in_default : goal.returns-in_default
returns-in_default c = sym (ap is_running (sym (look-ended c.args.machine.now c.look.result c.look.ensures)) ∙ not-running c.look.result.ended c.in_default.not-Running)
