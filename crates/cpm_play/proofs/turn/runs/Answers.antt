use Rattle.std.proofs.Common.{◌≡◌, ◌∙◌, false, ap, sym}
use Rattle.cpm_machine.specs.Step.{is_running}
use Rattle.cpm_machine.specs.declared.reply.End.{End}
use Rattle.cpm_play.proofs.CuedLemmas.{not-running}
use Rattle.cpm_play.proofs.HostLemmas.{looks, seen-ended}
use Rattle.cpm_play.proofs.turn.runs.Goals as goal

pub returns-in_default-clause-runs : goal.returns-in_default-clause-runs
returns-in_default-clause-runs c = λ s at. absurd (looks c.args.host.now.host c.args.id.0 c.in_default.field-0 s c.in_default.ensures.reply at)

pub returns-in-Running-clause-runs : goal.returns-in-Running-clause-runs
returns-in-Running-clause-runs c = λ s at. ap is_running (sym c.in-Running.is ∙ seen-ended c.args.host.now.host c.args.id.0 c.in-Ok.look s c.in-Ok.ensures.reply at)

pub returns-in_default-ended : goal.returns-in_default-ended
returns-in_default-ended c = record {
  runs = λ s at.
      let ended : is_running c.in-Ok.look.ended ≡ false = not-running c.in-Ok.look.ended c.in_default-ended.not-Running in
      sym ended ∙ ap is_running (seen-ended c.args.host.now.host c.args.id.0 c.in-Ok.look s c.in-Ok.ensures.reply at);
  unchanged = c.in-Ok.ensures.unchanged;
}
