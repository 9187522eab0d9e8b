use Rattle.std.proofs.Common.{◌∙◌, ◌+◌, ap, drop, refl, sym}
use Rattle.std.proofs.lemmas.List.{at_drop_more}
use Rattle.clap.specs.Words.{App, app_of}
use Rattle.cpm_command_line.specs.Arguments.{with_commands}
use Rattle.cpm_command_line.proofs.build.command_with.Goals as goal

pub loop-inner-preserved : goal.loop-inner-preserved
loop-inner-preserved c =
    let old = app_of c.loop-inner.command in
    let i = c.loop-inner.inner-index in
    let commands = c.args.commands.now in
    let added = c.in_ok-command.ensures old (record { app = refl; globals = c.loop-inner.invariant.1 }) in (
      ap (λ (a : App). with_commands a (drop (i + 1) commands)) added.app ∙ sym (at_drop_more (with_commands old) commands i _ c.loop-inner-test.true)
          ∙ c.loop-inner.invariant.0,
      added.globals,
    )
