use Rattle.std.proofs.Common.{◌∙◌, ◌+◌, ap, drop, refl, sym}
use Rattle.std.proofs.lemmas.List.{at_drop_more}
use Rattle.clap.specs.Words.{App, app_of, with_rule}
use Rattle.cpm_command_line.specs.Arguments.{with_arguments}
use Rattle.cpm_command_line.proofs.build.command_of.Goals as goal

pub loop-argument-preserved : goal.loop-argument-preserved
loop-argument-preserved c =
    let old = app_of c.loop-argument.command in
    let i = c.loop-argument.argument-index in
    let arguments = c.args.arguments.now in
    let added = c.in_ok-command.ensures in
    let shape = added.shape c.argument_of.ensures.own ∙ ap (with_rule old) c.argument_of.ensures.rule in (
      ap (λ (a : App). with_arguments a (drop (i + 1) arguments)) shape ∙ sym (at_drop_more (with_arguments old) arguments i _ c.loop-argument-test.true)
          ∙ c.loop-argument.invariant.0,
      added.globals ∙ rw (c.loop-argument.invariant.1, c.argument_of.ensures.own) refl,
    )
