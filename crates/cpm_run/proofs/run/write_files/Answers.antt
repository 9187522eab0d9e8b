use Rattle.std.proofs.Common.{◌∙◌, ap, sym}
use Rattle.std.specs.Prelude.{chars}
use Rattle.cpm_shown.specs.Shown.{shown_of}
use Rattle.cpm_store.specs.declared.writes.Output.{Output}
use Rattle.cpm_run.proofs.RunLemmas.{output_at}
use Rattle.cpm_run.proofs.run.write_files.Goals as goal

pub returns-in-Device-clause-refusal : goal.returns-in-Device-clause-refusal
returns-in-Device-clause-refusal g c =
    let place = c.in-Err.error.place in
    let told = c.shown.ensures ∙ ap (λ (o : Output). shown_of (chars o.name.now)) (sym c.index-outputs-error.is) in (
      place,
      output_at c.args.outputs.now place c.index-outputs-error.result c.shown.result.bytes c.in-Err.ensures.place c.index-outputs-error.is told,
      c.in-Err.ensures.stopped,
      c.in-Err.ensures.stopped_log,
    )
