use Rattle.std.proofs.Common.{◌∙◌, Some, ap, option_map, subst, sym}
use Rattle.std.proofs.lemmas.Option.{slice_get-get_or, slice_get-map}
use Rattle.cpm_store.specs.Writes.{named_output}
use Rattle.cpm_store.specs.declared.writes.Output.{Output}
use Rattle.cpm_commands.specs.Files.{IsUnwritten}
use Rattle.cpm_commands.proofs.files.write_outputs.Goals as goal

pub returns-in-Err-clause-refusal : goal.returns-in-Err-clause-refusal
returns-in-Err-clause-refusal g c =
    let outputs = c.args.outputs.now in
    let place = c.in-Err.error.place in
    let o = c.index-outputs-error.result in
    record {
      place = place;
      output = named_output o;
      there = slice_get-map named_output outputs place
          ∙ ap (option_map named_output) (slice_get-get_or outputs place o c.in-Err.ensures.place ∙ ap (λ (x : Output). Some x) (sym c.index-outputs-error.is));
      told = subst (λ (x : Output). IsUnwritten x.name.now c.unwritten.result) (sym c.index-outputs-error.is) c.unwritten.ensures;
      calls = c.in-Err.ensures.stopped_log;
    }
