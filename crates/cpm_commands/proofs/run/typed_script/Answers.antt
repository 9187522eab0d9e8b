use Rattle.std.proofs.Common.{◌∙◌, ap, option_map, sym}
use Rattle.std.proofs.lemmas.Slice.Zip.{either_empty_from_Zip}
use Rattle.cpm_commands.specs.Typed.{typed_script}
use Rattle.cpm_commands.proofs.ListLemmas.{zip_ended}
use Rattle.cpm_commands.proofs.run.typed_script.Goals as goal

pub returns : goal.returns
returns c =
    let l = c.loop-session in
    let ended = zip_ended _ _ (either_empty_from_Zip l.session-iterator c.next.new.self c.next.result c.in-None.is c.next.ensures.steps) in
    sym (ap (typed_script (option_map (λ n. n.now) c.args.typed)) ended) ∙ l.invariant
