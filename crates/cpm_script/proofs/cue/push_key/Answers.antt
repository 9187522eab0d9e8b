use Rattle.std.proofs.Common.{◌∙◌, ap, ◌++◌, ◌∷◌, []}
use Rattle.cpm_script.specs.Cues.{all_said}
use Rattle.cpm_script.proofs.CueLemmas.{key-pushed, said-pushed}
use Rattle.cpm_script.proofs.cue.push_key.Goals as goal

pub returns-clause-reading : goal.returns-clause-reading
returns-clause-reading c =
    let old = c.args.reading.now in
    let added = said-pushed old.cues c.push.new.self c.key_cue.result c.in_ok-push.ensures.items ∙ ap (λ x. all_said old.cues ++ x ∷ []) c.key_cue.ensures in
    rw c.unwrap_or-reading.ensures (key-pushed old c.push.new.self c.args.at c.args.byte c.requires.reading c.requires.room added)
