use Rattle.std.proofs.Common.{◌∙◌, ap, map, subst, sym, List}
use Rattle.cpm_script.specs.Cues.{cue_text}
use Rattle.cpm_script.specs.Laws.{KeysAreAscii}
use Rattle.cpm_script.specs.declared.cue.Cue.{Cue}
use Rattle.cpm_script.specs.declared.cue.Cue.TheVariants.{Key as Timed}
use Rattle.cpm_host.proofs.ProgramLemmas.{typed-fit}
use Rattle.cpm_host.proofs.program.recorded_cues_of.Goals as goal

pub returns-in_ok-timed_cues-in-Ok-clause-fit : goal.returns-in_ok-timed_cues-in-Ok-clause-fit
returns-in_ok-timed_cues-in-Ok-clause-fit c =
    let typed = rw c.in-Ok.ensures.read at (c.recordings_in_order.ensures c.args.text.now) in
    record {
      ascii = subst (λ (cs : List Cue). KeysAreAscii (map cue_text cs)) (sym (c.in_ok-timed_cues-in-Ok.ensures ∙ ap (map Timed) c.as_slice.ensures.value))
          (typed-fit 0 c.in-Ok.keys.items typed);
    }
