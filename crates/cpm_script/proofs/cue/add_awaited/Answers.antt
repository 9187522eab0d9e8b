use Rattle.std.proofs.Common.{sym, subst}
use Rattle.cpm_script.specs.KeyText.{keys_of}
use Rattle.cpm_script.specs.Cues.{AddsCues, all_said}
use Rattle.cpm_script.proofs.CueLemmas.{awaited-none, awaited-some}
use Rattle.cpm_script.proofs.cue.add_awaited.Goals as goal

pub returns-then-not-are_keys-clause-added : goal.returns-then-not-are_keys-clause-added
returns-then-not-are_keys-clause-added c =
    awaited-none (all_said c.args.reading.now.cues) (keys_of c.args.shown.now) c.args.text.now (sym c.if-not-are_keys.ensures)

pub returns-in-Ok-clause-added : goal.returns-in-Ok-clause-added
returns-in-Ok-clause-added c =
    subst (λ read. AddsCues read c.add_text.result (all_said c.add_text.new.reading.cues))
    (sym (awaited-some (all_said c.args.reading.now.cues) (all_said c.push_wait.new.reading.cues) (keys_of c.args.shown.now) c.args.text.now c.in-Ok.ensures.added))
    c.add_text.ensures.added
