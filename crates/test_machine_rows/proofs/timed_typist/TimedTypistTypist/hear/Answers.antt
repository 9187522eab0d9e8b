use Rattle.std.proofs.Common.{◌∙◌, refl}
use Rattle.test_machine_rows.proofs.TypistLemmas.{key_fits, key_is_heard}
use Rattle.test_machine_rows.proofs.timed_typist.TimedTypistTypist.hear.Goals as goal

pub returns-in-Some-key : goal.returns-in-Some-key
returns-in-Some-key c = record {
  heard = key_is_heard c.args.count c.in-Some-key.byte _ _ (c.key.ensures.still ∙ c.is_due.ensures) c.in-Some-key.ensures.key.0 c.in-Some-key.ensures.key.1;
  fits = key_fits c.args.need c.in-Some-key.byte c.in_default-need.not-Pending;
  patient = λ e. absurd (let bad : ⊥ = cc in bad);
  nature = refl;
  none = tt;
  early = λ e. tt;
}
