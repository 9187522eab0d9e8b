use Rattle.std.proofs.Common.{List, subst}
use Rattle.std.specs.Prelude.{map}
use Rattle.cpm_batch.specs.Inputs.{start_view}
use Rattle.cpm_play.specs.Playing.{HaveRoom, IsInOrder}
use Rattle.cpm_run.proofs.PressableLemmas.{own-pressable}
use Rattle.cpm_run.proofs.pressable.is_pressable.Goals as goal
use Rattle.cpm_run.specs.Settled.{opening_of, settled_view}
use Rattle.cpm_script.specs.declared.script.Key.{Key}

pub returns-in_default-clause-can : goal.returns-in_default-clause-can
returns-in_default-clause-can c = λ can system.
    let both = c.is_own_pressable.ensures.can can system in
    own-pressable system (map settled_view c.args.inputs.now) c.args.input.now.start (settled_view c.args.input.now) c.in_default.not-Forked
    (subst (λ (ks : List Key). IsInOrder 0 ks) c.as_slice.ensures.value both.0)
    (subst (λ (ks : List Key). HaveRoom system (opening_of (start_view c.args.input.now.start)) ks) c.as_slice.ensures.value both.1)
