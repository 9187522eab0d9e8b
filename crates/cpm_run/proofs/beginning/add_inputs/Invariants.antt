use Rattle.std.proofs.Common.{drop, map}
use Rattle.cpm_run.specs.Beginning.{each_behind, input_behind}
use Rattle.cpm_run.specs.Settled.{settled_view}
use Rattle.cpm_run.proofs.BeginningLemmas.{ToldSome}
use Rattle.cpm_run.proofs.beginning.add_inputs.Given as goal

abbrev pub invariant-loop-input : goal.invariant-loop-input
invariant-loop-input l = ToldSome input_behind l.fn.hasher l.hasher (λ message. each_behind input_behind message (map settled_view l.inputs)) (map settled_view (drop l.input-index l.inputs))
