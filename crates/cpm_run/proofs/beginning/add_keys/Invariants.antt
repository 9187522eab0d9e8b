use Rattle.std.proofs.Common.{drop}
use Rattle.cpm_run.specs.Beginning.{key_behind, keys_behind}
use Rattle.cpm_run.proofs.BeginningLemmas.{ToldSome}
use Rattle.cpm_run.proofs.beginning.add_keys.Given as goal

abbrev pub invariant-loop-key : goal.invariant-loop-key
invariant-loop-key l = ToldSome key_behind l.fn.hasher l.hasher (λ message. keys_behind message l.keys) (drop l.key-index l.keys)
