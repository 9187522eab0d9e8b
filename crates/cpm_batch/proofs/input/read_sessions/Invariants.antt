use Rattle.std.proofs.Common.{◌≡◌, ◌+◌, [], None, Ok, drop, map, take}
use Rattle.cpm_config.specs.Rules.{forks_fault, session_view}
use Rattle.cpm_store.specs.Log.{LogLeadsBy}
use Rattle.cpm_batch.specs.Inputs.{AllInputs, given}
use Rattle.cpm_batch.specs.Reads.{AreInputsRead, OnlyRead}
use Rattle.cpm_batch.proofs.input.read_sessions.Given as goal

abbrev pub invariant-loop-session : goal.invariant-loop-session
invariant-loop-session g l = record {
  inputs : AllInputs (g.S.Store.files l.store) l.replays [] (map given l.inputs.items);
  forks : forks_fault (l.session-index + 1) (map session_view (take l.session-index l.sessions)) (map session_view (drop l.session-index l.sessions)) ≡ None;
  sessions : map (λ i. i.session) (map given l.inputs.items) ≡ take l.session-index l.sessions;
  log : LogLeadsBy g.S.Store.does (AreInputsRead l.replays [] (map given l.inputs.items)) l.fn.store l.store;
  store : OnlyRead g.S.Store.does g.S.Store.files g.S.Store.failed (Ok l.inputs) l.fn.store l.store;
}
