use Rattle.std.proofs.Common.{◌≡◌, ◌+◌, ◌++◌, drop, map}
use Rattle.toml.specs.View.{items_view}
use Rattle.cpm_config.specs.Entries.{result_map, session_draft_view, sessions_of}
use Rattle.cpm_config.proofs.draft.add_sessions.Given as goal

abbrev pub invariant-loop-value : goal.invariant-loop-value
invariant-loop-value l = record {
  same : result_map (λ ss. map session_draft_view l.sessions.items ++ ss) (sessions_of (l.number + 1) (items_view (drop l.value-index l.values))) ≡ sessions_of 1 (items_view l.values);
  count : l.number ≡ l.value-index;
}
