use Rattle.std.proofs.Common.{◌≡◌, ◌+◌, ◌++◌, drop, map}
use Rattle.cpm_config.specs.Rules.{name_placed, session_names, session_view}
use Rattle.cpm_config.proofs.names.session_names.Given as goal

abbrev pub invariant-loop-session : goal.invariant-loop-session
invariant-loop-session l = record {
  same : map name_placed l.names.items ++ session_names (l.number + 1) (map session_view (drop l.session-index l.sessions)) ≡ session_names 1 (map session_view l.sessions);
  count : l.number ≡ l.session-index;
}
