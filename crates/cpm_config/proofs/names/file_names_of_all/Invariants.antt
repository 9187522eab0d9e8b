use Rattle.std.proofs.Common.{◌≡◌, ◌+◌, ◌++◌, drop, map}
use Rattle.cpm_config.specs.Rules.{name_placed, file_names_of_all, session_view}
use Rattle.cpm_config.proofs.names.file_names_of_all.Given as goal

abbrev pub invariant-loop-session : goal.invariant-loop-session
invariant-loop-session l = record {
  same : map name_placed l.names.items ++ file_names_of_all (l.number + 1) (map session_view (drop l.session-index l.sessions)) ≡ file_names_of_all 1 (map session_view l.sessions);
  count : l.number ≡ l.session-index;
}
