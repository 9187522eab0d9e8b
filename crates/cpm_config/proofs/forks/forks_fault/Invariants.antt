use Rattle.std.proofs.Common.{◌≡◌, ◌+◌, [], take, drop, map}
use Rattle.cpm_config.specs.Rules.{forks_fault, session_view}
use Rattle.cpm_config.proofs.forks.forks_fault.Given as goal

abbrev pub invariant-loop-session : goal.invariant-loop-session
invariant-loop-session l = record {
  same : forks_fault (l.count + 1) (map session_view (take l.session-index l.sessions)) (map session_view (drop l.session-index l.sessions)) ≡ forks_fault 1 [] (map session_view l.sessions);
  count : l.count ≡ l.session-index;
}
