use Rattle.std.proofs.Common.{◌≡◌, ◌+◌, [], take, drop, map}
use Rattle.cpm_config.specs.Entries.{session_draft_view}
use Rattle.cpm_config.specs.Rules.{sessions_fault}
use Rattle.cpm_config.proofs.ranges.sessions_fault.Given as goal

abbrev pub invariant-loop-session : goal.invariant-loop-session
invariant-loop-session l = record {
  same : sessions_fault (l.count + 1) (map session_draft_view (take l.session-index l.sessions)) (map session_draft_view (drop l.session-index l.sessions)) ≡ sessions_fault 1 [] (map session_draft_view l.sessions);
  count : l.count ≡ l.session-index;
}
