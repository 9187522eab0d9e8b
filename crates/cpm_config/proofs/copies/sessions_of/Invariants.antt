use Rattle.std.proofs.Common.{◌≡◌, ◌+◌, None, take, drop, map}
use Rattle.cpm_config.specs.Entries.{session_draft_view}
use Rattle.cpm_config.specs.Rules.{session_view, sessions_fault}
use Rattle.cpm_config.proofs.copies.sessions_of.Given as goal

abbrev pub invariant-loop-draft : goal.invariant-loop-draft
invariant-loop-draft l = record {
  same : map session_view l.sessions.items ≡ map session_draft_view (take l.draft-index l.drafts);
  good : sessions_fault (l.draft-index + 1) (map session_draft_view (take l.draft-index l.drafts)) (map session_draft_view (drop l.draft-index l.drafts)) ≡ None;
}
