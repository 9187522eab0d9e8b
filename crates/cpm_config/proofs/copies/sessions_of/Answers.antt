use Rattle.std.proofs.Common.{◌+◌}
use Rattle.cpm_config.specs.Entries.{session_draft_view}
use Rattle.cpm_config.specs.Rules.{session_fault}
use Rattle.cpm_config.proofs.FaultLemmas.{faultless_step}
use Rattle.cpm_config.proofs.RuleLemmas.{good-session}
use Rattle.cpm_config.proofs.copies.sessions_of.Goals as goal

pub session_of-requires-clause-origin : goal.session_of-requires-clause-origin
session_of-requires-clause-origin c =
    let i = c.loop-draft.draft-index in
    let step = faultless_step session_draft_view session_fault (i + 1) c.args.drafts.now i c.draft-item.result c.loop-draft-test.true c.draft-item.is c.loop-draft.invariant.good in
    (good-session _ _ step.0).origin

pub session_of-requires-clause-steps : goal.session_of-requires-clause-steps
session_of-requires-clause-steps c =
    let i = c.loop-draft.draft-index in
    let step = faultless_step session_draft_view session_fault (i + 1) c.args.drafts.now i c.draft-item.result c.loop-draft-test.true c.draft-item.is c.loop-draft.invariant.good in
    (good-session _ _ step.0).steps
