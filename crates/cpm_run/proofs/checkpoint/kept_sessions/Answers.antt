use Rattle.std.proofs.Common.{◌≡◌, ◌∙◌, ◌∷◌, [], ap, List, Option, Some, map, option_map, subst, sym, take, ◌+◌}
use Rattle.std.proofs.lemmas.List.{map-append}
use Rattle.cpm_checkpoint.specs.CheckpointBytes.{session_value, session_values}
use Rattle.cpm_checkpoint.specs.declared.checkpoint.CheckpointSession.{CheckpointSession}
use Rattle.cpm_run.specs.Kept.{kept_view, standing_view}
use Rattle.cpm_run.specs.Rest.{standing_read}
use Rattle.cpm_run.specs.declared.standing.KeptSession.{KeptSession}
use Rattle.cpm_run.proofs.CheckpointLemmas.{none_left, read-more, read-none}
use Rattle.cpm_run.proofs.checkpoint.kept_sessions.Goals as goal

pub loop-session-preserved : goal.loop-session-preserved
loop-session-preserved c =
    let all = c.args.checkpoint.now.sessions.items in
    let i = c.loop-session.session-index in
    subst (λ (cs : List (Option CheckpointSession)). standing_read (session_values (take (i + 1) cs)) ≡ Some (standing_view c.push.new.self.items)) c.deref-session-items.ensures.value
    (read-more c.deref-session-items.result.now i c.session-item.result (standing_view c.loop-session.kept.items) (standing_view c.push.new.self.items) (option_map kept_view c.in-Some.session)
    c.loop-session-test.true c.session-item.is
    (subst (λ (cs : List (Option CheckpointSession)). standing_read (session_values (take i cs)) ≡ Some (standing_view c.loop-session.kept.items)) (sym c.deref-session-items.ensures.value) c.loop-session.invariant)
    (c.in_ok-session.ensures ∙ ap (option_map (λ (s : Option KeptSession). option_map kept_view s)) c.in-Some.is)
    (ap standing_view c.in_ok-push.ensures.items ∙ map-append (option_map kept_view) c.loop-session.kept.items (c.in-Some.session ∷ [])))

pub returns-in_default : goal.returns-in_default
returns-in_default c =
    ap (λ (cs : List (Option CheckpointSession)). standing_read (session_values cs)) (sym c.deref-session-items.ensures.value)
    ∙ read-none c.deref-session-items.result.now c.loop-session.session-index c.session-item.result c.loop-session-test.true c.session-item.is
    (c.in_ok-session.ensures ∙ ap (option_map (λ (s : Option KeptSession). option_map kept_view s)) (none_left c.in_ok-session.field-0 c.in_default.not-Some))
