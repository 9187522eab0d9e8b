use Rattle.std.proofs.Common.{◌∙◌, ap, map}
use Rattle.cpm_run.specs.Kept.{standing_view}
use Rattle.cpm_run.specs.Run.{reports_behind, reports_of}
use Rattle.cpm_run.specs.Settled.{SettledSession, settled_view, starts_of}
use Rattle.cpm_run.proofs.RestLemmas.{ok-by, same-bytes, same-sessions}
use Rattle.cpm_run.proofs.RunLemmas.{slot_unaccepted}
use Rattle.cpm_run.proofs.going_on.play_rest.Goals as goal

pub play_all-requires-clause-sessions : goal.play_all-requires-clause-sessions
play_all-requires-clause-sessions g c =
    let all = standing_view c.args.kept.now in
    ap (map (λ (i : SettledSession). i.session)) c.requires.rest ∙ same-sessions all (map settled_view c.args.inputs.now) all ∙ c.requires.sessions

pub whole_sessions-requires : goal.whole_sessions-requires
whole_sessions-requires g c =
    same-bytes c.args.system (map settled_view c.args.rest.items) c.in-Ok.played.0.items c.in-Ok.played.1.items c.in-Ok.ensures.reports c.in-Ok.ensures.files

pub returns-in-Err-clause-refused : goal.returns-in-Err-clause-refused
returns-in-Err-clause-refused g c =
    ok-by _ _ c.left_of_refused.result c.left_of_refused.ensures.refused
    (λ other left none accepted. slot_unaccepted c.args.config.now.sessions.items c.args.system c.args.config.now.frames (starts_of (map settled_view c.args.rest.items))
    c.in-Err.error c.in-Err.ensures.refusal other accepted)
