use Rattle.std.proofs.Common.{◌≡◌, Option, Some, ap, map, subst}
use Rattle.std.specs.Prelude.{IfSome}
use Rattle.cpm_batch.specs.Outputs.{left_by}
use Rattle.cpm_run.specs.Kept.{standing_view}
use Rattle.cpm_run.specs.Rest.{rest_of}
use Rattle.cpm_run.specs.Run.{AreRestorable, files_from, report_view, reports_from}
use Rattle.cpm_run.specs.Settled.{settled_view}
use Rattle.cpm_run.specs.Pressable.{ArePressable}
use Rattle.cpm_run.proofs.RestLemmas.{AreOver, left_by_rest}
use Rattle.cpm_run.proofs.going_on.play_from.Goals as goal

pub returns-in-Some-clause-left : goal.returns-in-Some-clause-left
returns-in-Some-clause-left g c =
    let s = standing_view c.args.kept.now in
    let drive = c.in_ok-drive.drive in
    let sessions = map settled_view c.as_slice-sessions.result.now in
    left_by_rest c.args.system drive c.args.config.now.frames (map settled_view c.args.inputs.items) sessions (map settled_view c.in_ok-rest.rest.items) s (map report_view c.in-Some.left.0.items)
    (map left_by c.in-Some.left.1.items) c.in_ok-drive.ensures (ap (map settled_view) c.as_slice-sessions.ensures.value) c.in_ok-rest.ensures
    (subst (λ is. AreOver c.args.system s × ArePressable c.args.system (map settled_view is)) c.as_slice.ensures.value (c.in_ok-can_go_on.ensures.can c.if-not-branch.false))
    (subst (λ left. IfSome left (λ p. map report_view p.0.items ≡ reports_from drive sessions (Some s))) c.in-Some.is c.in_ok-left.ensures.reports)
    (subst (λ left. IfSome left (λ p. map left_by p.1.items ≡ files_from drive sessions (Some s))) c.in-Some.is c.in_ok-left.ensures.files)
    (subst (λ left. IfSome left (λ p. AreRestorable drive (rest_of sessions s))) c.in-Some.is c.in_ok-left.ensures.savings)
