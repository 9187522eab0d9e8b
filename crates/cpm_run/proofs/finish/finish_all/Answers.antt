use Rattle.std.proofs.Common.{Bool, subst}
use Rattle.std.specs.Vec.Iter.{into_iter_items}
use Rattle.cpm_run.proofs.FinishLemmas.{ClosesNextSlot, finished_early, finishing_more, none-finished, none_there}
use Rattle.cpm_run.proofs.finish.finish_all.Goals as goal

pub loop-session-init : goal.loop-session-init
loop-session-init c =
    none-finished c.args.sessions.now c.args.host.now.host c.args.players.items (into_iter_items c.into_iter-rest.result) c.new-reports.result.items c.new-files.result.items c.requires c.into_iter-rest.ensures.rest
    c.new-reports.ensures.items c.new-files.ensures.items

pub returns-in_default : goal.returns-in_default
returns-in_default c =
    let l = c.loop-session in
    let left = into_iter_items c.next_closed.new.players in
    let closing = subst (λ (b : Bool). ClosesNextSlot b l.host.host c.next_closed.new.host.host (into_iter_items l.rest) c.in_ok-ended.field-0 left) c.is_some-is_saved.ensures c.in_ok-ended.ensures.closed in
    finished_early c.args.sessions.now l.session-index c.session-item.result c.args.host.now.host l.host.host c.next_closed.new.host.host c.args.players.items c.in_ok-ended.field-0 left
    c.loop-session-test.true c.session-item.is (into_iter_items l.rest) l.reports.items l.files.items l.invariant closing (none_there c.in_ok-ended.field-0 c.in_default.not-Some)

pub loop-session-preserved : goal.loop-session-preserved
loop-session-preserved c =
    let l = c.loop-session in
    let made = c.in_ok-report in
    let left = into_iter_items c.next_closed.new.players in
    let closing = subst (λ (b : Bool). ClosesNextSlot b l.host.host c.next_closed.new.host.host (into_iter_items l.rest) c.in_ok-ended.field-0 left) c.is_some-is_saved.ensures c.in_ok-ended.ensures.closed in
    finishing_more c.args.sessions.now l.session-index c.session-item.result c.args.host.now.host l.host.host c.next_closed.new.host.host c.args.players.items c.in_ok-ended.field-0 left
    c.loop-session-test.true c.session-item.is c.in-Some.ended (into_iter_items l.rest) l.reports.items c.push.new.self.items l.files.items c.push-in-loop-session.new.self.items made.report made.left
    c.next_closed.ensures.system l.invariant closing c.in-Some.is made.ensures.report made.ensures.files c.in_ok-push.ensures.items c.in_ok-push-2.ensures.items
