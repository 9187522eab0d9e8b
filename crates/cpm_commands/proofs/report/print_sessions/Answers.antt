use Rattle.std.proofs.Common.{◌∙◌, List, ap, subst, sym}
use Rattle.std.proofs.KnownBytes.{Appends-nil, Appends-trans}
use Rattle.std.proofs.lemmas.Slice.Zip.{Zip-more, either_empty_from_Zip}
use Rattle.std.specs.Io.KnownBytes.{Appends}
use Rattle.std.specs.Iterator.Adapters.{zip_first, zip_second}
use Rattle.std.specs.List.{zip}
use Rattle.std.specs.Slice.Iter.{iter_rest}
use Rattle.cpm_run.specs.Run.{report_view}
use Rattle.cpm_run.specs.declared.report.SessionReport.{SessionReport}
use Rattle.cpm_run.specs.declared.report.SessionStop.{SessionStop}
use Rattle.cpm_commands.specs.Report.{report_line, report_text}
use Rattle.cpm_commands.proofs.ListLemmas.{zip_ended, zip_turned}
use Rattle.cpm_commands.proofs.report.print_sessions.Goals as goal

pub loop-session-init : goal.loop-session-init
loop-session-init g c =
    let given = c.into_iter-session-iterator.ensures.into_iter_gives in
    let first = ap (λ z. iter_rest (zip_first z)) given ∙ ap iter_rest c.zip-session-items.ensures.first ∙ c.iter.ensures.rest ∙ c.deref.ensures.value in
    let second = ap (λ z. iter_rest (zip_second z)) given ∙ c.zip-session-items.ensures.second.0 in
    λ printed h. subst (λ (zs : List (SessionReport × SessionStop)). Appends (g.W.Write.contents c.args.out.now) printed (report_text zs)) (λ i. zip (first i) (second i)) h

pub loop-session-preserved : goal.loop-session-preserved
loop-session-preserved g c =
    let l = c.loop-session in
    let before = g.W.Write.contents l.out in
    let turn = Zip-more l.session-iterator c.next.new.self c.next.result (c.in-Some.session, c.in-Some.stop) c.in-Some.is c.next.ensures.steps in
    let next = zip_turned _ _ _ _ c.in-Some.session.now c.in-Some.stop.now turn in
    let rest = zip (iter_rest (zip_first c.next.new.self)) (iter_rest (zip_second c.next.new.self)) in
    λ printed h. l.invariant printed (subst (λ (zs : List (SessionReport × SessionStop)). Appends before printed (report_text zs)) (sym next)
    (Appends-trans before (g.W.Write.contents c.print_session.new.out) printed (report_line (report_view c.in-Some.session.now) c.in-Some.stop.now) (report_text rest) c.in_ok-print_session.ensures.printed h))

pub returns-clause-printed : goal.returns-clause-printed
returns-clause-printed g c =
    let l = c.loop-session in
    let now = g.W.Write.contents l.out in
    let ended = zip_ended _ _ (either_empty_from_Zip l.session-iterator c.next.new.self c.next.result c.in-None.is c.next.ensures.steps) in
    l.invariant now (subst (λ (zs : List (SessionReport × SessionStop)). Appends now now (report_text zs)) (sym ended) (Appends-nil now))
