use Rattle.std.proofs.Common.{◌≡◌, ◌∙◌, ◌+◌, ◌++◌, ℕ, List, [], ◌∷◌, Option, ap, append-nil, arith, drop, length, map, rules, sym}
use Rattle.std.specs.Vec.Iter.{into_iter_items, into_iter_len}
use Rattle.std.proofs.lemmas.List.{length_push, nil_from_length}
use Rattle.cpm_batch.specs.Outputs.{left_by}
use Rattle.cpm_batch.specs.declared.output.SessionFiles.{SessionFiles}
use Rattle.cpm_run.specs.Kept.{standing_view}
use Rattle.cpm_run.specs.Run.{report_behind, report_view, reports_behind}
use Rattle.cpm_run.specs.Settled.{settled_view}
use Rattle.cpm_run.specs.Rest.{RunStanding, SessionStanding, output_behind, outputs_behind, stands_all}
use Rattle.cpm_run.specs.declared.report.SessionReport.{SessionReport}
use Rattle.cpm_run.proofs.RestLemmas.{bytes-next, files-more, files-none, reports-more}
use Rattle.cpm_run.proofs.going_on.whole_sessions.Goals as goal

pub loop-report-preserved : goal.loop-report-preserved
loop-report-preserved c =
    let l = c.loop-report in
    let from : RunStanding = stands_all (standing_view c.args.kept.now) (map settled_view c.args.inputs.now) (standing_view c.args.kept.now) in
    let reports : into_iter_items l.others ≡ c.in-Some.report ∷ into_iter_items c.next.new.self = c.in-Some.ensures.cases.0 in
    let files : into_iter_items l.rest ≡ c.in-Some-next.left ∷ into_iter_items c.next-in-Some.new.self = c.in-Some-next.ensures.cases.0 in
    let long = l.whole_reports.ok.0 in
    let place : c.len.result ≡ length l.whole_reports.items = omega (arith, long, c.len.ensures) in
    record {
      reports = reports-more from c.len.result c.in-Some.report c.in_ok-report.report l.whole_reports.items c.push.new.self.items (into_iter_items c.next.new.self) (reports_behind from (map report_view c.args.reports.items)) place
          c.in_ok-push.ensures.items
          (c.in_ok-report.ensures.report ∙ ap (λ (o : Option SessionStanding). report_behind o (report_view c.in-Some.report)) c.kept_for-from.ensures)
          (ap (λ (rs : List SessionReport). map report_view l.whole_reports.items ++ reports_behind (drop (length l.whole_reports.items) from) (map report_view rs)) (sym reports) ∙ l.invariant.reports);
      files = files-more from c.len.result c.in-Some-next.left c.in_ok-report.left l.whole_files.items c.push-in-Some.new.self.items (into_iter_items c.next-in-Some.new.self) (outputs_behind from (map left_by c.args.files.items))
          (place ∙ sym l.invariant.long) c.in_ok-push-2.ensures.items
          (c.in_ok-report.ensures.files ∙ ap (λ (o : Option SessionStanding). output_behind o (left_by c.in-Some-next.left)) c.kept_for-from.ensures)
          (ap (λ (fs : List SessionFiles). map left_by l.whole_files.items ++ outputs_behind (drop (length l.whole_files.items) from) (map left_by fs)) (sym files) ∙ l.invariant.files);
      long =
          ap length c.in_ok-push-2.ensures.items ∙ length_push l.whole_files.items c.in_ok-report.left ∙ ap (λ (n : ℕ). n + 1) l.invariant.long
          ∙ sym (length_push l.whole_reports.items c.in_ok-report.report) ∙ ap length (sym c.in_ok-push.ensures.items);
      bytes =
          bytes-next c.in-Some.report (into_iter_items c.next.new.self) c.in-Some-next.left (into_iter_items c.next-in-Some.new.self)
          (ap (map (λ (x : SessionReport). x.bytes)) (sym reports) ∙ l.invariant.bytes ∙ ap (map (λ (x : SessionFiles). length x.console.items)) files);
    }

pub returns-clause-files : goal.returns-clause-files
returns-clause-files c =
    let l = c.loop-report in
    let from : RunStanding = stands_all (standing_view c.args.kept.now) (map settled_view c.args.inputs.now) (standing_view c.args.kept.now) in
    let long : length (into_iter_items l.others) ≡ into_iter_len l.others = search rules in
    let none : into_iter_items l.others ≡ [] = nil_from_length (into_iter_items l.others) (long ∙ c.in_default.ensures.cases.0) in
    let left : into_iter_items l.rest ≡ [] = files-none (into_iter_items l.others) (into_iter_items l.rest) none l.invariant.bytes in
    sym (append-nil (map left_by l.whole_files.items))
    ∙ ap (λ (fs : List SessionFiles). map left_by l.whole_files.items ++ outputs_behind (drop (length l.whole_files.items) from) (map left_by fs)) (sym left) ∙ l.invariant.files
