use Rattle.std.proofs.Common.{◌≡◌, ◌++◌, drop, length, map}
use Rattle.std.specs.Vec.Iter.{into_iter_items, into_iter_len}
use Rattle.cpm_batch.specs.Outputs.{left_by}
use Rattle.cpm_run.specs.Kept.{standing_view}
use Rattle.cpm_run.specs.Run.{report_view, reports_behind}
use Rattle.cpm_run.specs.Settled.{settled_view}
use Rattle.cpm_run.specs.Rest.{outputs_behind, stands_all}
use Rattle.cpm_run.proofs.going_on.whole_sessions.Given as goal

abbrev pub invariant-loop-report : goal.invariant-loop-report
invariant-loop-report l =
    let from = stands_all (standing_view l.fn.kept) (map settled_view l.fn.inputs) (standing_view l.fn.kept) in
    record {
      reports : map report_view l.whole_reports.items ++ reports_behind (drop (length l.whole_reports.items) from) (map report_view (into_iter_items l.others)) ≡ reports_behind from (map report_view l.fn.reports.items);
      files : map left_by l.whole_files.items ++ outputs_behind (drop (length l.whole_files.items) from) (map left_by (into_iter_items l.rest)) ≡ outputs_behind from (map left_by l.fn.files.items);
      long : length l.whole_files.items ≡ length l.whole_reports.items;
      bytes : map (λ r. r.bytes) (into_iter_items l.others) ≡ map (λ f. length f.console.items) (into_iter_items l.rest);
    }

abbrev pub decreases-loop-report : goal.decreases-loop-report
decreases-loop-report l = into_iter_len l.others
