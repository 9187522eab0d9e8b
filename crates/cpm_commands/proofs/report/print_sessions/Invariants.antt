use Rattle.std.proofs.Common.{List, ℕ, Option}
use Rattle.std.specs.Iterator.Adapters.{zip_first, zip_second}
use Rattle.std.specs.Slice.Iter.{iter_rest}
use Rattle.std.specs.Io.KnownBytes.{Appends}
use Rattle.std.specs.List.{zip}
use Rattle.cpm_commands.specs.Report.{report_text}
use Rattle.cpm_commands.proofs.report.print_sessions.Given as goal

-- what is appended from here on is the end of what is appended
abbrev pub invariant-loop-session : goal.invariant-loop-session
invariant-loop-session g l =
    (printed : Option (List ℕ)) → Appends (g.W.Write.contents l.out) printed (report_text (zip (iter_rest (zip_first l.session-iterator)) (iter_rest (zip_second l.session-iterator))))
    → Appends (g.W.Write.contents l.fn.out) printed (report_text (zip l.report.sessions.items l.report.stops.items))
