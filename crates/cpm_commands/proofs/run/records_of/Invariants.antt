use Rattle.std.proofs.Common.{◌≡◌, ◌++◌, map, option_map}
use Rattle.std.specs.Iterator.Adapters.{zip_first, zip_second}
use Rattle.std.specs.Slice.Iter.{iter_rest}
use Rattle.std.specs.List.{zip}
use Rattle.cpm_commands.specs.Run.{record_mark, record_marks}
use Rattle.cpm_commands.proofs.run.records_of.Given as goal

abbrev pub invariant-loop-session : goal.invariant-loop-session
invariant-loop-session l =
    map record_mark l.records.items ++ record_marks l.is_kept (option_map (λ n. n.now) l.typed) (zip (iter_rest (zip_first l.session-iterator)) (iter_rest (zip_second l.session-iterator)))
    ≡ record_marks l.is_kept (option_map (λ n. n.now) l.typed) (zip l.config.sessions.items l.scripts)
