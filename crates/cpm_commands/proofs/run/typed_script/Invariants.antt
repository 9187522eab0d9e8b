use Rattle.std.proofs.Common.{◌≡◌, option_map}
use Rattle.std.specs.Iterator.Adapters.{zip_first, zip_second}
use Rattle.std.specs.Slice.Iter.{iter_rest}
use Rattle.std.specs.List.{zip}
use Rattle.cpm_commands.specs.Typed.{typed_script}
use Rattle.cpm_commands.proofs.run.typed_script.Given as goal

abbrev pub invariant-loop-session : goal.invariant-loop-session
invariant-loop-session l =
    typed_script (option_map (λ n. n.now) l.typed) (zip (iter_rest (zip_first l.session-iterator)) (iter_rest (zip_second l.session-iterator)))
    ≡ typed_script (option_map (λ n. n.now) l.typed) (zip l.config.sessions.items l.scripts)
