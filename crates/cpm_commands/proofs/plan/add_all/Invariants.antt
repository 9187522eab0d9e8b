use Rattle.std.proofs.Common.{◌≡◌, ◌++◌, drop, map}
use Rattle.cpm_commands.specs.Plan.{all_planned, named_files}
use Rattle.cpm_commands.proofs.plan.add_all.Given as goal

abbrev pub invariant-loop-name : goal.invariant-loop-name
invariant-loop-name l =
    named_files l.files.items ++ all_planned l.role (map (λ n. n.now) (drop l.name-index l.names)) ≡ named_files l.fn.files.items ++ all_planned l.fn.role (map (λ n. n.now) l.fn.names)
