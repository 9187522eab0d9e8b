use Rattle.std.proofs.Common.{◌≡◌, ◌++◌, drop, map, string_bytes}
use Rattle.cpm_commands.proofs.drives.owned_names.Given as goal

abbrev pub invariant-loop-name : goal.invariant-loop-name
invariant-loop-name l = map string_bytes l.owned.items ++ map (λ n. n.now) (drop l.name-index l.names) ≡ map (λ n. n.now) l.fn.names
