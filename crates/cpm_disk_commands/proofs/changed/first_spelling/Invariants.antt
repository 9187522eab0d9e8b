use Rattle.std.proofs.Common.{◌≡◌, drop, map, string_bytes}
use Rattle.cpm_disk_commands.specs.Changed.{first_spelling}
use Rattle.cpm_disk_commands.proofs.changed.first_spelling.Given as goal

abbrev pub invariant-loop-text : goal.invariant-loop-text
invariant-loop-text l = first_spelling (map string_bytes (drop l.text-index l.names)) l.name ≡ first_spelling (map string_bytes l.names) l.name
