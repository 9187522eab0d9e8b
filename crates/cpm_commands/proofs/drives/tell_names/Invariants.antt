use Rattle.std.proofs.Common.{drop, map, string_bytes}
use Rattle.cpm_commands.specs.Drives.{IsNameTold}
use Rattle.cpm_commands.proofs.DriveLemmas.{ToldLeads}
use Rattle.cpm_commands.proofs.drives.tell_names.Given as goal

abbrev pub invariant-loop-name : goal.invariant-loop-name
invariant-loop-name g l =
    ToldLeads (IsNameTold g.M.Messages.tells l.folder) (map string_bytes l.fn.names) (map string_bytes (drop l.name-index l.names)) l.fn.messages l.messages
