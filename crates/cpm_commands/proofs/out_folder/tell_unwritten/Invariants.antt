use Rattle.std.proofs.Common.{drop, map}
use Rattle.cpm_commands.specs.OutFolder.{IsUnwrittenTold, unwritten_view}
use Rattle.cpm_commands.proofs.DriveLemmas.{ToldLeads}
use Rattle.cpm_commands.proofs.out_folder.tell_unwritten.Given as goal

abbrev pub invariant-loop-file : goal.invariant-loop-file
invariant-loop-file g l =
    ToldLeads (IsUnwrittenTold g.M.Messages.tells) (map unwritten_view l.fn.unwritten) (map unwritten_view (drop l.file-index l.unwritten)) l.fn.messages l.messages
