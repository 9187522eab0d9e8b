use Rattle.std.proofs.Common.{drop}
use Rattle.cpm_commands.specs.Drives.{IsPlaceLeftOutTold}
use Rattle.cpm_commands.proofs.DriveLemmas.{ToldLeads}
use Rattle.cpm_commands.proofs.drives.tell_left_out.Given as goal

abbrev pub invariant-loop-place : goal.invariant-loop-place
invariant-loop-place g l = ToldLeads (IsPlaceLeftOutTold g.M.Messages.tells) l.fn.places (drop l.place-index l.places) l.fn.messages l.messages
