use Rattle.std.proofs.Common.{drop}
use Rattle.cpm_commands.proofs.MessageLemmas.{IllegalLeads}
use Rattle.cpm_commands.proofs.messages.tell_all_illegal.Given as goal

abbrev pub invariant-loop-session : goal.invariant-loop-session
invariant-loop-session g l = IllegalLeads g.M.Messages.tells l.fn.sessions (drop l.session-index l.sessions) l.fn.messages l.messages
