use Rattle.cpm_journal.proofs.EntryLaws.{heads-back}
use Rattle.cpm_journal.proofs.laws.heads_come_back.Goals as goal

pub returns : goal.returns
returns c = heads-back
