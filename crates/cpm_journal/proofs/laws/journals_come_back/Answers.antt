use Rattle.cpm_journal.proofs.EntryLaws.{journals-back}
use Rattle.cpm_journal.proofs.laws.journals_come_back.Goals as goal

pub returns : goal.returns
returns c = journals-back
