use Rattle.cpm_journal.proofs.EntryLaws.{torn-journals-back}
use Rattle.cpm_journal.proofs.laws.torn_journals_come_back.Goals as goal

pub returns : goal.returns
returns c = torn-journals-back
