use Rattle.cpm_journal.proofs.EntryLaws.{entries-back}
use Rattle.cpm_journal.proofs.laws.entries_come_back.Goals as goal

pub returns : goal.returns
returns c = entries-back
