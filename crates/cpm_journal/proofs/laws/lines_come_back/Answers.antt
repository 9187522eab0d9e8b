use Rattle.cpm_journal.proofs.EntryLaws.{lines-back}
use Rattle.cpm_journal.proofs.laws.lines_come_back.Goals as goal

pub returns : goal.returns
returns c = lines-back
