use Rattle.cpm_ccp.proofs.MarkLaws.{KeepsMarks-now}
use Rattle.cpm_ccp.proofs.laws.shows_from_a_used_drive.Goals as goal

pub returns : goal.returns
returns c = KeepsMarks-now
