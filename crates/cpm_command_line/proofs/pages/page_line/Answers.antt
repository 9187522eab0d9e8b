use Rattle.cpm_command_line.proofs.LineLemmas.{page_asks}
use Rattle.cpm_command_line.proofs.pages.page_line.Goals as goal

pub returns-in-Overview-clause-asks : goal.returns-in-Overview-clause-asks
returns-in-Overview-clause-asks c = page_asks c.args.page
