use Rattle.cpm_run.proofs.PartLemmas.{parent_opened, parent_start}
use Rattle.cpm_run.proofs.part.opened_by.Goals as goal

pub returns-in-Forked-clause-start : goal.returns-in-Forked-clause-start
returns-in-Forked-clause-start c =
    parent_start c.args.settled.now c.args.start.now c.in-Forked.parent c.in-Forked.at c.index-settled-parent.result c.in-Forked.is c.requires

pub returns-in-Forked-clause-opened : goal.returns-in-Forked-clause-opened
returns-in-Forked-clause-opened c =
    parent_opened c.args.settled.now c.args.start.now c.in-Forked.parent c.in-Forked.at c.index-settled-parent.result c.in-Forked.is c.requires
