use Rattle.cpm_disk_commands.proofs.NameLemmas.{base_none, base_some}
use Rattle.cpm_disk_commands.proofs.words.base_name.Goals as goal

pub returns-in-Some : goal.returns-in-Some
returns-in-Some c =
    let h = c.in-Some.ensures.cases in
    base_some c.args.path.now c.in-Some.name.now h.0 h.1 h.2.0 h.2.1 h.4 h.7

pub returns-in-None : goal.returns-in-None
returns-in-None c = base_none c.args.path.now c.in-None.ensures.cases
