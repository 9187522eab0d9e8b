use Rattle.std.proofs.Common.{◌∙◌}
use Rattle.cpm_drives.proofs.SearchLemmas.{goes_on}
use Rattle.cpm_drives.proofs.disks.Disks.search_next.Goals as goal

pub returns-in-Some : goal.returns-in-Some
returns-in-Some c =
    λ fcb. c.search_on.ensures fcb ∙ goes_on c.args.self.now c.args.system.now fcb c.args.buffer.now _ c.in-Some.is

pub returns-in-None : goal.returns-in-None
returns-in-None c =
    λ fcb. goes_on c.args.self.now c.args.system.now fcb c.args.buffer.now _ c.in-None.is
