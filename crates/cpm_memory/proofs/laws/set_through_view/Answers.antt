use Rattle.std.proofs.Common.{arith}
use Rattle.std.proofs.lemmas.Grind.{common_steps}
use Rattle.cpm_memory.specs.View.{memories-after_view}
use Rattle.cpm_memory.proofs.laws.set_through_view.Goals as goal

pub returns-clause-memories : goal.returns-clause-memories
returns-clause-memories c =
    let e = memories-after_view c.view-view.result c.set.new.self c.set.ensures.leads.stores.surroundings in
    grind (arith, common_steps)
