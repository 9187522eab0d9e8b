use Rattle.std.proofs.Common.{ap, ◌∙◌}
use Rattle.cpm_memory.specs.Contents.{Contents}
use Rattle.cpm_memory.specs.Room.{written-after_set}
use Rattle.cpm_memory.proofs.access.set_settled.Goals as goal

pub returns-clause-pages : goal.returns-clause-pages
returns-clause-pages g c = ap (λ (m : Contents). m.written) c.set.ensures.contents ∙ written-after_set (g.M.Memory.contents c.args.memory.now) c.args.address c.args.value (c.is_settled.ensures c.if-not-is_settled.false)
