use Rattle.std.proofs.Common.{sym, ap, subst, inl, arith}
use Rattle.cpm_memory.specs.Contents.{Contents}
use Rattle.cpm_memory.specs.Opened.{touched_of-opening}
use Rattle.cpm_memory.specs.Room.{HasRoom}
use Rattle.cpm_machine.proofs.machine.Machine.opened.Goals as goal

pub invariant_of-result : goal.invariant_of-result
invariant_of-result c = (
  record {
    limit = ap (λ (m : Contents). m.limit) c.requires.parts.memory;
    count = λ h. omega arith;
    room = λ h. subst HasRoom (sym c.requires.parts.memory) (inl (omega (arith, c.requires.least, touched_of-opening c.args.opening.quota)));
  },
  c.requires.parts.cache _ _,
)
