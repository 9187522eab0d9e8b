use Rattle.std.proofs.Common.{arith, take, false, sym, ◌∙◌, ◌≤◌, length}
use Rattle.std.proofs.Math.Seq.{take-set-lt}
use Rattle.std.proofs.lemmas.List.{length-take-le, length-set, set_past}
use Rattle.cpm_directory.proofs.reserved.Reserved.free.Goals as goal

pub invariant_of-self : goal.invariant_of-self
invariant_of-self c = (rw c.remove.ensures (length-set c.self.inside.blocks c.from-block.result false ∙ c.self.invariant.0), c.self.invariant.1)

pub returns-then-block-self : goal.returns-then-block-self
returns-then-block-self c =
    rw (← c.self.view_is, ← c.from-block.ensures, c.remove.ensures) (take-set-lt c.self.inside.count c.self.inside.blocks c.from-block.result false c.if-block-self.true)

pub returns-else-block-self : goal.returns-else-block-self
returns-else-block-self c =
    let size = length-take-le c.self.inside.count c.self.inside.blocks (omega (arith, c.self.invariant.0, c.self.invariant.1)) in
    let past : length (take c.self.inside.count c.self.inside.blocks) ≤ c.from-block.result = omega arith in
    rw (← c.self.view_is, ← c.from-block.ensures) (sym (set_past (take c.self.inside.count c.self.inside.blocks) c.from-block.result false past))
