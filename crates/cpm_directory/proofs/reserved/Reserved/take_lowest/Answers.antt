use Rattle.std.proofs.Common.{◌<◌, ◌≤◌, ◌⊎◌, sym, arith, ◌∙◌, refl, true, inl, inr}
use Rattle.std.proofs.Math.Seq.{take-set-lt}
use Rattle.std.proofs.lemmas.List.{length-take-le, length-set}
use Rattle.cpm_volume.specs.Reserved.{least_free}
use Rattle.cpm_directory.proofs.ReservedLemmas.{lowest_within, none_within}
use Rattle.cpm_directory.proofs.reserved.Reserved.take_lowest.Goals as goal
use Rattle.cpm_directory.proofs.reserved.Reserved.take_lowest.Goals.{then-lowest-self-via-then-lowest-self, then-lowest-self-via-else-lowest-self+then-lowest-from}

pub overflow_cast-result : goal.overflow_cast-result
overflow_cast-result c = omega (arith, c.self.invariant.1)

pub invariant_of-self : goal.invariant_of-self
invariant_of-self c = (rw c.insert.ensures (length-set c.self.inside.blocks _ true ∙ c.self.invariant.0), c.self.invariant.1)

pub returns-then-lowest-self : goal.returns-then-lowest-self
returns-then-lowest-self c =
    let out : (c.self.inside.count ≤ least_free c.self.inside.blocks) ⊎ (c.args.last_block < least_free c.self.inside.blocks) =
    elim c.then-lowest-self.branch [
      | then-lowest-self-via-then-lowest-self w ↦ inl (omega (arith, c.lowest_clear-lowest.ensures, w.if-lowest-self.true))
      | then-lowest-self-via-else-lowest-self+then-lowest-from w ↦ inr (omega (arith, c.lowest_clear-lowest.ensures, w.from.ensures, w.if-lowest-from.true))
    ] in
    rw (← c.self.view_is) (refl, none_within c.self.inside.blocks c.self.inside.count c.args.last_block (omega (arith, c.self.invariant.0, c.self.invariant.1)) out, refl)

pub returns : goal.returns
returns c =
    let size = length-take-le c.self.inside.count c.self.inside.blocks (omega (arith, c.self.invariant.0, c.self.invariant.1)) in
    rw (← c.self.view_is, c.insert.ensures) (
      c.lowest_clear-lowest.ensures ∙ sym (lowest_within c.self.inside.blocks c.self.inside.count (omega (arith, c.self.invariant.0, c.self.invariant.1)) (omega (arith, c.lowest_clear-lowest.ensures, c.if-lowest-self.false))),
      omega arith,
      omega arith,
      take-set-lt c.self.inside.count c.self.inside.blocks _ true (omega arith),
    )
