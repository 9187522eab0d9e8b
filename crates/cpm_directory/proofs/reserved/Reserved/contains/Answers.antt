use Rattle.std.proofs.Common.{◌≡◌, arith, sym, ap, take, ◌∙◌}
use Rattle.std.proofs.lemmas.Bool.{le-leb}
use Rattle.cpm_volume.specs.Reserved.{is_reserved}
use Rattle.cpm_directory.proofs.ReservedLemmas.{past_is_reserved, below_is_reserved}
use Rattle.cpm_directory.proofs.reserved.Reserved.contains.Goals as goal

pub returns-then-block-self : goal.returns-then-block-self
returns-then-block-self c =
    let view : is_reserved (take c.self.inside.count c.self.inside.blocks) c.args.block ≡ is_reserved c.args.self.now c.args.block = ap (λ r. is_reserved r c.args.block) c.self.view_is in
    let same = ap (is_reserved (take c.self.inside.count c.self.inside.blocks)) c.from-block.ensures in
    le-leb _ _ c.if-block-self.true ∙ (sym (past_is_reserved c.self.inside.blocks c.self.inside.count c.from-block.result (omega (arith, c.self.invariant.0, c.self.invariant.1)) c.if-block-self.true) ∙ (same ∙ view))

pub returns-else-block-self : goal.returns-else-block-self
returns-else-block-self c =
    let view : is_reserved (take c.self.inside.count c.self.inside.blocks) c.args.block ≡ is_reserved c.args.self.now c.args.block = ap (λ r. is_reserved r c.args.block) c.self.view_is in
    let same = ap (is_reserved (take c.self.inside.count c.self.inside.blocks)) c.from-block.ensures in
    c.contains.ensures ∙ (sym (below_is_reserved c.self.inside.blocks c.self.inside.count c.from-block.result (omega (arith, c.self.invariant.0, c.self.invariant.1)) c.if-block-self.false) ∙ (same ∙ view))

pub contains-requires : goal.contains-requires
contains-requires c = omega (arith, c.self.invariant.1)
