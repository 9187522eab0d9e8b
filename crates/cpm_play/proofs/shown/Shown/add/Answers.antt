use Rattle.std.proofs.Common.{not, ap, refl, subst, ◌∙◌, arith, append-nil}
use Rattle.cpm_play.specs.Shown.{HasGrown}
use Rattle.cpm_play.proofs.ShownLemmas.{grown-added, grown-on, if-true}
use Rattle.cpm_play.proofs.shown.Shown.add.Goals as goal

pub returns-then-len-self-clause-grown : goal.returns-then-len-self-clause-grown
returns-then-len-self-clause-grown c = λ _.
    grown-added c.args.self.now _ c.args.bytes.now refl (if-true _ _ _ _ c.extend_from_slice.ensures.items (c.is_err.ensures.negation ∙ ap not c.if-is_err.false)) refl

pub returns-else-len-self-clause-grown : goal.returns-else-len-self-clause-grown
returns-else-len-self-clause-grown c = λ yes.
    let old = c.args.self.now in
    subst (HasGrown old c.cut.new.self) (append-nil c.args.bytes.now)
    (grown-on (grown-added old (record old { tail = c.extend_from_slice.new.self }) c.args.bytes.now refl
    (if-true _ _ _ _ c.extend_from_slice.ensures.items (c.is_err.ensures.negation ∙ ap not c.if-is_err.false)) refl) (c.cut.ensures.grown yes))

pub returns-then-len-self-clause-short : goal.returns-then-len-self-clause-short
returns-then-len-self-clause-short c = λ _ short.
    let len = c.len.ensures in
    let count = c.extend_from_slice.new.self.ok.0 in
    let below = c.if-len-self.true in
    record { below = omega arith; most = short.most }
