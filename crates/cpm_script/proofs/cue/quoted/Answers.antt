use Rattle.std.proofs.Common.{◌∙◌, sym}
use Rattle.cpm_script.proofs.CueLemmas.{quoted-none, quoted-some}
use Rattle.cpm_script.proofs.cue.quoted.Goals as goal

pub returns-in_err-place : goal.returns-in_err-place
returns-in_err-place c =
    rw c.from_residual-in_err-place.ensures
    (sym (quoted-none c.args.text.now c.in_ok-first.inner.now c.in_ok-first.first.now c.in_ok-first.ensures.cases.0 c.in_err-place.ensures))

pub returns : goal.returns
returns c =
    c.cut_at.ensures
    ∙ sym (quoted-some c.args.text.now c.in_ok-first.inner.now c.in_ok-first.first.now c.in_ok-place.place c.in_ok-first.ensures.cases.0 c.if-first-ne34.false c.in_ok-place.ensures)
