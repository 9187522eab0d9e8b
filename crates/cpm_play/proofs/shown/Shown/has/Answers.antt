use Rattle.std.proofs.Common.{sym, ◌∙◌}
use Rattle.cpm_play.proofs.ShownLemmas.{find-none, held-not}
use Rattle.cpm_play.proofs.shown.Shown.has.Goals as goal

pub returns-else-is_some-clause-other : goal.returns-else-is_some-clause-other
returns-else-is_some-clause-other c =
    λ none. held-not c.args.self.now c.args.text.now c.as_slice.result.now c.as_slice-else-is_some.result.now c.as_slice.ensures.value c.as_slice-else-is_some.ensures.value
    (find-none c.as_slice.result.now c.args.text.now c.find.result c.find.ensures (sym c.is_some.ensures ∙ c.if-is_some.false)) (sym c.is_found.ensures ∙ none)
