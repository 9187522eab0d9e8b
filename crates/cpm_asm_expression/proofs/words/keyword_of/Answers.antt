use Rattle.std.proofs.Common.{ap, ◌∙◌}
use Rattle.cpm_asm_expression.specs.Words.{keyword_of, or_reserved}
use Rattle.cpm_asm_expression.proofs.words.keyword_of.Goals as goal

pub returns-in-Some : goal.returns-in-Some
unfolding keyword_of
returns-in-Some c = ap (or_reserved c.args.letters.now) c.in-Some.ensures

pub returns-in-None : goal.returns-in-None
unfolding keyword_of
returns-in-None c = c.look-in-None.ensures ∙ ap (or_reserved c.args.letters.now) c.in-None.ensures
