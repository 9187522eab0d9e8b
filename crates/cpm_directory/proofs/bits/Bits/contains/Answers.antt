use Rattle.std.proofs.Common.{get_or, false, sym, ap, ◌∙◌}
use Rattle.cpm_directory.specs.Bits.{test_of}
use Rattle.cpm_directory.proofs.BitsLemmas.{test_at}
use Rattle.cpm_directory.proofs.bits.Bits.contains.Goals as goal

pub returns : goal.returns
unfolding test_of
returns c = sym (test_at c.self.inside.rows c.args.number false c.requires) ∙ ap (λ tests. get_or tests c.args.number false) c.self.view_is
