use Rattle.std.proofs.Common.{refl, ap, drop, ◌∙◌}
use Rattle.cpm_directory.specs.CommandLine.{after_spaces}
use Rattle.cpm_ccp.proofs.TextLemmas.{rest}
use Rattle.cpm_ccp.proofs.words.after_spaces.Goals as goal

pub returns : goal.returns
unfolding after_spaces
returns c = rest c.args.text.now _ _ refl ∙ ap (λ k. drop k c.args.text.now) c.spaces_in_front.ensures.count
