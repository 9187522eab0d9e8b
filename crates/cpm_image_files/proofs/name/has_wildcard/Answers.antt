use Rattle.std.proofs.Common.{◌∙◌}
use Rattle.cpm_image_files.proofs.WildcardLemmas.{any_is_wildcard}
use Rattle.cpm_image_files.proofs.name.has_wildcard.Goals as goal

pub returns : goal.returns
returns c = c.any_wildcard.ensures ∙ any_is_wildcard c.args.name.now
