use Rattle.std.proofs.Common.{◌∙◌, sym}
use Rattle.cpm_volume.proofs.NameLemmas.{name_matches_zip}
use Rattle.cpm_disk_commands.proofs.matching.names_match.Goals as goal

pub returns : goal.returns
returns c = c.all_match.ensures ∙ name_matches_zip c.args.pattern.now c.args.name.now (c.told-pattern ∙ sym c.told-name)
