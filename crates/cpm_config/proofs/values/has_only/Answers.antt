use Rattle.std.proofs.Common.{◌∙◌}
use Rattle.cpm_config.proofs.EntryLemmas.{has_only-keys}
use Rattle.cpm_config.proofs.values.has_only.Goals as goal

pub returns : goal.returns
returns c = c.are_known.ensures ∙ has_only-keys c.args.known.now c.args.table.now.entries
