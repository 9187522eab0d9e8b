use Rattle.std.proofs.Common.{◌∙◌}
use Rattle.cpm_drive.proofs.MapLemmas.{bad_any}
use Rattle.cpm_drive.proofs.closing.has_bad_block.Goals as goal

pub returns : goal.returns
returns c = c.any_above.ensures ∙ bad_any c.args.dpb.now c.args.blocks.now
