use Rattle.std.proofs.Common.{◌∙◌}
use Rattle.cpm_drive.proofs.MapLemmas.{agree_zip}
use Rattle.cpm_drive.proofs.closing.agree.Goals as goal

pub returns : goal.returns
returns c = c.all_agree.ensures ∙ agree_zip c.args.blocks.now c.args.stored.now
