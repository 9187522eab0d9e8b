use Rattle.std.proofs.Common.{◌∙◌, sym}
use Rattle.cpm_drive.proofs.MapLemmas.{same_zip}
use Rattle.cpm_drive.proofs.closing.same_numbers.Goals as goal

pub returns : goal.returns
returns c = c.all_same.ensures ∙ same_zip c.args.old.now c.args.new.now (c.told-old ∙ sym c.told-new)
