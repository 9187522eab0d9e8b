use Rattle.std.proofs.Common.{◌∙◌, sym}
use Rattle.cpm_directory.proofs.CheckingLemmas.{same_name_zip}
use Rattle.cpm_image_files.proofs.records.is_same_name.Goals as goal

pub returns : goal.returns
returns c = c.all_same.ensures ∙ same_name_zip c.args.name.now c.args.other.now (c.told-name ∙ sym c.told-other)
