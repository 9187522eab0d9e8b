use Rattle.cpm_image_files.proofs.TextLemmas.{texts_come_back}
use Rattle.cpm_image_files.proofs.text.texts_come_back.Goals as goal

pub returns : goal.returns
returns c = texts_come_back
