use Rattle.std.proofs.Common.{◌∙◌, Some, ap, sym}
use Rattle.std.specs.Prelude.{false, option_map}
use Rattle.cpm_disk_commands.specs.Names.{with_marks}
use Rattle.cpm_serve.proofs.DiskLemmas.{not-named}
use Rattle.cpm_serve.proofs.disk.file_named.Goals as goal

pub returns-in-Ok-clause-name : goal.returns-in-Ok-clause-name
returns-in-Ok-clause-name c = let k = c.in-Ok.ensures in ap Some k.3 ∙ ap (option_map (with_marks false false)) (sym k.1)

pub returns-in-Err-clause-name : goal.returns-in-Err-clause-name
returns-in-Err-clause-name c = not-named c.args.text.now c.in-Err.field-0 c.in-Err.ensures
