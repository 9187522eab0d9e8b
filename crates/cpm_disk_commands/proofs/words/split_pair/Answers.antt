use Rattle.std.proofs.Common.{arith}
use Rattle.std.proofs.lemmas.Str.Pattern.{split_once_first}
use Rattle.cpm_disk_commands.proofs.words.split_pair.Goals as goal

pub returns : goal.returns
returns c = split_once_first 61 c.args.text.now _ c.split_once.ensures.cases (omega arith)
