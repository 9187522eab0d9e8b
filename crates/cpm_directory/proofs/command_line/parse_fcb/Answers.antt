use Rattle.cpm_directory.specs.CommandLine.{fcb_named, text_behind_name}
use Rattle.cpm_directory.proofs.command_line.parse_fcb.Goals as goal

pub returns-clause-fcb : goal.returns-clause-fcb
unfolding fcb_named
returns-clause-fcb c = cc

pub returns-clause-rest : goal.returns-clause-rest
unfolding text_behind_name
returns-clause-rest c = cc
