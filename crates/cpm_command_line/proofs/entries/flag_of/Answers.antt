use Rattle.std.proofs.Common.{◌∙◌, subst, sym}
use Rattle.clap.specs.Words.{found_of}
use Rattle.clap.proofs.WalkLemmas.{one_text-rows}
use Rattle.cpm_command_line.specs.CommandLine.{IsFlag}
use Rattle.cpm_command_line.proofs.EntryLemmas.{flag_read}
use Rattle.cpm_command_line.proofs.entries.flag_of.Goals as goal

pub returns : goal.returns
returns c =
    let rows = one_text-rows (found_of c.args.matches.now) c.args.id.now in
    sym rows ∙ flag_read _ c.get_flag.result c.get_flag.ensures.value c.get_flag.ensures.other (subst IsFlag (sym rows) c.requires)
