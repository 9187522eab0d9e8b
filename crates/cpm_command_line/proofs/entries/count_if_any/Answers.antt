use Rattle.std.proofs.Common.{subst, sym}
use Rattle.clap.specs.Words.{found_of}
use Rattle.clap.proofs.WalkLemmas.{one_text-rows}
use Rattle.cpm_command_line.specs.CommandLine.{IsCountIfAny}
use Rattle.cpm_command_line.proofs.EntryLemmas.{count_if_any}
use Rattle.cpm_command_line.proofs.entries.count_if_any.Goals as goal

pub returns : goal.returns
returns c =
    let any = subst IsCountIfAny (sym (one_text-rows (found_of c.args.matches.now) c.args.id.now)) c.requires in
    rw (← one_text-rows (found_of c.args.matches.now) c.args.id.now)
    (count_if_any _ c.get_one.result c.get_one.ensures.none c.get_one.ensures.value any)
