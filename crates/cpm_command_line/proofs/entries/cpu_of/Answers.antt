use Rattle.std.proofs.Common.{◌∙◌, Bool, Some, ap, codes, subst, sym}
use Rattle.clap.specs.Values.{bool_text}
use Rattle.clap.specs.Words.{found_of}
use Rattle.clap.proofs.WalkLemmas.{one_text-rows}
use Rattle.cpm_command_line.specs.CommandLine.{IsPick}
use Rattle.cpm_command_line.proofs.EntryLemmas.{pick_read}
use Rattle.cpm_command_line.proofs.entries.cpu_of.Goals as goal

pub returns-then-get_flag : goal.returns-then-get_flag
returns-then-get_flag c =
    let rows = one_text-rows (found_of c.args.matches.now) (codes "z80") in
    let text = pick_read _ c.get_flag.result c.get_flag.ensures.value c.get_flag.ensures.other (subst IsPick (sym rows) c.requires) in
    sym rows ∙ text ∙ ap (λ (b : Bool). Some (bool_text b)) c.if-get_flag.true

pub returns-else-get_flag : goal.returns-else-get_flag
returns-else-get_flag c =
    let rows = one_text-rows (found_of c.args.matches.now) (codes "z80") in
    let text = pick_read _ c.get_flag.result c.get_flag.ensures.value c.get_flag.ensures.other (subst IsPick (sym rows) c.requires) in
    sym rows ∙ text ∙ ap (λ (b : Bool). Some (bool_text b)) c.if-get_flag.false
