use Rattle.std.proofs.Common.{◌∙◌}
use Rattle.clap.specs.Words.{found_of}
use Rattle.clap.proofs.WalkLemmas.{first_value-rows}
use Rattle.cpm_command_line.proofs.EntryLemmas.{some_before, some_image}
use Rattle.cpm_command_line.proofs.entries.text_of.Goals as goal

pub unwrap-requires : goal.unwrap-requires
unwrap-requires c = some_before (λ s. s.now) c.get_str.result _ (c.get_str.ensures ∙ first_value-rows (found_of c.args.matches.now) c.args.id.now) c.requires

pub returns : goal.returns
returns c = some_image (λ s. s.now) c.get_str.result _ c.unwrap.result (c.get_str.ensures ∙ first_value-rows (found_of c.args.matches.now) c.args.id.now) c.unwrap.ensures
