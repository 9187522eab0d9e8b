use Rattle.std.proofs.Common.{◌≡◌, ◌∙◌, arith}
use Rattle.std.specs.List.{position_or_len}
use Rattle.cpm_directory.specs.CommandLine.{is_delimiter}
use Rattle.cpm_directory.proofs.TextLemmas.{first_place, within}
use Rattle.cpm_directory.proofs.command_line.word_length.Goals as goal

pub returns-clause-count : goal.returns-clause-count
returns-clause-count c = rw c.first_delimiter.ensures at c.unwrap_or.ensures ∙ first_place is_delimiter c.args.text.now

pub returns-clause-within : goal.returns-clause-within
returns-clause-within c =
    let e : c.unwrap_or.result ≡ position_or_len is_delimiter c.args.text.now = rw c.first_delimiter.ensures at c.unwrap_or.ensures ∙ first_place is_delimiter c.args.text.now in
    let l = within is_delimiter c.args.text.now in
    omega arith
