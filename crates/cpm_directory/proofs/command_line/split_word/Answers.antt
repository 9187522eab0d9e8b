use Rattle.std.proofs.Common.{refl, ap, take, drop, ◌∙◌}
use Rattle.cpm_directory.specs.CommandLine.{word_in, after_word}
use Rattle.cpm_directory.proofs.TextLemmas.{rest}
use Rattle.cpm_directory.proofs.command_line.split_word.Goals as goal

pub returns-clause-word : goal.returns-clause-word
unfolding word_in
returns-clause-word c = ap (λ k. take k c.args.text.now) c.word_length-end.ensures.count

pub returns-clause-rest : goal.returns-clause-rest
unfolding after_word
returns-clause-rest c = rest c.args.text.now _ _ refl ∙ ap (λ k. drop k c.args.text.now) c.word_length-end.ensures.count
