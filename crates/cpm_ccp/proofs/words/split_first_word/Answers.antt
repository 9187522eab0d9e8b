use Rattle.std.proofs.Common.{refl, ap, take, drop, ◌∙◌}
use Rattle.std.specs.List.{before_first, position_or_len}
use Rattle.cpm_ccp.specs.Words.{first_word, is_space, tail_of}
use Rattle.cpm_ccp.proofs.TextLemmas.{rest}
use Rattle.cpm_ccp.proofs.words.split_first_word.Goals as goal

pub returns-clause-word : goal.returns-clause-word
unfolding first_word
returns-clause-word c =
    ap (λ k. take k c.after_spaces-line.result.now) c.word_length-end.ensures.count ∙ ap (before_first is_space) c.after_spaces-line.ensures

pub returns-clause-tail : goal.returns-clause-tail
unfolding tail_of
returns-clause-tail c =
    rest c.after_spaces-line.result.now _ _ refl ∙ (ap (λ k. drop k c.after_spaces-line.result.now) c.word_length-end.ensures.count ∙ ap (λ xs. drop (position_or_len is_space xs) xs) c.after_spaces-line.ensures)
