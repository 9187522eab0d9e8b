use Rattle.std.proofs.Common.{◌≡◌, ◌∙◌, arith}
use Rattle.std.specs.List.{position_or_len}
use Rattle.cpm_ccp.specs.Words.{is_space}
use Rattle.cpm_ccp.proofs.TextLemmas.{first_place, within}
use Rattle.cpm_ccp.proofs.words.word_length.Goals as goal

pub returns-clause-count : goal.returns-clause-count
returns-clause-count c = rw c.first_space.ensures at c.unwrap_or.ensures ∙ first_place is_space c.args.text.now

pub returns-clause-within : goal.returns-clause-within
returns-clause-within c =
    let e : c.unwrap_or.result ≡ position_or_len is_space c.args.text.now = rw c.first_space.ensures at c.unwrap_or.ensures ∙ first_place is_space c.args.text.now in
    let l = within is_space c.args.text.now in
    omega arith
