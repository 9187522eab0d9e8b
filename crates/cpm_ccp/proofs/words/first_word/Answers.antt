use Rattle.cpm_ccp.proofs.TextLemmas.{first_word-le}
use Rattle.cpm_ccp.proofs.words.first_word.Goals as goal

pub returns-clause-length : goal.returns-clause-length
returns-clause-length c = rw c.split_first_word.ensures.word (first_word-le c.args.line.now)
