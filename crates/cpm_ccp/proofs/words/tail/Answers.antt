use Rattle.cpm_ccp.proofs.TextLemmas.{tail_of-le}
use Rattle.cpm_ccp.proofs.words.tail.Goals as goal

pub returns-clause-length : goal.returns-clause-length
returns-clause-length c = rw c.split_first_word.ensures.tail (tail_of-le c.args.line.now)
