use Rattle.cpm_serve.proofs.TurnLemmas.{turn-parts}
use Rattle.cpm_serve.proofs.laws.turns_are_parts.Goals as goal

pub returns : goal.returns
returns c = turn-parts
