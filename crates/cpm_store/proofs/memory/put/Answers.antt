use Rattle.std.proofs.Common.{arith}
use Rattle.std.proofs.lemmas.Map.Text.{text_keys}
use Rattle.cpm_store.proofs.memory.put.Goals as goal

pub returns-clause-written : goal.returns-clause-written
returns-clause-written c = record {
  here = grind (arith, text_keys);
  others = λ other apart. grind (arith, text_keys);
}
