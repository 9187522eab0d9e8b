use Rattle.std.proofs.Common.{ap}
use Rattle.cpm_machine.specs.Serve.{look_of}
use Rattle.cpm_machine.specs.declared.reply.Look.{Look}
use Rattle.cpm_batch.proofs.saved.SavedMachine.count.Goals as goal

pub returns : goal.returns
unfolding look_of
returns c = ap (λ (l : Look). l.count) c.look.ensures
