use Rattle.std.proofs.Common.{length, drop}
use Rattle.cpm_machine.specs.Runner.{state_of}
use Rattle.cpm_slots.proofs.ServeLaws.{takes}
use Rattle.cpm_slots.proofs.slots.take_from.Goals as goal

pub returns-clause-serves : goal.returns-clause-serves
returns-clause-serves c = λ system m.
    takes system c.args.device (length c.args.out.now) c.take_from.result c.take_from.new.out (drop c.take_from.result c.args.out.now) (state_of c.args.runner.now m) c.take_from.new.self c.take_from.ensures.count c.take_from.ensures.bytes c.take_from.ensures.after
