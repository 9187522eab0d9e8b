use Rattle.cpm_machine.specs.Runner.{state_of}
use Rattle.cpm_slots.proofs.ServeLaws.{key-result}
use Rattle.cpm_slots.proofs.slots.press.Goals as goal

pub returns-clause-serves : goal.returns-clause-serves
returns-clause-serves c = λ system m.
    key-result system c.args.key (state_of c.args.runner.now m) c.give.result c.give.new.console c.give.ensures.accepted c.give.ensures.refused
