use Rattle.std.proofs.Common.{◌<◌, arith}
use Rattle.cpm_play.proofs.LiveEndLemmas.{not-moved, unmoved}
use Rattle.cpm_play.proofs.PollLemmas.{turn-counted}
use Rattle.cpm_play.proofs.WantingLemmas.{turn-watched}
use Rattle.cpm_play.proofs.live.turn.Goals as goal

pub returns-then-is_patient-clause-ended : goal.returns-then-is_patient-clause-ended
returns-then-is_patient-clause-ended c = λ none quiet.
    let some : 0 < c.min-most.result = let least = c.min-most.ensures in let most = c.most.ensures.some in let left = c.requires.some in omega arith in
    unmoved c.args.system.now c.address.result c.min-most.result c.grant_until-granted.result.executed c.args.machine.now quiet some c.grant_until-granted.ensures.executed none

pub returns-then-is_patient-clause-watched : goal.returns-then-is_patient-clause-watched
returns-then-is_patient-clause-watched c =
    turn-watched c.args.watch.now c.see.new.self c.address.result c.min-most.result c.grant_until-granted.result.executed c.grant_until-granted.new.self c.address.ensures
    c.grant_until-granted.result.why c.look.result c.look.ensures c.grant_until-granted.ensures.why c.see.ensures

pub returns-else-is_patient-clause-ended : goal.returns-else-is_patient-clause-ended
returns-else-is_patient-clause-ended c = λ none quiet.
    let some : 0 < c.min-most.result = let least = c.min-most.ensures in let most = c.most.ensures.some in let left = c.requires.some in omega arith in
    not-moved c.args.system.now c.min-most.result c.grant_to_wait-executed.result c.args.machine.now quiet some c.grant_to_wait-executed.ensures.executed none c.requires.busy

pub returns-then-is_patient-clause-counted : goal.returns-then-is_patient-clause-counted
returns-then-is_patient-clause-counted c = λ patient.
    turn-counted c.args.system.now c.args.left c.address.result c.most.result c.min-most.result c.grant_until-granted.result.executed c.args.watch.now c.see.new.self c.args.machine.now c.grant_until-granted.new.self
    c.look.result c.grant_until-granted.result.why c.address.ensures c.most.ensures.most c.min-most.ensures c.grant_until-granted.ensures.executed c.look.ensures c.grant_until-granted.ensures.why c.see.ensures
