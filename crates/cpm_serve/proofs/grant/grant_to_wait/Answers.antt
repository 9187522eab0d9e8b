use Rattle.cpm_serve.proofs.ServedLemmas.{not-waited, waited}
use Rattle.cpm_serve.proofs.grant.grant_to_wait.Goals as goal

pub returns-in-Ok-look-clause-reply : goal.returns-in-Ok-look-clause-reply
returns-in-Ok-look-clause-reply c =
    waited c.args.host.now.host c.grant_to_wait.new.self.host c.args.id.0 c.args.steps c.in-Ok.executed c.in-Ok-look.look c.wait_stop.result
    c.in-Ok.ensures.reply c.in-Ok.ensures.host c.in-Ok-look.ensures.reply c.wait_stop.ensures

pub returns-in-Err-look-clause-reply : goal.returns-in-Err-look-clause-reply
returns-in-Err-look-clause-reply c =
    absurd (not-waited c.args.host.now.host c.grant_to_wait.new.self.host c.args.id.0 c.args.steps c.in-Ok.executed c.in-Err-look.refusal
    c.in-Ok.ensures.reply c.in-Ok.ensures.host c.in-Err-look.ensures.reply)

pub returns-in-Err-look-clause-unchanged : goal.returns-in-Err-look-clause-unchanged
returns-in-Err-look-clause-unchanged c =
    absurd (not-waited c.args.host.now.host c.grant_to_wait.new.self.host c.args.id.0 c.args.steps c.in-Ok.executed c.in-Err-look.refusal
    c.in-Ok.ensures.reply c.in-Ok.ensures.host c.in-Err-look.ensures.reply)
