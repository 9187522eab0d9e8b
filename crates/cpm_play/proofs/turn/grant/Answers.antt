use Rattle.cpm_play.proofs.ScriptedSlotLemmas.{granted-executed, granted-none, granted-within}
use Rattle.cpm_play.proofs.turn.grant.Goals as goal

pub returns-in-Ok-clause-executed : goal.returns-in-Ok-clause-executed
returns-in-Ok-clause-executed c = λ s at. granted-executed c.args.host.now.host c.args.id.0 c.args.most c.in-Ok.granted s c.in-Ok.ensures.reply at

pub returns-in-Ok-clause-within : goal.returns-in-Ok-clause-within
returns-in-Ok-clause-within c = granted-within c.args.host.now.host c.args.id.0 c.args.most c.in-Ok.granted c.in-Ok.ensures.reply

pub returns-in-Err-clause-executed : goal.returns-in-Err-clause-executed
returns-in-Err-clause-executed c = λ s at. granted-none c.args.host.now.host c.args.id.0 c.args.most c.in-Err.field-0 s c.in-Err.ensures.reply at
