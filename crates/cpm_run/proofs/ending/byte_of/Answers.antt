use Rattle.cpm_run.proofs.EndingLemmas.{peeked_byte, peeks}
use Rattle.cpm_run.proofs.ending.byte_of.Goals as goal

pub returns-in-Ok : goal.returns-in-Ok
returns-in-Ok c = λ s at. peeked_byte c.args.host.now.host c.args.id.0 c.args.address c.in-Ok.byte s c.in-Ok.ensures.reply at

pub returns-in-Err : goal.returns-in-Err
returns-in-Err c = λ s at. absurd (peeks c.args.host.now.host c.args.id.0 c.args.address c.in-Err.field-0 s c.in-Err.ensures.reply at)
