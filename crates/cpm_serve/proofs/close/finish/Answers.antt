use Rattle.cpm_slots.specs.Host.{slot_at}
use Rattle.cpm_serve.proofs.ServedLemmas.{closed-unknown, if-open}
use Rattle.cpm_serve.proofs.close.finish.Goals as goal

pub returns-in-Err-clause-reply : goal.returns-in-Err-clause-reply
returns-in-Err-clause-reply c =
    if-open (slot_at c.args.id.0 c.args.host.now.host.slots) _
    (λ s at. absurd (closed-unknown c.in-Err.field-0 s c.args.host.now.host c.args.id.0 at c.in-Err.ensures.reply))
