use Rattle.cpm_slots.proofs.RunLaws.{own-replies, own-account}
use Rattle.cpm_slots.proofs.EventLaws.{slot-asked}
use Rattle.cpm_slots.proofs.host.Host.run.Goals as goal

pub returns-clause-own_replies : goal.returns-clause-own_replies
returns-clause-own_replies c = λ id.
    own-replies id c.args.events.now c.args.self.now.host c.serve_all.new.replies c.serve_all.ensures.replies

pub returns-clause-own_state : goal.returns-clause-own_state
returns-clause-own_state c = λ id.
    rw c.serve_all.ensures.host (slot-asked id c.args.events.now c.args.self.now.host)

pub returns-clause-own_account : goal.returns-clause-own_account
returns-clause-own_account c = λ id start at.
    own-account id c.args.events.now c.args.self.now.host c.serve_all.new.self.host c.serve_all.new.replies start c.serve_all.ensures.replies c.serve_all.ensures.host at
