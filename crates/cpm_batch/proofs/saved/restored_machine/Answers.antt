use Rattle.cpm_batch.proofs.saved.restored_machine.Goals as goal

pub returns-in-Err-clause-refusal : goal.returns-in-Err-clause-refusal
returns-in-Err-clause-refusal c = c.unread.ensures c.in-Err.ensures.refused
