use Rattle.cpm_saved.proofs.Appends.{as_value}
use Rattle.cpm_saved.proofs.console.append_waiting.Goals as goal

pub returns : goal.returns
returns c = λ part. as_value _ _ _ _ _ c.waiting_on.ensures.value (c.in_ok-append_run.ensures part)
