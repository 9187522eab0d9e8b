use Rattle.std.proofs.lemmas.Result.{IfErr-weaker, on_ok_weaker}
use Rattle.cpm_slots.specs.Host.{new_host}
use Rattle.cpm_run.proofs.openings.judge_openings.Goals as goal

pub returns-in-Ok-clause-accepted : goal.returns-in-Ok-clause-accepted
returns-in-Ok-clause-accepted c = let opened = c.in-Ok.ensures.left in on_ok_weaker c.fork_all.result (λ room. opened.accepts (room opened.host opened.left)) c.fork_all.ensures.room

pub returns-in-Ok-clause-refusal : goal.returns-in-Ok-clause-refusal
returns-in-Ok-clause-refusal c =
    let opened = c.in-Ok.ensures.left in
    IfErr-weaker c.fork_all.result _ _
    (λ e refused. refused (new_host c.args.system.now c.args.config.now.frames) opened.host opened.left opened.refuses) c.fork_all.ensures.refusal
