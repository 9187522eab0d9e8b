use Rattle.std.proofs.Common.{◌≡◌, ◌∙◌, ◌<◌, ◌≤◌, List, get_or, length, subst}
use Rattle.std.specs.Prelude.{max}
use Rattle.cpm_config.specs.declared.config.SessionConfig.{SessionConfig}
use Rattle.cpm_run.proofs.PartLemmas.{all_forks, fork_more, no_forks}
use Rattle.cpm_run.proofs.part.last_fork.Goals as goal

pub loop-session-init : goal.loop-session-init
loop-session-init c = no_forks c.args.name.now c.args.config.now.sessions.items

pub loop-session-preserved : goal.loop-session-preserved
loop-session-preserved c =
    let i = c.loop-session.session-index in
    let s = c.session-item.result in
    let all = c.deref-session-items.ensures.value in
    let within = subst (λ (ss : List SessionConfig). i < length ss) all c.loop-session-test.true in
    let is = subst (λ (ss : List SessionConfig). s ≡ get_or ss i s) all c.session-item.is in
    fork_more c.args.name.now c.loop-session.last c.max-last.result c.args.config.now.sessions.items i s within is
    (subst (λ n. c.max-last.result ≡ max n c.loop-session.last) c.fork_count.ensures c.max-last.ensures) ∙ c.loop-session.invariant

pub returns : goal.returns
returns c =
    let past = subst (λ (ss : List SessionConfig). length ss ≤ c.loop-session.session-index) c.deref-session-items.ensures.value c.loop-session-test.false in
    all_forks c.args.name.now c.loop-session.last c.args.config.now.sessions.items c.loop-session.session-index past ∙ c.loop-session.invariant
