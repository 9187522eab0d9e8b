use Rattle.std.proofs.Common.{◌∙◌, ◌+◌, ℕ, ap, length}
use Rattle.std.proofs.lemmas.List.{length_push}
use Rattle.cpm_run.proofs.CheckpointLemmas.{written-more}
use Rattle.cpm_run.proofs.written.written_sessions.Goals as goal

pub loop-session-preserved : goal.loop-session-preserved
loop-session-preserved c =
    let l = c.loop-session in
    record {
      read = written-more l.sessions.items c.in_ok-written_if_begun.field-0 c.args.kept.now l.session-index c.session-item.result c.push.new.self.items c.loop-session-test.true c.session-item.is l.invariant.read
          c.in_ok-written_if_begun.ensures c.in_ok-push.ensures.items;
      long = ap length c.in_ok-push.ensures.items ∙ length_push l.sessions.items c.in_ok-written_if_begun.field-0 ∙ ap (λ (n : ℕ). n + 1) l.invariant.long;
    }
