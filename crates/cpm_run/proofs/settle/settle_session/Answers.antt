use Rattle.std.proofs.Common.{◌≡◌, length, map, refl, rules, subst}
use Rattle.std.specs.Prelude.{IfSome, Option}
use Rattle.cpm_batch.specs.Inputs.{StartInput, given}
use Rattle.cpm_run.specs.Settled.{settled_view, typed_view}
use Rattle.cpm_run.specs.Settling.{IsOpenable, part_view}
use Rattle.cpm_run.proofs.SettleLemmas.{part_fit, session_sound}
use Rattle.cpm_run.proofs.settle.settle_session.Goals as goal

pub settle_part-requires-clause-fit : goal.settle_part-requires-clause-fit
settle_part-requires-clause-fit g c =
    part_fit c.args.system.now (typed_view c.args.typed.now) c.args.config.now.sessions.items (map settled_view c.args.settled.now) (given c.args.input) (part_view c.in_ok-part.part) c.in_ok-part.ensures.part c.requires.sound
    c.requires.fit

pub settle_part-requires-clause-openable : goal.settle_part-requires-clause-openable
settle_part-requires-clause-openable g c = subst (λ (o : Option StartInput). IfSome o IsOpenable) c.in_ok-part.ensures.opened c.requires.openable

pub returns-clause-sound : goal.returns-clause-sound
returns-clause-sound g c =
    let long : c.len-before.result ≡ length c.in_ok-part.part.before.items = search rules in
    session_sound c.args.system.now (typed_view c.args.typed.now) c.args.config.now.sessions.items (map settled_view c.args.settled.now) (given c.args.input) (part_view c.in_ok-part.part)
    (settled_view record {
      session = c.args.input.session;
      start = c.args.input.start;
      keys = c.in_ok-live.live.keys;
      before = c.len-before.result;
      steps = c.in_ok-live.live.steps;
      is_idle = c.in_ok-live.is_idle;
      typing = c.typing_at.result;
    })
    c.in_ok-part.ensures.part c.requires.sound c.requires.fit.parent refl long c.in_ok-live.ensures.sound
