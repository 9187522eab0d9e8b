use Rattle.std.proofs.Common.{◌∙◌, ap, subst}
use Rattle.cpm_play.specs.Players.{IsPlayRefusal}
use Rattle.cpm_play.specs.declared.error.PlayError.{PlayError}
use Rattle.cpm_play.specs.declared.error.PlayError.TheVariants.{ForkRefused}
use Rattle.cpm_slots.specs.declared.event.ForkError.{ForkError}
use Rattle.cpm_run.proofs.PlayLemmas.{lacks_frames, lacks_slots}
use Rattle.cpm_run.proofs.play.fork_refusal.Goals as goal

pub returns-in-NoFrames : goal.returns-in-NoFrames
returns-in-NoFrames c = λ h players r.
    let place = c.in-ForkRefused.place in
    let why = subst (λ (e : PlayError). IsPlayRefusal h players e) (c.in-ForkRefused.is ∙ ap (λ (f : ForkError). ForkRefused place f) c.in-NoFrames.is) r in
    lacks_frames c.args.config.now.sessions.items h players place c.name_at.result.bytes why c.name_at.ensures

pub returns-in_default : goal.returns-in_default
returns-in_default c = λ h players r.
    let place = c.in-ForkRefused.place in
    let why = subst (λ (e : PlayError). IsPlayRefusal h players e) c.in-ForkRefused.is r in
    lacks_slots c.args.config.now.sessions.items h players place c.in-ForkRefused.fault c.name_at-in_default.result.bytes c.in_default.not-NoFrames why c.name_at-in_default.ensures
