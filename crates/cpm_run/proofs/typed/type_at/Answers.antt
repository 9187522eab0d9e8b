use Rattle.std.proofs.Common.{ap, arith, subst, map}
use Rattle.std.proofs.lemmas.Result.{err_from_is_err_and}
use Rattle.std.specs.Io.KnownBytes.{Appends}
use Rattle.cpm_batch.specs.Inputs.{start_view}
use Rattle.cpm_machine.specs.MachineState.{MachineState}
use Rattle.cpm_play.specs.Playing.{alone_by}
use Rattle.cpm_play.specs.Sitting.{IsTypedPlay, sitting}
use Rattle.cpm_script.specs.Cues.{cue_text}
use Rattle.cpm_run.specs.Settled.{most_steps}
use Rattle.cpm_run.proofs.TypedLemmas.{typing_cut}
use Rattle.cpm_run.proofs.typed.type_at.Goals as goal

pub returns-clause-typed : goal.returns-clause-typed
returns-clause-typed g c =
    let system = c.args.system.now in
    let unread = g.P.Typist.typing c.args.typist.now in
    let left = g.P.Typist.typing c.play_live.new.typist in
    let before = g.W.Write.contents c.args.out.now in
    let written = g.W.Write.contents c.play_live.new.out in
    let cues = c.as_slice.result.now in
    let play = c.in_ok-play.play in
    let keys = play.live.keys.items in
    let done = play.live.steps in
    let played = c.in_ok-play.ensures in
    let same = c.in_ok-machine.ensures.machine in
    record {
      done = done;
      cues = cues;
      says = ap (map cue_text) c.as_slice.ensures.value;
      given = played.keys;
      played = subst (λ (m : MachineState). IsTypedPlay (sitting unread.is_patient system m most_steps cues) unread left keys done play.end) same played.played;
      text = subst (λ (m : MachineState). Appends before written (alone_by system keys done m).session.console.screen) same played.text;
      lines = played.record;
      long = let greatest = c.max.ensures in let last = c.last_fork.ensures in let less = c.saturating_sub-last.ensures in let from = c.saved_count.ensures in omega arith;
    }

pub returns-in_err-play-clause-refusal : goal.returns-in_err-play-clause-refusal
returns-in_err-play-clause-refusal g c =
    let p = err_from_is_err_and c.from_residual-in_err-play.result c.from_residual-in_err-play.ensures.1 in
    rw (p.1, p.2) (typing_cut c.args.system.now (start_view c.args.session.now.start) c.args.session.now.cues.items c.as_slice.result.now _ c.in_ok-machine.machine c.play_live.new.machine c.in_err-play.field-0.0
    c.in_ok-machine.ensures.machine c.as_slice.ensures.value c.in_err-play.ensures.refused)
