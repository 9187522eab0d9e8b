use Rattle.std.proofs.Common.{◌≡◌, ◌-◌, ◌<◌, ◌^◌, ◌∙◌, refl, ap, arith, inr, sym}
use Rattle.std.proofs.lemmas.Result.{err_from_is_err_and}
use Rattle.cpm_machine.specs.Step.{after}
use Rattle.cpm_play.specs.Output.{output_state}
use Rattle.cpm_play.specs.Sitting.{sitting}
use Rattle.cpm_play.specs.Typist.{IsHeard}
use Rattle.cpm_play.specs.declared.typist.Heard.TheVariants as heard
use Rattle.cpm_play.proofs.GoingLemmas.{going-ending, going-given, going-left, going-printed, going-shown, going-waiting}
use Rattle.cpm_play.proofs.LiveEndLemmas.{fewer-asks, room-used, takes-first}
use Rattle.cpm_play.proofs.LiveLemmas.{listened-failed, listened-still, live-done, live-ended, live-key, live-not-given, live-quit, live-start, live-still, live-turn, live-unheard, live-unshown, live-watched, is-wanted, not-wanted, patient-wanted}
use Rattle.cpm_play.proofs.PollLemmas.{leaves-least}
use Rattle.cpm_play.proofs.WantingLemmas.{busy-here, few-here, idle-here, none-here, wanted-here}
use Rattle.cpm_play.proofs.live.play_live.Goals as goal

pub loop-live-init : goal.loop-live-init
loop-live-init g c = (
  live-start (sitting (g.T.Typist.typing c.args.typist.now).is_patient c.args.system.now c.args.machine.now c.args.steps c.args.cues.now) _ c.play_script.new.machine (output_state (g.W.Write.contents c.args.out.now) (g.L.Write.contents c.args.list.now)) (output_state (g.W.Write.contents c.play_script.new.out) (g.L.Write.contents c.play_script.new.list))
      (g.S.Write.contents c.args.record.now) (g.S.Write.contents c.play_script.new.record) (g.T.Typist.typing c.args.typist.now) (g.T.Typist.typing c.play_script.new.typist) c.in_ok-live.live.keys.items c.in_ok-live.live.steps c.new-watch.result
      c.in_ok-live.ensures.going refl c.play_script.ensures.attended c.in_ok-live.ensures.keys c.in_ok-live.ensures.none c.new-watch.ensures,
  c.play_script.ensures.attended.nature,
)

pub returns-in_err-end-clause-refused : goal.returns-in_err-end-clause-refused
returns-in_err-end-clause-refused g c =
    let p = err_from_is_err_and c.from_residual-in_err-end.result c.from_residual-in_err-end.ensures.1 in
    let live = c.loop-live.invariant.0 in
    rw (p.1, p.2) (inr (live-unheard live (g.T.Typist.typing c.hear.new.typist) c.in_err-end.field-0.0 c.in_err-end.ensures.refused (listened-failed live.listened (g.T.Typist.typing c.hear.new.typist) c.in_err-end.ensures.none)
    (λ patient. wanted-here live.going (live-watched live) c.look.result c.look.ensures c.need-need.result c.need-need.ensures (c.in_err-end.ensures.early (c.loop-live.invariant.1 ∙ patient)))))

pub returns-in-End-clause-played : goal.returns-in-End-clause-played
returns-in-End-clause-played g c =
    let live = c.loop-live.invariant.0 in
    let is : IsHeard c.loop-live.live.steps (g.T.Typist.typing c.loop-live.typist) (g.T.Typist.typing c.hear.new.typist) (heard.End c.in-End.end) = rw c.in-End.is at c.in_ok-end.ensures.heard in
    live-quit live (g.T.Typist.typing c.hear.new.typist) c.in-End.end is
    (λ patient. wanted-here live.going (live-watched live) c.look.result c.look.ensures c.need-need.result c.need-need.ensures
    (patient-wanted c.need-need.result (heard.End c.in-End.end) (λ e. let bad : ⊥ = cc in bad) (rw c.in-End.is at (c.in_ok-end.ensures.patient (c.loop-live.invariant.1 ∙ patient)))))

pub give-requires-clause-room : goal.give-requires-clause-room
give-requires-clause-room g c =
    let live = c.loop-live.invariant.0 in
    takes-first c.loop-live.machine (none-here live.going (live-watched live) c.look.result c.look.ensures c.need-need.result c.need-need.ensures c.in-Key.byte (rw c.in-Key.is at c.in_ok-end.ensures.fits))

pub returns-in_err-give-in-Key-clause-refused : goal.returns-in_err-give-in-Key-clause-refused
returns-in_err-give-in-Key-clause-refused g c =
    let p = err_from_is_err_and c.from_residual-in_err-give-in-Key.result c.from_residual-in_err-give-in-Key.ensures.1 in
    let live = c.loop-live.invariant.0 in
    let is : IsHeard c.loop-live.live.steps (g.T.Typist.typing c.loop-live.typist) (g.T.Typist.typing c.hear.new.typist) (heard.Key c.in-Key.byte) = rw c.in-Key.is at c.in_ok-end.ensures.heard in
    rw (p.1, p.2) (inr (live-not-given live (g.T.Typist.typing c.hear.new.typist) c.in-Key.byte c.give.new.machine (g.S.Write.contents c.give.new.record) c.in_err-give-in-Key.field-0.0 is
    (λ patient. wanted-here live.going (live-watched live) c.look.result c.look.ensures c.need-need.result c.need-need.ensures
    (patient-wanted c.need-need.result (heard.Key c.in-Key.byte) (λ e. let bad : ⊥ = cc in bad) (rw c.in-Key.is at (c.in_ok-end.ensures.patient (c.loop-live.invariant.1 ∙ patient)))))
    c.in_err-give-in-Key.ensures.waits c.in_err-give-in-Key.ensures.refused))

pub loop-live-smaller-in-Key : goal.loop-live-smaller-in-Key
loop-live-smaller-in-Key g c =
    let live = c.loop-live.invariant.0 in
    let none = none-here live.going (live-watched live) c.look.result c.look.ensures c.need-need.result c.need-need.ensures c.in-Key.byte (rw c.in-Key.is at c.in_ok-end.ensures.fits) in
    rw c.give.ensures.steps (room-used c.loop-live.asks (c.args.steps - c.loop-live.live.steps) c.in-Key.byte c.loop-live.machine c.give.new.machine none c.in_ok-give-in-Key.ensures.pressed)

pub loop-live-preserved-in-Key : goal.loop-live-preserved-in-Key
loop-live-preserved-in-Key g c =
    let live = c.loop-live.invariant.0 in
    let is : IsHeard c.loop-live.live.steps (g.T.Typist.typing c.loop-live.typist) (g.T.Typist.typing c.hear.new.typist) (heard.Key c.in-Key.byte) = rw c.in-Key.is at c.in_ok-end.ensures.heard in
    let fits : c.loop-live.live.steps < 2 ^ 64 = let less = c.loop-live-test.true in let most = c.ranges.steps.fits in omega arith in
    rw c.give.ensures.steps (
      live-key live (g.T.Typist.typing c.hear.new.typist) c.in-Key.byte c.give.new.machine (g.S.Write.contents c.give.new.record) c.give.new.self.keys.items c.give-in-Key.new.self is
          (λ patient. wanted-here live.going (live-watched live) c.look.result c.look.ensures c.need-need.result c.need-need.ensures
          (patient-wanted c.need-need.result (heard.Key c.in-Key.byte) (λ e. let bad : ⊥ = cc in bad) (rw c.in-Key.is at (c.in_ok-end.ensures.patient (c.loop-live.invariant.1 ∙ patient)))))
          fits c.in_ok-give-in-Key.ensures.key c.in_ok-give-in-Key.ensures.pressed c.in_ok-give-in-Key.ensures.record c.give-in-Key.ensures,
      c.hear.ensures.nature ∙ c.loop-live.invariant.1,
    )

pub returns-then-asks-eq0-clause-refused : goal.returns-then-asks-eq0-clause-refused
returns-then-asks-eq0-clause-refused g c =
    let live = c.loop-live.invariant.0 in
    let is : IsHeard c.loop-live.live.steps (g.T.Typist.typing c.loop-live.typist) (g.T.Typist.typing c.hear.new.typist) heard.Nothing = rw c.in-Nothing.is at c.in_ok-end.ensures.heard in
    inr (live-unheard live (g.T.Typist.typing c.hear.new.typist) c.unheard.result c.unheard.ensures (listened-still live.listened (g.T.Typist.typing c.hear.new.typist) is)
    (λ patient. wanted-here live.going (live-watched live) c.look.result c.look.ensures c.need-need.result c.need-need.ensures (is-wanted c.need-need.result (sym c.wants_key.ensures ∙ c.if-wants_key.true))))

pub loop-live-smaller-then-wants_key : goal.loop-live-smaller-then-wants_key
loop-live-smaller-then-wants_key g c =
    let some = c.if-asks-eq0.false in
    fewer-asks c.loop-live.asks _ (omega (arith, some))

pub loop-live-preserved-then-wants_key : goal.loop-live-preserved-then-wants_key
loop-live-preserved-then-wants_key g c =
    let live = c.loop-live.invariant.0 in
    let is : IsHeard c.loop-live.live.steps (g.T.Typist.typing c.loop-live.typist) (g.T.Typist.typing c.hear.new.typist) heard.Nothing = rw c.in-Nothing.is at c.in_ok-end.ensures.heard in
    (live-still live (g.T.Typist.typing c.hear.new.typist) is, c.hear.ensures.nature ∙ c.loop-live.invariant.1)

pub turn-executed-requires-clause-busy : goal.turn-executed-requires-clause-busy
turn-executed-requires-clause-busy g c =
    let live = c.loop-live.invariant.0 in
    idle-here live.going (live-watched live) c.look.result c.look.ensures c.need-need.result c.need-need.ensures (not-wanted c.need-need.result (sym c.wants_key.ensures ∙ c.if-wants_key.false))

pub returns-then-executed-eq0-clause-played : goal.returns-then-executed-eq0-clause-played
returns-then-executed-eq0-clause-played g c =
    let live = c.loop-live.invariant.0 in
    let is : IsHeard c.loop-live.live.steps (g.T.Typist.typing c.loop-live.typist) (g.T.Typist.typing c.hear.new.typist) heard.Nothing = rw c.in-Nothing-2.is at c.in_ok-end.ensures.heard in
    live-ended live (g.T.Typist.typing c.hear.new.typist) is (c.turn-executed.ensures.ended c.if-executed-eq0.true live.going.quiet)

pub loop-live-preserved : goal.loop-live-preserved
loop-live-preserved g c =
    let live = c.loop-live.invariant.0 in
    let is : IsHeard c.loop-live.live.steps (g.T.Typist.typing c.loop-live.typist) (g.T.Typist.typing c.hear.new.typist) heard.Nothing = rw c.in-Nothing-2.is at c.in_ok-end.ensures.heard in
    let some : 0 < c.turn-executed.result = let more = c.if-executed-eq0.false in omega (arith, more) in
    let busy = busy-here live.going (live-watched live) c.look.result c.look.ensures c.need-need.result c.need-need.ensures (not-wanted c.need-need.result (sym c.wants_key.ensures ∙ c.if-wants_key.false)) in (
      live-turn live (g.T.Typist.typing c.hear.new.typist) c.turn-executed.result c.min-most.result c.turn-executed.new.machine c.show.new.machine (output_state (g.W.Write.contents c.show.new.out) (g.L.Write.contents c.show.new.list)) c.turn-executed.new.watch is
          some (let least = c.min-most.ensures in let few = c.turn-executed.ensures.within in omega arith) c.turn-executed.ensures.few busy
          (few-here live.going (live-watched live) c.look.result c.look.ensures c.need-need.result c.need-need.ensures (not-wanted c.need-need.result (sym c.wants_key.ensures ∙ c.if-wants_key.false)))
          (λ patient. leaves-least c.most_steps.result (c.args.steps - c.loop-live.live.steps) c.min-most.result (c.most_steps.ensures.patient (c.hear.ensures.nature ∙ c.loop-live.invariant.1 ∙ patient)) c.min-most.ensures)
          (λ patient. c.turn-executed.ensures.counted (c.is_patient-is_patient.ensures ∙ c.play_script.ensures.attended.nature ∙ patient)) c.turn-executed.ensures.state c.turn-executed.ensures.watched c.in_ok-show-in-Nothing-2.ensures.state c.in_ok-show-in-Nothing-2.ensures.output,
      c.hear.ensures.nature ∙ c.loop-live.invariant.1,
    )

pub returns-in_err-show-in-Nothing-2-clause-refused : goal.returns-in_err-show-in-Nothing-2-clause-refused
returns-in_err-show-in-Nothing-2-clause-refused g c =
    let p = err_from_is_err_and c.from_residual-in_err-show-in-Nothing-2.result c.from_residual-in_err-show-in-Nothing-2.ensures.1 in
    let live = c.loop-live.invariant.0 in
    let is : IsHeard c.loop-live.live.steps (g.T.Typist.typing c.loop-live.typist) (g.T.Typist.typing c.hear.new.typist) heard.Nothing = rw c.in-Nothing-2.is at c.in_ok-end.ensures.heard in
    rw (p.1, p.2) (inr (live-unshown live (g.T.Typist.typing c.hear.new.typist) c.turn-executed.result c.turn-executed.new.machine c.show.new.machine (output_state (g.W.Write.contents c.show.new.out) (g.L.Write.contents c.show.new.list)) c.in_err-show-in-Nothing-2.field-0.0 is
    (let least = c.min-most.ensures in let few = c.turn-executed.ensures.within in omega arith) c.turn-executed.ensures.state c.in_err-show-in-Nothing-2.ensures.refused))

pub returns-clause-within : goal.returns-clause-within
returns-clause-within g c = c.loop-live.invariant.0.going.within

pub returns-clause-played : goal.returns-clause-played
returns-clause-played g c = live-done c.loop-live.invariant.0 (let past = c.loop-live-test.false in omega arith)

pub returns-in-End-clause-keys : goal.returns-in-End-clause-keys
returns-in-End-clause-keys g c = going-given _ _ _ _ _ _ _ _ _ _ _ c.loop-live.invariant.0.going

pub returns-in-End-clause-text : goal.returns-in-End-clause-text
returns-in-End-clause-text g c = going-shown _ _ _ _ _ _ _ _ _ _ _ c.loop-live.invariant.0.going

pub returns-in-End-clause-list : goal.returns-in-End-clause-list
returns-in-End-clause-list g c = going-printed _ _ _ _ _ _ _ _ _ _ _ c.loop-live.invariant.0.going

pub returns-in-End-clause-ending : goal.returns-in-End-clause-ending
returns-in-End-clause-ending g c = going-ending _ _ _ _ _ _ _ _ _ _ _ c.loop-live.invariant.0.going

pub returns-in-End-clause-state : goal.returns-in-End-clause-state
returns-in-End-clause-state g c = going-left _ _ _ _ _ _ _ _ _ _ _ c.loop-live.invariant.0.going

pub returns-in-End-clause-record : goal.returns-in-End-clause-record
returns-in-End-clause-record g c = c.loop-live.invariant.0.going.noted

pub returns-in-End-clause-waits : goal.returns-in-End-clause-waits
returns-in-End-clause-waits g c = going-waiting _ _ _ _ _ _ _ _ _ _ _ c.loop-live.invariant.0.going

pub returns-clause-keys : goal.returns-clause-keys
returns-clause-keys g c = going-given _ _ _ _ _ _ _ _ _ _ _ c.loop-live.invariant.0.going

pub returns-clause-text : goal.returns-clause-text
returns-clause-text g c = going-shown _ _ _ _ _ _ _ _ _ _ _ c.loop-live.invariant.0.going

pub returns-clause-list : goal.returns-clause-list
returns-clause-list g c = going-printed _ _ _ _ _ _ _ _ _ _ _ c.loop-live.invariant.0.going

pub returns-clause-ending : goal.returns-clause-ending
returns-clause-ending g c = going-ending _ _ _ _ _ _ _ _ _ _ _ c.loop-live.invariant.0.going

pub returns-clause-state : goal.returns-clause-state
returns-clause-state g c = going-left _ _ _ _ _ _ _ _ _ _ _ c.loop-live.invariant.0.going

pub returns-clause-record : goal.returns-clause-record
returns-clause-record g c = c.loop-live.invariant.0.going.noted

pub returns-clause-waits : goal.returns-clause-waits
returns-clause-waits g c = going-waiting _ _ _ _ _ _ _ _ _ _ _ c.loop-live.invariant.0.going

pub returns-then-executed-eq0-clause-keys : goal.returns-then-executed-eq0-clause-keys
returns-then-executed-eq0-clause-keys g c = going-given _ _ _ _ _ _ _ _ _ _ _ c.loop-live.invariant.0.going

pub returns-then-executed-eq0-clause-text : goal.returns-then-executed-eq0-clause-text
returns-then-executed-eq0-clause-text g c = going-shown _ _ _ _ _ _ _ _ _ _ _ c.loop-live.invariant.0.going

pub returns-then-executed-eq0-clause-list : goal.returns-then-executed-eq0-clause-list
returns-then-executed-eq0-clause-list g c = going-printed _ _ _ _ _ _ _ _ _ _ _ c.loop-live.invariant.0.going

pub returns-then-executed-eq0-clause-ending : goal.returns-then-executed-eq0-clause-ending
returns-then-executed-eq0-clause-ending g c =
    let still : c.turn-executed.new.machine ≡ c.loop-live.machine =
    c.turn-executed.ensures.state ∙ ap (λ k. after c.args.system.now k c.loop-live.machine) c.if-executed-eq0.true in
    rw still (going-ending _ _ _ _ _ _ _ _ _ _ _ c.loop-live.invariant.0.going)

pub returns-then-executed-eq0-clause-state : goal.returns-then-executed-eq0-clause-state
returns-then-executed-eq0-clause-state g c =
    let still : c.turn-executed.new.machine ≡ c.loop-live.machine =
    c.turn-executed.ensures.state ∙ ap (λ k. after c.args.system.now k c.loop-live.machine) c.if-executed-eq0.true in
    still ∙ going-left _ _ _ _ _ _ _ _ _ _ _ c.loop-live.invariant.0.going

pub returns-then-executed-eq0-clause-record : goal.returns-then-executed-eq0-clause-record
returns-then-executed-eq0-clause-record g c = c.loop-live.invariant.0.going.noted

pub returns-then-executed-eq0-clause-waits : goal.returns-then-executed-eq0-clause-waits
returns-then-executed-eq0-clause-waits g c =
    let still : c.turn-executed.new.machine ≡ c.loop-live.machine =
    c.turn-executed.ensures.state ∙ ap (λ k. after c.args.system.now k c.loop-live.machine) c.if-executed-eq0.true in
    rw still (going-waiting _ _ _ _ _ _ _ _ _ _ _ c.loop-live.invariant.0.going)
