use Rattle.std.proofs.Common.{inl, inr, arith, refl}
use Rattle.std.proofs.lemmas.Result.{err_from_is_err_and}
use Rattle.cpm_play.specs.Output.{output_state}
use Rattle.cpm_play.proofs.CuedLemmas.{cued-whole, going-cut, idle-ends, idle-going}
use Rattle.cpm_play.proofs.GoingLemmas.{going-ending, going-given, going-left, going-printed, going-shown, going-waiting}
use Rattle.cpm_play.proofs.RoomLemmas.{cued-room}
use Rattle.cpm_play.proofs.cued.play_cues.Goals.{then-cued, else-cued}
use Rattle.cpm_play.proofs.cued.play_cues.Goals as goal

pub idle-requires-clause-quiet : goal.idle-requires-clause-quiet
idle-requires-clause-quiet g c = c.in_ok-live.ensures.going.quiet

pub idle-requires-clause-within : goal.idle-requires-clause-within
idle-requires-clause-within g c = c.in_ok-live.ensures.going.within

pub returns-in_err-idle-clause-refused : goal.returns-in_err-idle-clause-refused
returns-in_err-idle-clause-refused g c =
    let p = err_from_is_err_and c.from_residual-in_err-idle.result c.from_residual-in_err-idle.ensures.1 in
    let cut = c.in_err-idle.ensures.refused in
    let fits = cut.1 in
    let within = c.in_ok-live.ensures.going.within in
    rw (p.1, p.2) (going-cut c.args.cued.waits_from c.args.cued.cues.now c.in_ok-live.ensures.going c.idle.new.machine (output_state (g.W.Write.contents c.idle.new.out) (g.L.Write.contents c.idle.new.list)) c.in_err-idle.field-0.0 cut.0 cut.1 cut.2
    (c.in_ok-live.ensures.keys _ (omega arith) (omega arith)))

pub returns-clause-keys : goal.returns-clause-keys
returns-clause-keys g c =
    rw c.idle.ensures.still (cued-whole _ _ _ _ _ _ _ c.in_ok-live.ensures.going.within c.in_ok-live.ensures.keys)

pub returns-clause-room : goal.returns-clause-room
returns-clause-room g c =
    rw c.idle.ensures.still (cued-room _ _ _ _ _ _ _ _ _ _ tt (cued-whole _ _ _ _ _ _ _ c.in_ok-live.ensures.going.within c.in_ok-live.ensures.keys))

pub returns-clause-given : goal.returns-clause-given
returns-clause-given g c =
    let went = idle-going c.in_ok-live.ensures.going c.in_ok-idle.ensures.idled c.idle.new.self.keys.items c.idle.ensures.still c.in_ok-idle.ensures.within in
    going-given _ _ _ _ _ _ _ _ _ _ _ went

pub returns-clause-text : goal.returns-clause-text
returns-clause-text g c =
    let went = idle-going c.in_ok-live.ensures.going c.in_ok-idle.ensures.idled c.idle.new.self.keys.items c.idle.ensures.still c.in_ok-idle.ensures.within in
    going-shown _ _ _ _ _ _ _ _ _ _ _ went

pub returns-clause-list : goal.returns-clause-list
returns-clause-list g c =
    let went = idle-going c.in_ok-live.ensures.going c.in_ok-idle.ensures.idled c.idle.new.self.keys.items c.idle.ensures.still c.in_ok-idle.ensures.within in
    going-printed _ _ _ _ _ _ _ _ _ _ _ went

pub returns-clause-ending : goal.returns-clause-ending
returns-clause-ending g c =
    let went = idle-going c.in_ok-live.ensures.going c.in_ok-idle.ensures.idled c.idle.new.self.keys.items c.idle.ensures.still c.in_ok-idle.ensures.within in
    going-ending _ _ _ _ _ _ _ _ _ _ _ went

pub returns-clause-state : goal.returns-clause-state
returns-clause-state g c =
    let went = idle-going c.in_ok-live.ensures.going c.in_ok-idle.ensures.idled c.idle.new.self.keys.items c.idle.ensures.still c.in_ok-idle.ensures.within in
    going-left _ _ _ _ _ _ _ _ _ _ _ went

pub returns-clause-record : goal.returns-clause-record
returns-clause-record g c =
    let went = idle-going c.in_ok-live.ensures.going c.in_ok-idle.ensures.idled c.idle.new.self.keys.items c.idle.ensures.still c.in_ok-idle.ensures.within in
    went.noted

pub returns-clause-ends : goal.returns-clause-ends
returns-clause-ends g c =
    idle-ends c.in_ok-live.ensures.going c.in_ok-idle.ensures.idled refl c.args.cued.waits_from c.args.cued.stops_idle c.idle.new.self.keys.items c.idle.ensures.still
    (elim c.if-cued.branch [
      | then-cued w ↦ inl (w.if-cued.true, w.waits_from-is)
      | else-cued w ↦ inr (w.if-cued.false, w.waits_from-is)
    ]) c.in_ok-idle.ensures.within (c.in_ok-live.ensures.busy refl)

pub returns-clause-waits : goal.returns-clause-waits
returns-clause-waits g c =
    let went = idle-going c.in_ok-live.ensures.going c.in_ok-idle.ensures.idled c.idle.new.self.keys.items c.idle.ensures.still c.in_ok-idle.ensures.within in
    going-waiting _ _ _ _ _ _ _ _ _ _ _ went
