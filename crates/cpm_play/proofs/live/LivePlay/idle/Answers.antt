use Rattle.std.proofs.Common.{arith}
use Rattle.std.proofs.lemmas.Result.{err_from_is_err_and}
use Rattle.cpm_play.specs.Output.{output_state}
use Rattle.cpm_play.specs.Typist.{is_over}
use Rattle.cpm_play.proofs.AttendedLemmas.{attended-more}
use Rattle.cpm_play.proofs.RunLemmas.{pause-cut, pause-idled, pause-kept, pause-short, quiet-taken}
use Rattle.cpm_play.proofs.live.LivePlay.idle.Goals as goal

pub overflow_add-self : goal.overflow_add-self
overflow_add-self g c =
    let paused = c.saturating_sub-pause.ensures in
    let least = c.min.ensures in
    let low = c.requires.within in
    let first = c.in_ok-self.ensures.within in
    let most = c.ranges.steps.fits in omega arith

pub overflow_sub-left : goal.overflow_sub-left
overflow_sub-left g c =
    let paused = c.saturating_sub-pause.ensures in
    let least = c.min.ensures in
    let low = c.requires.within in
    let first = c.in_ok-self.ensures.within in
    omega arith

pub run-requires-2 : goal.run-requires-2
run-requires-2 g c =
    quiet-taken _ _ _ _ c.in_ok-self.ensures.run

pub returns-in_err-self-clause-refused : goal.returns-in_err-self-clause-refused
returns-in_err-self-clause-refused g c =
    let paused = c.saturating_sub-pause.ensures in
    let least = c.min.ensures in
    let low = c.requires.within in
    let p = err_from_is_err_and c.from_residual.result c.from_residual.ensures.1 in
    rw (p.1, p.2) (pause-short c.args.system.now c.args.steps c.args.waits_from c.args.self.now.steps c.saturating_sub-pause.result c.args.machine.now c.run.new.machine (output_state (g.W.Write.contents c.args.out.now) (g.L.Write.contents c.args.list.now)) (output_state (g.W.Write.contents c.run.new.out) (g.L.Write.contents c.run.new.list)) c.in_err-self.field-0.0
    low (omega arith) c.in_err-self.ensures.refused)

pub returns-in_err-self-2-clause-refused : goal.returns-in_err-self-2-clause-refused
returns-in_err-self-2-clause-refused g c =
    let paused = c.saturating_sub-pause.ensures in
    let least = c.min.ensures in
    let low = c.requires.within in
    let p = err_from_is_err_and c.from_residual-in_err-self-2.result c.from_residual-in_err-self-2.ensures.1 in
    rw (p.1, p.2) (pause-cut c.args.system.now c.args.steps c.args.waits_from c.args.self.now.steps c.saturating_sub-pause.result c.in_ok-self.field-0 0 c.args.machine.now c.run.new.machine c.run-2.new.machine (output_state (g.W.Write.contents c.args.out.now) (g.L.Write.contents c.args.list.now)) (output_state (g.W.Write.contents c.run.new.out) (g.L.Write.contents c.run.new.list)) (output_state (g.W.Write.contents c.run-2.new.out) (g.L.Write.contents c.run-2.new.list))
    low (omega arith) c.in_ok-self.ensures.within c.in_ok-self.ensures.run
    c.in_err-self-2.field-0.0 c.in_err-self-2.ensures.refused)

pub overflow_add-self-2 : goal.overflow_add-self-2
overflow_add-self-2 g c =
    let paused = c.saturating_sub-pause.ensures in
    let least = c.min.ensures in
    let low = c.requires.within in
    let first = c.in_ok-self.ensures.within in
    let second = c.in_ok-self-2.ensures.within in
    let most = c.ranges.steps.fits in omega arith

pub returns-clause-within : goal.returns-clause-within
returns-clause-within g c =
    let paused = c.saturating_sub-pause.ensures in
    let least = c.min.ensures in
    let low = c.requires.within in
    let first = c.in_ok-self.ensures.within in
    let second = c.in_ok-self-2.ensures.within in
    omega arith

pub returns-clause-idled : goal.returns-clause-idled
returns-clause-idled g c =
    let paused = c.saturating_sub-pause.ensures in
    let least = c.min.ensures in
    let low = c.requires.within in
    pause-idled c.args.system.now c.args.steps c.args.waits_from c.args.self.now.steps c.saturating_sub-pause.result c.in_ok-self.field-0 c.in_ok-self-2.field-0 c.args.machine.now c.run.new.machine c.run-2.new.machine (output_state (g.W.Write.contents c.args.out.now) (g.L.Write.contents c.args.list.now)) (output_state (g.W.Write.contents c.run.new.out) (g.L.Write.contents c.run.new.list)) (output_state (g.W.Write.contents c.run-2.new.out) (g.L.Write.contents c.run-2.new.list))
    low (omega arith) c.in_ok-self.ensures.within c.in_ok-self.ensures.run
    (is_over (g.A.Attendant.attending c.run.new.attendant)) (is_over (g.A.Attendant.attending c.run-2.new.attendant)) c.run-2.ensures.attended.stays c.in_ok-self.ensures.stopped c.in_ok-self-2.ensures.within c.in_ok-self-2.ensures.run c.in_ok-self-2.ensures.stopped

pub returns-clause-kept : goal.returns-clause-kept
returns-clause-kept g c =
    let paused = c.saturating_sub-pause.ensures in
    let least = c.min.ensures in
    let low = c.requires.within in
    λ keeps. pause-kept c.args.system.now c.args.steps c.args.waits_from c.args.self.now.steps c.saturating_sub-pause.result c.in_ok-self.field-0 c.in_ok-self-2.field-0 c.args.machine.now c.run.new.machine c.run-2.new.machine (output_state (g.W.Write.contents c.args.out.now) (g.L.Write.contents c.args.list.now)) (output_state (g.W.Write.contents c.run.new.out) (g.L.Write.contents c.run.new.list)) (output_state (g.W.Write.contents c.run-2.new.out) (g.L.Write.contents c.run-2.new.list))
    low (omega arith) c.in_ok-self.ensures.within c.in_ok-self.ensures.run
    (is_over (g.A.Attendant.attending c.run.new.attendant)) (is_over (g.A.Attendant.attending c.run-2.new.attendant)) c.run-2.ensures.attended.stays c.in_ok-self.ensures.stopped c.in_ok-self-2.ensures.within c.in_ok-self-2.ensures.run c.in_ok-self-2.ensures.stopped
    c.args.shown.now c.run.new.shown c.run-2.new.shown (c.in_ok-self.ensures.kept keeps) (c.in_ok-self-2.ensures.kept keeps)

pub returns-clause-attended : goal.returns-clause-attended
returns-clause-attended g c = attended-more _ _ _ c.run.ensures.attended c.run-2.ensures.attended
