use Rattle.std.proofs.Common.{◌-◌, ◌∙◌, arith, refl, sym, true≢false}
use Rattle.std.proofs.lemmas.Result.{err_from_is_err_and}
use Rattle.cpm_play.specs.Output.{output_state}
use Rattle.cpm_play.specs.Typist.{is_over}
use Rattle.cpm_play.proofs.AttendedLemmas.{attended-more, attended-none}
use Rattle.cpm_play.proofs.RunLemmas.{HasTurned, busy-more, kept-more, kept-none, quiet-taken, run-all, run-cut, run-more, run-none, run-over, run-still, run-stopped, turned-on, turned-to-wait}
use Rattle.cpm_play.proofs.cued.run.Goals.{then-to_wait, else-to_wait}
use Rattle.cpm_play.proofs.cued.run.Goals as goal

pub loop-executed-init : goal.loop-executed-init
loop-executed-init g c = record {
  within = omega arith;
  run = run-none c.args.system.now c.args.machine.now (output_state (g.W.Write.contents c.args.out.now) (g.L.Write.contents c.args.list.now)) c.requires;
  quiet = c.requires;
  attended = attended-none (g.A.Attendant.attending c.args.attendant.now);
  over = λ over. refl;
  busy = λ waits i below. absurd (omega arith);
  kept = λ keeps. kept-none c.args.machine.now c.args.shown.now c.requires;
}

pub returns-then-granted-eq0-clause-stopped : goal.returns-then-granted-eq0-clause-stopped
returns-then-granted-eq0-clause-stopped g c =
    let l = c.loop-executed in
    let turned : HasTurned c.args.to_wait c.args.system.now (c.args.steps - l.executed) c.if-to_wait.granted l.machine c.if-to_wait.machine = elim c.if-to_wait.branch [
      | then-to_wait w ↦
          let most = w.min.ensures in let cap = c.min-most.ensures in let told = c.most_turn.ensures in let left = c.loop-executed-test.true in
          turned-to-wait c.args.to_wait c.args.system.now (c.args.steps - l.executed) w.min.result c.if-to_wait.granted _ l.machine c.if-to_wait.machine _ w.granted-is w.machine-is
          w.if-to_wait.true (omega arith) (omega arith) w.grant_to_wait-granted.ensures.within w.grant_to_wait-granted.ensures.executed w.grant_to_wait-granted.ensures.state
      | else-to_wait w ↦
          let some = w.quantum_of.ensures in let most = w.min-else-to_wait.ensures in let cap = c.min-most.ensures in let told = c.most_turn.ensures in let left = c.loop-executed-test.true in
          turned-on c.args.to_wait c.args.system.now (c.args.steps - l.executed) w.min-else-to_wait.result c.if-to_wait.granted _ l.machine c.if-to_wait.machine _ w.granted-is w.machine-is
          w.if-to_wait.false (omega arith) (omega arith) w.grant.ensures.within w.grant.ensures.executed w.grant.ensures.state
    ] in
    run-stopped (is_over (g.A.Attendant.attending l.attendant)) c.args.to_wait c.args.system.now c.args.steps l.executed c.args.machine.now c.if-to_wait.machine l.invariant.busy (turned.stopped l.invariant.quiet c.if-granted-eq0.true)

pub returns-then-granted-eq0-clause-run : goal.returns-then-granted-eq0-clause-run
returns-then-granted-eq0-clause-run g c =
    let l = c.loop-executed in
    let turned : HasTurned c.args.to_wait c.args.system.now (c.args.steps - l.executed) c.if-to_wait.granted l.machine c.if-to_wait.machine = elim c.if-to_wait.branch [
      | then-to_wait w ↦
          let most = w.min.ensures in let cap = c.min-most.ensures in let told = c.most_turn.ensures in let left = c.loop-executed-test.true in
          turned-to-wait c.args.to_wait c.args.system.now (c.args.steps - l.executed) w.min.result c.if-to_wait.granted _ l.machine c.if-to_wait.machine _ w.granted-is w.machine-is
          w.if-to_wait.true (omega arith) (omega arith) w.grant_to_wait-granted.ensures.within w.grant_to_wait-granted.ensures.executed w.grant_to_wait-granted.ensures.state
      | else-to_wait w ↦
          let some = w.quantum_of.ensures in let most = w.min-else-to_wait.ensures in let cap = c.min-most.ensures in let told = c.most_turn.ensures in let left = c.loop-executed-test.true in
          turned-on c.args.to_wait c.args.system.now (c.args.steps - l.executed) w.min-else-to_wait.result c.if-to_wait.granted _ l.machine c.if-to_wait.machine _ w.granted-is w.machine-is
          w.if-to_wait.false (omega arith) (omega arith) w.grant.ensures.within w.grant.ensures.executed w.grant.ensures.state
    ] in
    run-still c.args.system.now l.executed c.args.machine.now l.machine (output_state (g.W.Write.contents c.args.out.now) (g.L.Write.contents c.args.list.now)) (output_state (g.W.Write.contents l.out) (g.L.Write.contents l.list)) l.invariant.run
    c.if-to_wait.granted c.if-to_wait.machine turned.state c.if-granted-eq0.true

pub returns-clause-stopped : goal.returns-clause-stopped
returns-clause-stopped g c =
    let l = c.loop-executed in
    run-all (is_over (g.A.Attendant.attending l.attendant)) c.args.to_wait c.args.system.now c.args.steps l.executed c.args.machine.now l.machine l.invariant.busy (let within = l.invariant.within in let past = c.loop-executed-test.false in omega arith)

pub overflow_add-executed : goal.overflow_add-executed
overflow_add-executed g c =
    let l = c.loop-executed in
    let turned : HasTurned c.args.to_wait c.args.system.now (c.args.steps - l.executed) c.if-to_wait.granted l.machine c.if-to_wait.machine = elim c.if-to_wait.branch [
      | then-to_wait w ↦
          let most = w.min.ensures in let cap = c.min-most.ensures in let told = c.most_turn.ensures in let left = c.loop-executed-test.true in
          turned-to-wait c.args.to_wait c.args.system.now (c.args.steps - l.executed) w.min.result c.if-to_wait.granted _ l.machine c.if-to_wait.machine _ w.granted-is w.machine-is
          w.if-to_wait.true (omega arith) (omega arith) w.grant_to_wait-granted.ensures.within w.grant_to_wait-granted.ensures.executed w.grant_to_wait-granted.ensures.state
      | else-to_wait w ↦
          let some = w.quantum_of.ensures in let most = w.min-else-to_wait.ensures in let cap = c.min-most.ensures in let told = c.most_turn.ensures in let left = c.loop-executed-test.true in
          turned-on c.args.to_wait c.args.system.now (c.args.steps - l.executed) w.min-else-to_wait.result c.if-to_wait.granted _ l.machine c.if-to_wait.machine _ w.granted-is w.machine-is
          w.if-to_wait.false (omega arith) (omega arith) w.grant.ensures.within w.grant.ensures.executed w.grant.ensures.state
    ] in
    let within = turned.within in let most = c.ranges.steps.fits in omega arith

pub loop-executed-smaller : goal.loop-executed-smaller
loop-executed-smaller g c =
    let l = c.loop-executed in
    let turned : HasTurned c.args.to_wait c.args.system.now (c.args.steps - l.executed) c.if-to_wait.granted l.machine c.if-to_wait.machine = elim c.if-to_wait.branch [
      | then-to_wait w ↦
          let most = w.min.ensures in let cap = c.min-most.ensures in let told = c.most_turn.ensures in let left = c.loop-executed-test.true in
          turned-to-wait c.args.to_wait c.args.system.now (c.args.steps - l.executed) w.min.result c.if-to_wait.granted _ l.machine c.if-to_wait.machine _ w.granted-is w.machine-is
          w.if-to_wait.true (omega arith) (omega arith) w.grant_to_wait-granted.ensures.within w.grant_to_wait-granted.ensures.executed w.grant_to_wait-granted.ensures.state
      | else-to_wait w ↦
          let some = w.quantum_of.ensures in let most = w.min-else-to_wait.ensures in let cap = c.min-most.ensures in let told = c.most_turn.ensures in let left = c.loop-executed-test.true in
          turned-on c.args.to_wait c.args.system.now (c.args.steps - l.executed) w.min-else-to_wait.result c.if-to_wait.granted _ l.machine c.if-to_wait.machine _ w.granted-is w.machine-is
          w.if-to_wait.false (omega arith) (omega arith) w.grant.ensures.within w.grant.ensures.executed w.grant.ensures.state
    ] in
    let within = turned.within in let some = c.if-granted-eq0.false in let left = c.loop-executed-test.true in omega arith

pub loop-executed-preserved : goal.loop-executed-preserved
loop-executed-preserved g c =
    let l = c.loop-executed in
    let turned : HasTurned c.args.to_wait c.args.system.now (c.args.steps - l.executed) c.if-to_wait.granted l.machine c.if-to_wait.machine = elim c.if-to_wait.branch [
      | then-to_wait w ↦
          let most = w.min.ensures in let cap = c.min-most.ensures in let told = c.most_turn.ensures in let left = c.loop-executed-test.true in
          turned-to-wait c.args.to_wait c.args.system.now (c.args.steps - l.executed) w.min.result c.if-to_wait.granted _ l.machine c.if-to_wait.machine _ w.granted-is w.machine-is
          w.if-to_wait.true (omega arith) (omega arith) w.grant_to_wait-granted.ensures.within w.grant_to_wait-granted.ensures.executed w.grant_to_wait-granted.ensures.state
      | else-to_wait w ↦
          let some = w.quantum_of.ensures in let most = w.min-else-to_wait.ensures in let cap = c.min-most.ensures in let told = c.most_turn.ensures in let left = c.loop-executed-test.true in
          turned-on c.args.to_wait c.args.system.now (c.args.steps - l.executed) w.min-else-to_wait.result c.if-to_wait.granted _ l.machine c.if-to_wait.machine _ w.granted-is w.machine-is
          w.if-to_wait.false (omega arith) (omega arith) w.grant.ensures.within w.grant.ensures.executed w.grant.ensures.state
    ] in
    record {
      within = let within = turned.within in let had = l.invariant.within in omega arith;
      run = run-more c.args.system.now l.executed c.args.machine.now l.machine (output_state (g.W.Write.contents c.args.out.now) (g.L.Write.contents c.args.list.now)) (output_state (g.W.Write.contents l.out) (g.L.Write.contents l.list)) l.invariant.run
          c.if-to_wait.granted c.if-to_wait.machine c.show_kept.new.machine (output_state (g.W.Write.contents c.show_kept.new.out) (g.L.Write.contents c.show_kept.new.list)) turned.state c.in_ok-show_kept.ensures.taken;
      quiet = quiet-taken c.if-to_wait.machine c.show_kept.new.machine (output_state (g.W.Write.contents l.out) (g.L.Write.contents l.list)) (output_state (g.W.Write.contents c.show_kept.new.out) (g.L.Write.contents c.show_kept.new.list)) c.in_ok-show_kept.ensures.taken;
      attended = attended-more _ _ _ l.invariant.attended c.attend.ensures;
      over = λ over. absurd (true≢false (sym (l.invariant.attended.stays over) ∙ sym c.is_over.ensures ∙ c.if-is_over.false));
      busy = λ waits. busy-more c.args.system.now l.executed c.if-to_wait.granted c.args.machine.now l.machine (output_state (g.W.Write.contents c.args.out.now) (g.L.Write.contents c.args.list.now)) (output_state (g.W.Write.contents l.out) (g.L.Write.contents l.list)) l.invariant.run
          (l.invariant.busy waits) (turned.busy waits);
      kept = λ keeps. kept-more c.args.system.now l.executed c.args.machine.now l.machine (output_state (g.W.Write.contents c.args.out.now) (g.L.Write.contents c.args.list.now)) (output_state (g.W.Write.contents l.out) (g.L.Write.contents l.list)) l.invariant.run
          c.if-to_wait.granted c.if-to_wait.machine c.args.shown.now l.shown c.show_kept.new.shown turned.state (l.invariant.kept keeps) (c.in_ok-show_kept.ensures.kept keeps);
    }

pub returns-in_err-show_kept-clause-refused : goal.returns-in_err-show_kept-clause-refused
returns-in_err-show_kept-clause-refused g c =
    let l = c.loop-executed in
    let turned : HasTurned c.args.to_wait c.args.system.now (c.args.steps - l.executed) c.if-to_wait.granted l.machine c.if-to_wait.machine = elim c.if-to_wait.branch [
      | then-to_wait w ↦
          let most = w.min.ensures in let cap = c.min-most.ensures in let told = c.most_turn.ensures in let left = c.loop-executed-test.true in
          turned-to-wait c.args.to_wait c.args.system.now (c.args.steps - l.executed) w.min.result c.if-to_wait.granted _ l.machine c.if-to_wait.machine _ w.granted-is w.machine-is
          w.if-to_wait.true (omega arith) (omega arith) w.grant_to_wait-granted.ensures.within w.grant_to_wait-granted.ensures.executed w.grant_to_wait-granted.ensures.state
      | else-to_wait w ↦
          let some = w.quantum_of.ensures in let most = w.min-else-to_wait.ensures in let cap = c.min-most.ensures in let told = c.most_turn.ensures in let left = c.loop-executed-test.true in
          turned-on c.args.to_wait c.args.system.now (c.args.steps - l.executed) w.min-else-to_wait.result c.if-to_wait.granted _ l.machine c.if-to_wait.machine _ w.granted-is w.machine-is
          w.if-to_wait.false (omega arith) (omega arith) w.grant.ensures.within w.grant.ensures.executed w.grant.ensures.state
    ] in
    let p = err_from_is_err_and c.from_residual.result c.from_residual.ensures.1 in
    rw (p.1, p.2) (run-cut c.args.system.now l.executed c.args.machine.now l.machine (output_state (g.W.Write.contents c.args.out.now) (g.L.Write.contents c.args.list.now)) (output_state (g.W.Write.contents l.out) (g.L.Write.contents l.list)) l.invariant.run
    c.args.to_wait c.args.steps c.if-to_wait.granted c.if-to_wait.machine c.show_kept.new.machine (output_state (g.W.Write.contents c.show_kept.new.out) (g.L.Write.contents c.show_kept.new.list)) c.in_err-show_kept.field-0.0
    (let within = turned.within in let had = l.invariant.within in omega arith) turned.state c.in_err-show_kept.ensures.refused
    (λ waits. busy-more c.args.system.now l.executed c.if-to_wait.granted c.args.machine.now l.machine (output_state (g.W.Write.contents c.args.out.now) (g.L.Write.contents c.args.list.now)) (output_state (g.W.Write.contents l.out) (g.L.Write.contents l.list)) l.invariant.run
    (l.invariant.busy waits) (turned.busy waits)))

pub returns-then-is_over-clause-stopped : goal.returns-then-is_over-clause-stopped
returns-then-is_over-clause-stopped g c =
    let l = c.loop-executed in
    run-over (is_over (g.A.Attendant.attending l.attendant)) c.args.to_wait c.args.system.now c.args.steps l.executed c.args.machine.now l.machine l.invariant.busy (sym c.is_over.ensures ∙ c.if-is_over.true)
