use Rattle.std.proofs.Common.{sym, subst, List}
use Rattle.std.proofs.lemmas.Result.{err_from_is_err_and}
use Rattle.cpm_script.specs.declared.script.Key.{Key}
use Rattle.cpm_play.specs.Cued.{key_count}
use Rattle.cpm_play.specs.Live.{IsGoing}
use Rattle.cpm_play.specs.Output.{output_state}
use Rattle.cpm_play.proofs.CuedLemmas.{start-unshown}
use Rattle.cpm_play.proofs.GoingLemmas.{going-start}
use Rattle.cpm_play.proofs.live.play_script.Goals as goal

pub returns-then-is_empty-clause-going : goal.returns-then-is_empty-clause-going
returns-then-is_empty-clause-going g c =
    subst (λ (keys : List Key). IsGoing c.args.system.now c.args.steps (key_count c.args.cues.now) c.args.machine.now c.show.new.machine (output_state (g.W.Write.contents c.args.out.now) (g.L.Write.contents c.args.list.now)) (output_state (g.W.Write.contents c.show.new.out) (g.L.Write.contents c.show.new.list))
    (g.S.Write.contents c.args.record.now) (g.S.Write.contents c.args.record.now) keys 0) (sym c.new.ensures.items)
    (going-start c.args.system.now c.args.steps (key_count c.args.cues.now) c.args.machine.now c.show.new.machine (output_state (g.W.Write.contents c.args.out.now) (g.L.Write.contents c.args.list.now)) (output_state (g.W.Write.contents c.show.new.out) (g.L.Write.contents c.show.new.list))
    (g.S.Write.contents c.args.record.now) (record { state = c.in_ok-show.ensures.state; output = c.in_ok-show.ensures.output }))

pub returns-in_err-show-clause-refused : goal.returns-in_err-show-clause-refused
returns-in_err-show-clause-refused g c =
    let p = err_from_is_err_and c.from_residual.result c.from_residual.ensures.1 in
    rw (p.1, p.2) (start-unshown c.args.system.now c.args.steps 0 c.args.cues.now c.args.machine.now c.show.new.machine (output_state (g.W.Write.contents c.args.out.now) (g.L.Write.contents c.args.list.now)) (output_state (g.W.Write.contents c.show.new.out) (g.L.Write.contents c.show.new.list))
    (g.S.Write.contents c.args.record.now) c.in_err-show.field-0.0 c.in_err-show.ensures.refused)
