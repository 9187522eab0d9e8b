use Rattle.std.proofs.Common.{◌≡◌, List, sym, subst, take}
use Rattle.std.proofs.lemmas.Result.{on_ok_weaker}
use Rattle.cpm_script.specs.declared.script.Key.{Key}
use Rattle.cpm_play.specs.declared.pace.Pace.{Pace}
use Rattle.cpm_play.specs.Players.{AllBefore}
use Rattle.cpm_play.specs.ScriptedSlots.{script_keys}
use Rattle.cpm_play.proofs.turn.turn.Goals as goal

pub returns-clause-playing : goal.returns-clause-playing
returns-clause-playing c =
    on_ok_weaker c.take_output.result (λ rests. λ steps start r. rests steps start (c.execute.ensures.playing steps start r)) c.take_output.ensures.resting

pub returns-clause-early : goal.returns-clause-early
returns-clause-early c =
    let p = c.execute.new.slot in
    let q = c.take_output.new.slot in
    on_ok_weaker c.take_output.result
    (λ last. λ at above before.
    subst (λ (ks : List Key). AllBefore at (take q.pace.pressed ks)) (sym last.keys)
    (subst (λ (x : Pace). AllBefore at (take x.pressed (script_keys p))) (sym c.take_output.ensures.pace) (c.execute.ensures.early at above before)))
    c.take_output.ensures.moves
