use Rattle.std.proofs.Common.{◌≡◌, ◌∙◌, ◌≤◌, ℕ, List, refl, sym, ap, subst, take}
use Rattle.cpm_script.specs.declared.script.Key.{Key}
use Rattle.cpm_slots.specs.Host.{after_ask}
use Rattle.cpm_slots.specs.Serving.{Calls}
use Rattle.cpm_machine.specs.Calls.{Grant}
use Rattle.cpm_machine.specs.Serve.{executed}
use Rattle.cpm_play.specs.declared.scripted_slot.ScriptedSlot.{ScriptedSlot}
use Rattle.cpm_play.specs.Pacing.{turn_of}
use Rattle.cpm_play.specs.Players.{AllBefore}
use Rattle.cpm_play.specs.ScriptedSlots.{script_keys}
use Rattle.cpm_play.proofs.HostLemmas.{moves-ask, moves-on}
use Rattle.cpm_play.proofs.ScriptedSlotLemmas.{playing-turn}
use Rattle.cpm_play.proofs.turn.execute.Goals as goal

pub returns-clause-playing : goal.returns-clause-playing
returns-clause-playing c = λ steps start r.
    let p = c.press_due.new.slot in
    let h = c.press_due.new.host.host in
    let next : ScriptedSlot = record p { pace = c.advance.new.self } in
    let k = c.grant-executed.result in
    let most : c.turn-most.result ≡ turn_of p.pace (script_keys p) c.args.quantum =
    c.turn-most.ensures ∙ ap (λ (ks : List Key). turn_of p.pace ks c.args.quantum) c.deref.ensures.value in
    playing-turn steps k c.args.quantum start p next h c.grant-executed.new.host.host c.press_due.ensures.due c.requires.some
    (subst (λ (n : ℕ). k ≤ n) most c.grant-executed.ensures.within)
    (λ s at. c.grant-executed.ensures.executed s at ∙ ap (λ (n : ℕ). executed h.system n s) most)
    (c.grant-executed.ensures.host ∙ ap (λ (n : ℕ). after_ask h p.id.0 (Calls (Grant n))) most)
    (record { pressed = c.advance.ensures.pressed; done = c.advance.ensures.done; until = c.advance.ensures.until }) refl
    (c.press_due.ensures.playing steps start r)

pub returns-clause-moves : goal.returns-clause-moves
returns-clause-moves c =
    let p = c.press_due.new.slot in
    let h = c.press_due.new.host.host in
    let next : ScriptedSlot = record p { pace = c.advance.new.self } in
    moves-on c.args.slot.now p next c.args.host.now.host h c.grant-executed.new.host.host c.press_due.ensures.moves
    (moves-ask p next h c.grant-executed.new.host.host (Grant c.turn-most.result) refl refl c.grant-executed.ensures.host)

pub returns-clause-early : goal.returns-clause-early
returns-clause-early c = λ at above before.
    let keys = script_keys c.press_due.new.slot in
    subst (λ (n : ℕ). AllBefore at (take n keys)) (sym c.advance.ensures.pressed) (c.press_due.ensures.early at above before)
