use Rattle.std.proofs.Common.{◌≡◌, ◌∙◌, ◌+◌, ◌-◌, ◌<◌, List, Some, length, refl, sym, ap, subst, arith, rules, slice_get}
use Rattle.cpm_script.specs.declared.script.Key.{Key}
use Rattle.cpm_slots.specs.Host.{Host, slot_at}
use Rattle.cpm_slots.specs.HostWithStore.{HostWithStore}
use Rattle.cpm_machine.specs.Calls.{Key as Pressed}
use Rattle.cpm_play.specs.declared.scripted_slot.ScriptedSlot.{ScriptedSlot}
use Rattle.cpm_play.specs.Pacing.{due_at}
use Rattle.cpm_play.specs.ScriptedSlots.{IsResting, Moves, script_keys, steps_of}
use Rattle.cpm_play.proofs.HostLemmas.{moves-ask, moves-on}
use Rattle.cpm_play.proofs.ScriptedSlotLemmas.{early-key, pressed-within, resting-key}
use Rattle.cpm_play.proofs.turn.press_due.Goals as goal

pub loop-key-preserved : goal.loop-key-preserved
loop-key-preserved c =
    let l = c.loop-key in
    let next : ScriptedSlot = record l.slot { pace = record l.slot.pace { pressed = l.slot.pace.pressed + 1 } } in
    let h = c.runs.new.host.host in
    let same : h ≡ l.host.host = ap (λ (x : HostWithStore). x.host) c.runs.ensures.unchanged in
    let due : due_at l.slot.pace.done (slice_get (script_keys l.slot) l.slot.pace.pressed) ≡ Some c.in-Some.key =
    ap (λ (ks : List Key). due_at l.slot.pace.done (slice_get ks l.slot.pace.pressed)) (sym c.deref.ensures.value) ∙ sym c.in-Some.ensures in
    let left : 0 < steps_of l.slot = let some = c.requires in let kept = l.invariant.left in omega (arith, some, kept) in
    record {
      playing = λ steps start r.
          resting-key steps c.in-Some.key start l.slot next h c.key.new.self.host due left
          (λ s at. sym (c.runs.ensures.runs s (ap (λ (x : Host). slot_at l.slot.id.0 x.slots) (sym same) ∙ at)) ∙ c.if-not-runs.false) c.key.ensures.host refl
          (subst (λ (x : Host). IsResting steps start l.slot x) (sym same) (l.invariant.playing steps start r));
      moves = moves-on c.args.slot.now l.slot next c.args.host.now.host h c.key.new.self.host
          (subst (λ (x : Host). Moves c.args.slot.now l.slot c.args.host.now.host x) (sym same) l.invariant.moves)
          (moves-ask l.slot next h c.key.new.self.host (Pressed c.in-Some.key) refl refl c.key.ensures.host);
      left = l.invariant.left;
      early = λ at above before.
          let done = l.invariant.done in
          early-key at c.in-Some.key (script_keys l.slot) l.slot.pace due (omega arith) (l.invariant.early at above before);
      done = l.invariant.done;
    }

pub returns-then-not-runs-clause-playing : goal.returns-then-not-runs-clause-playing
returns-then-not-runs-clause-playing c = λ steps start r.
    let same = ap (λ (x : HostWithStore). x.host) c.runs.ensures.unchanged in
    subst (λ (x : Host). IsResting steps start c.loop-key.slot x) (sym same) (c.loop-key.invariant.playing steps start r)

pub overflow_add-slot : goal.overflow_add-slot
overflow_add-slot c =
    let l = c.loop-key in
    let within = pressed-within (script_keys l.slot) l.slot.pace c.in-Some.key
    (ap (λ (ks : List Key). due_at l.slot.pace.done (slice_get ks l.slot.pace.pressed)) (sym c.deref.ensures.value) ∙ sym c.in-Some.ensures) in
    search (rules, within)

pub loop-key-smaller : goal.loop-key-smaller
loop-key-smaller c =
    let l = c.loop-key in
    let within = pressed-within (script_keys l.slot) l.slot.pace c.in-Some.key
    (ap (λ (ks : List Key). due_at l.slot.pace.done (slice_get ks l.slot.pace.pressed)) (sym c.deref.ensures.value) ∙ sym c.in-Some.ensures) in
    let less : length (script_keys l.slot) - (l.slot.pace.pressed + 1) < length (script_keys l.slot) - l.slot.pace.pressed = omega (arith, within) in
    less
