use Rattle.std.proofs.Common.{arith, ◌≤◌, ◌≡◌, ◌∙◌, ◌++◌, Bool, ◌&&◌, ap, drop, length, refl, rules, sym}
use Rattle.std.specs.Prelude.{max}
use Rattle.cpm_machine.specs.Serve.{look_of}
use Rattle.cpm_machine.specs.declared.reply.Look.{Look}
use Rattle.cpm_run.specs.Settled.{settled_steps}
use Rattle.cpm_run.specs.Settling.{part_view}
use Rattle.cpm_run.proofs.SettleLemmas.{came_sound, cues_ascii, cues_say, all_cues, all_keys, at_least, played_by}
use Rattle.cpm_run.proofs.settle.play_part.Goals.{then-stops_idle, else-stops_idle, then-stops_idle-2, else-stops_idle-2}
use Rattle.cpm_run.proofs.settle.play_part.Goals as goal

pub play_cues-played-requires : goal.play_cues-played-requires
play_cues-played-requires g c =
    let are = all_cues c.args.part.before.items c.as_slice.result.now c.args.part.cues.items c.in_ok-cues.cues.items c.as_slice-2.result.now c.as_slice.ensures.value c.in_ok-cues.ensures c.as_slice-2.ensures.value in
    record { ascii = cues_ascii c.args.system.now (part_view c.args.part) c.as_slice-2.result.now c.requires.fit (cues_say c.args.part.before.items c.args.part.cues.items c.as_slice-2.result.now are) }

pub returns-clause-played : goal.returns-clause-played
returns-clause-played g c =
    let part = c.args.part in
    let first = part.before.items in
    let h = c.in-Ok.ensures in
    let came = c.in-Ok.field-0.keys.items in
    let done = c.in-Ok.field-0.steps in
    let now = c.play_cues-played.new.machine in
    let start = c.in_ok-machine.machine in
    let cues = c.as_slice-2.result.now in
    let are = all_cues first c.as_slice.result.now part.cues.items c.in_ok-cues.cues.items cues c.as_slice.ensures.value c.in_ok-cues.ensures c.as_slice-2.ensures.value in
    let count : c.len.result ≡ length first = search rules in
    let keys : c.in_ok-keys.keys.items ≡ first ++ drop (length first) came =
    all_keys first c.as_slice-4.result.now came c.as_slice-3.result.now c.keys_after-own.result.now c.in_ok-keys.keys.items c.len.result c.as_slice-4.ensures.value c.as_slice-3.ensures.value count c.keys_after-own.ensures
    c.in_ok-keys.ensures in
    let steps : c.if-stops_idle.steps ≡ settled_steps c.args.stops_idle (part_view part) done = elim c.if-stops_idle.branch [
      | then-stops_idle w ↦
          let most : c.if-stops_idle.steps ≡ max done (max part.at part.last) = cc (w.steps-is, w.max.ensures, w.max-steps.ensures) in
          most ∙ ap (λ (b : Bool). settled_steps b (part_view part) done) (sym w.if-stops_idle.true)
      | else-stops_idle w ↦ w.steps-is ∙ ap (λ (b : Bool). settled_steps b (part_view part) done) (sym w.if-stops_idle.false)
    ] in
    let idle : c.if-stops_idle-2.is_idle ≡ c.args.stops_idle && (look_of now).waiting = elim c.if-stops_idle-2.branch [
      | then-stops_idle-2 w ↦ w.is_idle-is ∙ ap (λ (l : Look). l.waiting) w.look.ensures ∙ ap (λ (b : Bool). b && (look_of now).waiting) (sym w.if-stops_idle-2.true)
      | else-stops_idle-2 w ↦ w.is_idle-is ∙ w.if-stops_idle-2.false ∙ ap (λ (b : Bool). b && (look_of now).waiting) (sym w.if-stops_idle-2.false)
    ] in
    played_by c.args.system.now (part_view part) c.args.stops_idle cues came done now start c.in_ok-keys.keys.items c.if-stops_idle.steps c.if-stops_idle-2.is_idle c.in_ok-machine.ensures.machine
    (cues_say first part.cues.items cues are) (record { by = h.keys; ending = h.ending; ends = h.ends; waits = h.waits }) h.within keys steps idle

pub returns-clause-sound : goal.returns-clause-sound
returns-clause-sound g c =
    let part = c.args.part in
    let first = part.before.items in
    let h = c.in-Ok.ensures in
    let came = c.in-Ok.field-0.keys.items in
    let done = c.in-Ok.field-0.steps in
    let cues = c.as_slice-2.result.now in
    let are = all_cues first c.as_slice.result.now part.cues.items c.in_ok-cues.cues.items cues c.as_slice.ensures.value c.in_ok-cues.ensures c.as_slice-2.ensures.value in
    let count : c.len.result ≡ length first = search rules in
    let keys : c.in_ok-keys.keys.items ≡ first ++ drop (length first) came =
    all_keys first c.as_slice-4.result.now came c.as_slice-3.result.now c.keys_after-own.result.now c.in_ok-keys.keys.items c.len.result c.as_slice-4.ensures.value c.as_slice-3.ensures.value count c.keys_after-own.ensures
    c.in_ok-keys.ensures in
    let steps : c.if-stops_idle.steps ≡ settled_steps c.args.stops_idle (part_view part) done = elim c.if-stops_idle.branch [
      | then-stops_idle w ↦
          let most : c.if-stops_idle.steps ≡ max done (max part.at part.last) = cc (w.steps-is, w.max.ensures, w.max-steps.ensures) in
          most ∙ ap (λ (b : Bool). settled_steps b (part_view part) done) (sym w.if-stops_idle.true)
      | else-stops_idle w ↦ w.steps-is ∙ ap (λ (b : Bool). settled_steps b (part_view part) done) (sym w.if-stops_idle.false)
    ] in
    let late : part.at ≤ c.if-stops_idle.steps = let least = at_least c.args.stops_idle (part_view part) done c.requires.fit.within in omega (arith, least, steps) in
    came_sound c.args.system.now c.in_ok-machine.machine (part_view part) part.cues.items cues came c.in_ok-keys.keys.items done c.if-stops_idle.steps
    c.in_ok-machine.ensures.machine refl c.requires.fit are h.keys h.room h.given keys late
