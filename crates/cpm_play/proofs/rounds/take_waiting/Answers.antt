use Rattle.std.proofs.Common.{◌≡◌, ◌∙◌, ◌<◌, ◌+◌, List, Some, length, set, sym, ap, subst, arith, slice_get}
use Rattle.std.proofs.lemmas.List.{set-get_or}
use Rattle.std.proofs.lemmas.Option.{get_or_from_slice_get, slice_get-get_or}
use Rattle.cpm_slots.specs.Host.{Host}
use Rattle.cpm_slots.specs.HostWithStore.{HostWithStore}
use Rattle.cpm_play.specs.declared.player.Player.{Player}
use Rattle.cpm_play.specs.declared.player.Player.TheVariants.{Playing}
use Rattle.cpm_play.proofs.BeginLemmas.{HaveBegun, IsTakenAt, begun-all, begun-next, begun-start, begun-waits}
use Rattle.cpm_play.proofs.rounds.take_waiting.Goals as goal
use Rattle.cpm_play.proofs.rounds.take_waiting.Goals.{in-Playing+in_ok-take_output, in_default}

pub loop-place-init : goal.loop-place-init
loop-place-init c = record { begun = begun-start c.args.host.now.host c.args.players.now c.requires.ready c.requires.orderly }

pub loop-place-preserved : goal.loop-place-preserved
loop-place-preserved c =
    let old = c.args.host.now.host in
    let given = c.args.players.now in
    let h = c.loop-place.host.host in
    let players = c.loop-place.players in
    let place = c.loop-place.place in
    let test = c.loop-place-test.true in
    let long = c.loop-place.invariant.begun.long in
    let within : place < length players = omega (arith, test, long) in
    elim c.match-players-place.branch [
      | in-Playing+in_ok-take_output w ↦
          let slot = w.in-Playing.slot in
          let next = w.take_output.new.slot in
          let taken = w.in_ok-take_output.ensures in
          let k : IsTakenAt old h w.take_output.new.host.host given players place slot next = record {
            differ = c.requires.differ;
            begun = c.loop-place.invariant.begun;
            plays = slice_get-get_or players place c.index-players-place.result within ∙ ap Some w.in-Playing.is;
            moves = taken.moves;
            goes = taken.resting;
            pace = w.take_output.ensures.pace;
          } in
          record {
            begun = subst (λ (g : Host). HaveBegun old g given c.match-players-place.players (place + 1)) (sym (ap (λ (g : HostWithStore). g.host) w.host-is))
                (subst (λ (ps : List Player). HaveBegun old w.take_output.new.host.host given ps (place + 1)) (sym w.players-is)
                (begun-next old h w.take_output.new.host.host given players place slot next k));
          }
      | in_default w ↦
          let after = w.players-is ∙ set-get_or players place c.index-players-place.result in
          record {
            begun = subst (λ (g : Host). HaveBegun old g given c.match-players-place.players (place + 1)) (sym (ap (λ (g : HostWithStore). g.host) w.host-is))
                (subst (λ (ps : List Player). HaveBegun old h given ps (place + 1)) (sym after)
                (begun-waits old h given players place
                (λ slot at. w.in_default.not-Playing slot (get_or_from_slice_get players place (Playing slot) c.index-players-place.result at)) c.loop-place.invariant.begun));
          }
    ]

pub returns : goal.returns
returns c =
    let test = c.loop-place-test.false in
    let long = c.loop-place.invariant.begun.long in
    record { come = begun-all c.args.host.now.host c.loop-place.host.host c.args.players.now c.loop-place.players c.loop-place.place c.requires.differ (omega (arith, test, long)) c.loop-place.invariant.begun }
