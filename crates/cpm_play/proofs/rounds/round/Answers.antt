use Rattle.std.proofs.Common.{◌≡◌, ◌∙◌, ◌<◌, ◌+◌, List, Some, length, length-set, set, refl, sym, ap, subst, arith, inr, slice_get}
use Rattle.std.proofs.lemmas.List.{set-get_or}
use Rattle.std.proofs.lemmas.Option.{get_or_from_slice_get, slice_get-get_or}
use Rattle.std.proofs.lemmas.Result.{err_from_is_err_and}
use Rattle.cpm_slots.specs.Host.{Host}
use Rattle.cpm_slots.specs.HostWithStore.{HostWithStore}
use Rattle.cpm_play.specs.declared.player.Player.{Player}
use Rattle.cpm_play.specs.declared.player.Player.TheVariants.{Playing}
use Rattle.cpm_play.specs.Players.{HaveBecome, has_fork}
use Rattle.cpm_play.proofs.RoundLemmas.{IsLeft, IsTurn, come-turn, left-over, left-round, left-turn, left-waits, none-set}
use Rattle.cpm_play.proofs.rounds.round.Goals as goal
use Rattle.cpm_play.proofs.rounds.round.Goals.{in-Playing+in_ok-turn, in_default}

pub loop-place-init : goal.loop-place-init
loop-place-init c = record {
  come = λ old given ready come. come;
  long = refl;
  left = inr (refl, λ k less. absurd (let no : ⊥ = omega (arith, less) in no));
  none = c.requires.none;
}

pub returns-in_err-steps-clause-refused : goal.returns-in_err-steps-clause-refused
returns-in_err-steps-clause-refused c =
    let p = err_from_is_err_and c.from_residual.result c.from_residual.ensures.1 in
    rw (p.1, p.2) (λ old given ready come. c.in_err-steps.ensures.refused old given ready (subst (λ (h : HostWithStore). HaveBecome old h.host given c.loop-place.players) (sym c.most_steps-most.ensures.unchanged) (c.loop-place.invariant.come old given ready come)))

pub loop-place-preserved : goal.loop-place-preserved
loop-place-preserved c =
    let i = c.loop-place.invariant in
    let k = c.in_ok-steps.ensures in
    let steps = c.in_ok-steps.steps in
    let players = c.fork_if_due.new.players in
    let place = c.loop-place.place in
    let test = c.loop-place-test.true in
    let long = i.long in
    let kept = k.keeps.long in
    let within : place < length players = omega (arith, test, long, kept) in
    elim c.match-players-place.branch [
      | in-Playing+in_ok-turn w ↦
          let slot = w.in-Playing.slot in
          let next = w.turn.new.slot in
          let turned = w.in_ok-turn.ensures in
          let plays : slice_get players place ≡ Some (Playing slot) = slice_get-get_or players place c.index-players-place-in-loop-place-2.result within ∙ ap Some w.in-Playing.is in
          let after : c.match-players-place.players ≡ set players place (Playing next) = w.players-is in
          let host = ap (λ (h : HostWithStore). h.host) w.host-is in
          record {
            come = λ old given ready come.
                let t : IsTurn old c.fork_if_due.new.host.host w.turn.new.host.host given players place steps slot next = record {
                  ready = ready;
                  come = k.come old given ready (subst (λ (h : HostWithStore). HaveBecome old h.host given c.loop-place.players) (sym c.most_steps-most.ensures.unchanged) (i.come old given ready come));
                  plays = plays;
                  moves = turned.moves;
                  goes = turned.playing;
                  early = turned.early;
                  done = turned.done;
                  far = k.far;
                } in
                subst (λ (h : Host). HaveBecome old h given c.match-players-place.players) (sym host)
                (subst (λ (ps : List Player). HaveBecome old w.turn.new.host.host given ps) (sym after) (come-turn old c.fork_if_due.new.host.host w.turn.new.host.host given players place steps slot next t));
            long = ap length after ∙ length-set players place (Playing next) ∙ kept ∙ long;
            left = subst (λ (ps : List Player). IsLeft c.args.players.now ps (place + 1)) (sym after)
                (left-turn c.args.players.now c.loop-place.players players place steps slot next i.left k.left k.far plays turned.left);
            none = λ no. ap has_fork after ∙ none-set players place next (k.none no);
          }
      | in_default w ↦
          let after : c.match-players-place.players ≡ players = w.players-is ∙ set-get_or players place c.index-players-place-in-loop-place-2.result in
          let host = ap (λ (h : HostWithStore). h.host) w.host-is in
          record {
            come = λ old given ready come.
                subst (λ (h : Host). HaveBecome old h given c.match-players-place.players) (sym host)
                (subst (λ (ps : List Player). HaveBecome old c.fork_if_due.new.host.host given ps) (sym after) (k.come old given ready (subst (λ (h : HostWithStore). HaveBecome old h.host given c.loop-place.players) (sym c.most_steps-most.ensures.unchanged) (i.come old given ready come))));
            long = ap length after ∙ kept ∙ long;
            left = subst (λ (ps : List Player). IsLeft c.args.players.now ps (place + 1)) (sym after)
                (left-waits c.args.players.now c.loop-place.players players place i.left k.left
                (λ slot at. w.in_default.not-Playing slot (get_or_from_slice_get players place (Playing slot) c.index-players-place-in-loop-place-2.result at)));
            none = λ no. ap has_fork after ∙ k.none no;
          }
    ]

pub returns-clause-come : goal.returns-clause-come
returns-clause-come c = c.loop-place.invariant.come

pub returns-clause-left : goal.returns-clause-left
returns-clause-left c = λ old given ready come some.
    let i = c.loop-place.invariant in
    let test = c.loop-place-test.false in
    let long = i.long in
    left-round old c.loop-place.host.host given c.args.players.now c.loop-place.players c.loop-place.place (i.come old given ready come) (omega (arith, test, long)) some i.left

pub loop-place-preserved-then-is_over : goal.loop-place-preserved-then-is_over
loop-place-preserved-then-is_over c =
    let i = c.loop-place.invariant in
    let players = c.loop-place.players in
    let place = c.loop-place.place in
    let test = c.loop-place-test.true in
    let long = i.long in
    let within : place < length players = omega (arith, test, long) in
    record {
      come = i.come;
      long = i.long;
      left = left-over c.args.players.now players place _ i.left (i.none c.if-not-may_fork.true) (slice_get-get_or players place c.index-players-place.result within) (sym c.is_over.ensures ∙ c.if-is_over.true);
      none = i.none;
    }
