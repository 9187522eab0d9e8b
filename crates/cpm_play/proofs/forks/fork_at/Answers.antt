use Rattle.std.proofs.Common.{◌≡◌, ◌∙◌, Some, set, sym, ap, subst, slice_get, arith}
use Rattle.std.proofs.lemmas.Bool.Decides.{nat_tests}
use Rattle.cpm_play.specs.declared.error.PlayError.{PlayError}
use Rattle.cpm_play.specs.declared.player.Player.TheVariants.{Playing, Waiting}
use Rattle.cpm_play.specs.Players.{IsPlayRefusal}
use Rattle.cpm_play.proofs.PlaceLemmas.{at-index, at-other, at-set, same-at}
use Rattle.cpm_play.proofs.PlayerLemmas.{playing-waiting}
use Rattle.cpm_play.proofs.ForkedLemmas.{IsForking, changes-fork, come-fork, refused-fork}
use Rattle.cpm_play.proofs.forks.fork_at.Goals as goal

pub returns-in-Ok-clause-come : goal.returns-in-Ok-clause-come
returns-in-Ok-clause-come c = λ old given ready come.
    let players = c.args.players.now in
    let fork = c.in-Playing-Waiting.fork in
    let slot = c.in-Playing-Waiting.slot in
    let waits : slice_get players c.args.place ≡ Some (Waiting fork) = at-index players c.args.place c.index-players-place.result (Waiting fork) c.requires.place c.index-players-place.is c.in-Playing-Waiting.is-1 in
    let first : slice_get players c.args.parent ≡ Some (Playing slot) = at-index players c.args.parent c.index-players-parent.result (Playing slot) c.requires.parent c.index-players-parent.is c.in-Playing-Waiting.is-0 in
    let mine : fork.parent ≡ c.args.parent = grind (arith, nat_tests, c.if-fork-parent.false) in
    let k : IsForking old c.args.host.now.host c.forked.new.host.host given players c.args.place slot c.in-Ok.child fork = record {
      ready = ready;
      come = come;
      waits = waits;
      plays = ap (slice_get players) mine ∙ first;
      forked = c.in-Ok.ensures.forked;
    } in
    come-fork old c.args.host.now.host c.forked.new.host.host given players c.args.place slot c.in-Ok.child fork k

pub returns-in-Ok-clause-changes : goal.returns-in-Ok-clause-changes
returns-in-Ok-clause-changes c =
    let players = c.args.players.now in
    let fork = c.in-Playing-Waiting.fork in
    let waits : slice_get players c.args.place ≡ Some (Waiting fork) = at-index players c.args.place c.index-players-place.result (Waiting fork) c.requires.place c.index-players-place.is c.in-Playing-Waiting.is-1 in
    changes-fork players c.args.place fork c.in-Ok.child waits

pub returns-in-Ok-clause-parent : goal.returns-in-Ok-clause-parent
returns-in-Ok-clause-parent c =
    let players = c.args.players.now in
    let fork = c.in-Playing-Waiting.fork in
    let slot = c.in-Playing-Waiting.slot in
    let waits : slice_get players c.args.place ≡ Some (Waiting fork) = at-index players c.args.place c.index-players-place.result (Waiting fork) c.requires.place c.index-players-place.is c.in-Playing-Waiting.is-1 in
    let first : slice_get players c.args.parent ≡ Some (Playing slot) = at-index players c.args.parent c.index-players-parent.result (Playing slot) c.requires.parent c.index-players-parent.is c.in-Playing-Waiting.is-0 in
    at-other players c.args.place c.args.parent (Playing c.in-Ok.child) (λ e. playing-waiting slot fork (same-at (slice_get players c.args.place) (Playing slot) (Waiting fork) (ap (slice_get players) (sym e) ∙ first) waits))

pub returns-in-Ok-clause-far : goal.returns-in-Ok-clause-far
returns-in-Ok-clause-far c = λ other slot at mine plays.
    let players = c.args.players.now in
    let fork = c.in-Playing-Waiting.fork in
    let waits : slice_get players c.args.place ≡ Some (Waiting fork) = at-index players c.args.place c.index-players-place.result (Waiting fork) c.requires.place c.index-players-place.is c.in-Playing-Waiting.is-1 in
    let now : slice_get (set players c.args.place (Playing c.in-Ok.child)) c.args.place ≡ Some (Playing c.in-Ok.child) = at-set players c.args.place (Waiting fork) (Playing c.in-Ok.child) waits in
    absurd (playing-waiting c.in-Ok.child other (same-at (slice_get (set players c.args.place (Playing c.in-Ok.child)) c.args.place) (Playing c.in-Ok.child) (Waiting other) now at))

pub returns-in-Err-clause-refused : goal.returns-in-Err-clause-refused
returns-in-Err-clause-refused c = λ old given ready come.
    let players = c.args.players.now in
    let fork = c.in-Playing-Waiting.fork in
    let slot = c.in-Playing-Waiting.slot in
    let waits : slice_get players c.args.place ≡ Some (Waiting fork) = at-index players c.args.place c.index-players-place.result (Waiting fork) c.requires.place c.index-players-place.is c.in-Playing-Waiting.is-1 in
    let first : slice_get players c.args.parent ≡ Some (Playing slot) = at-index players c.args.parent c.index-players-parent.result (Playing slot) c.requires.parent c.index-players-parent.is c.in-Playing-Waiting.is-0 in
    let mine : fork.parent ≡ c.args.parent = grind (arith, nat_tests, c.if-fork-parent.false) in
    subst (λ (e : PlayError). IsPlayRefusal old given e) (sym c.play_error.ensures)
    (refused-fork old c.args.host.now.host given players c.args.place slot fork c.in-Err.fault ready come waits (ap (slice_get players) mine ∙ first) c.in-Err.ensures.refused)
