use Rattle.std.proofs.Common.{◌∙◌, subst, sym}
use Rattle.std.proofs.lemmas.Result.{err_from_is_err_and}
use Rattle.cpm_slots.specs.HostWithStore.{HostWithStore}
use Rattle.cpm_play.specs.Players.{HaveBecome}
use Rattle.cpm_play.proofs.PlayLemmas.{played-all, room-all, some-left}
use Rattle.cpm_play.proofs.rounds.play.Goals as goal
use Rattle.cpm_play.proofs.rounds.play.Goals.{then-may_fork, else-may_fork}

pub loop-alloc-init : goal.loop-alloc-init
loop-alloc-init g c = record { none = λ no. sym c.has_fork-may_fork.ensures ∙ no; come = c.in_ok-take_waiting.ensures.come }

pub loop-alloc-smaller : goal.loop-alloc-smaller
loop-alloc-smaller g c =
    c.in_ok-round.ensures.left c.args.host.now.host c.args.players.now c.requires.ready c.loop-alloc.invariant.come (some-left c.loop-alloc.players (sym c.still_plays.ensures ∙ c.loop-alloc-test.true))

pub let_rest-requires : goal.let_rest-requires
let_rest-requires g c = record {
  old = c.args.host.now.host;
  given = c.args.players.now;
  ready = c.requires.ready;
  come = c.in_ok-round.ensures.come c.args.host.now.host c.args.players.now c.requires.ready c.loop-alloc.invariant.come;
}

pub loop-alloc-preserved : goal.loop-alloc-preserved
loop-alloc-preserved g c = record {
  come = subst (λ (h : HostWithStore). HaveBecome c.args.host.now.host h.host c.args.players.now c.round.new.players) (sym c.let_rest.ensures)
      (c.in_ok-round.ensures.come c.args.host.now.host c.args.players.now c.requires.ready c.loop-alloc.invariant.come);
  none =
      elim c.if-may_fork.branch [
        | then-may_fork w ↦ λ no. sym w.has_fork-may_fork-then-may_fork.ensures ∙ sym w.may_fork-is ∙ no
        | else-may_fork w ↦ λ no. c.in_ok-round.ensures.none w.if-may_fork.false
      ];
}

pub returns-in_err-round-clause-refused : goal.returns-in_err-round-clause-refused
returns-in_err-round-clause-refused g c =
    let p = err_from_is_err_and c.from_residual-in_err-round.result c.from_residual-in_err-round.ensures.1 in
    rw (p.1, p.2) (c.in_err-round.ensures.refused c.args.host.now.host c.args.players.now c.requires.ready c.loop-alloc.invariant.come)

pub returns-clause-played : goal.returns-clause-played
returns-clause-played g c =
    played-all c.args.host.now.host c.loop-alloc.host.host c.args.players.now c.loop-alloc.players c.loop-alloc.invariant.come (sym c.still_plays.ensures ∙ c.loop-alloc-test.false)

pub returns-clause-others : goal.returns-clause-others
returns-clause-others g c = c.loop-alloc.invariant.come.rest

pub returns-clause-room : goal.returns-clause-room
returns-clause-room g c =
    room-all c.args.host.now.host c.loop-alloc.host.host c.args.players.now c.loop-alloc.players c.loop-alloc.invariant.come (sym c.still_plays.ensures ∙ c.loop-alloc-test.false)
