use Rattle.std.proofs.Common.{◌<◌, ◌≤◌, ◌+◌, ℕ, length, refl, sym, subst, arith, inr}
use Rattle.std.proofs.lemmas.Result.{err_from_is_err_and}
use Rattle.cpm_play.specs.Players.{IsFar}
use Rattle.cpm_play.proofs.RoundLemmas.{far-all, far-more, fewer-on, keeps-on}
use Rattle.cpm_play.proofs.forks.fork_due.Goals as goal

pub loop-place-init : goal.loop-place-init
loop-place-init c =
    let some = c.requires.quantum in
    record {
      come = λ old given ready come. come;
      keeps = record { long = refl; playing = λ place slot at. at };
      far = λ k less. absurd (let no : ⊥ = omega (arith, less) in no);
      some = some;
      most = omega arith;
      left = inr refl;
    }

pub returns-in_err-fork_at-clause-refused : goal.returns-in_err-fork_at-clause-refused
returns-in_err-fork_at-clause-refused c =
    let p = err_from_is_err_and c.from_residual.result c.from_residual.ensures.1 in
    let i = c.loop-place.invariant in
    rw (p.1, p.2) (λ old given ready come. c.in_err-fork_at.ensures.refused old given ready (i.come old given ready come))

pub loop-place-preserved : goal.loop-place-preserved
loop-place-preserved c =
    let i = c.loop-place.invariant in
    let k = c.in_ok-fork_at.ensures in
    let least = c.min-steps.ensures in
    let some = i.some in
    let more = k.some in
    let most = i.most in
    record {
      come = λ old given ready come. k.come old given ready (i.come old given ready come);
      keeps = keeps-on c.args.players.now c.loop-place.players c.fork_at.new.players i.keeps k.changes.keeps;
      far = subst (λ n. (k : ℕ) → k < c.loop-place.place + 1 → IsFar c.args.parent n c.fork_at.new.players k) (sym least)
          (far-more c.args.parent c.loop-place.steps c.in_ok-fork_at.field-0 c.loop-place.place c.loop-place.players c.fork_at.new.players i.far k.changes k.parent k.far);
      some = omega (arith, least, some, more);
      most = omega (arith, least, most);
      left = fewer-on c.args.players.now c.loop-place.players c.fork_at.new.players i.left k.left;
    }

pub returns-clause-come : goal.returns-clause-come
returns-clause-come c = c.loop-place.invariant.come

pub returns-clause-keeps : goal.returns-clause-keeps
returns-clause-keeps c = c.loop-place.invariant.keeps

pub returns-clause-far : goal.returns-clause-far
returns-clause-far c =
    let i = c.loop-place.invariant in
    let all : length c.loop-place.players ≤ c.loop-place.place = omega (arith, i.keeps.long) in
    far-all c.args.parent c.loop-place.steps c.loop-place.place c.loop-place.players all i.far

pub returns-clause-steps : goal.returns-clause-steps
returns-clause-steps c = (c.loop-place.invariant.some, c.loop-place.invariant.most)

pub returns-clause-left : goal.returns-clause-left
returns-clause-left c = c.loop-place.invariant.left
