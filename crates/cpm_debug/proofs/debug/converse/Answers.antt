use Rattle.std.proofs.Common.{◌≡◌, ◌∙◌, ◌+◌, ◌-◌, ap, sym, subst, suc, ℕ, arith}
use Rattle.std.proofs.lemmas.Result.{err_from_is_err_and}
use Rattle.cpm_debug.specs.Hearing.{without_end}
use Rattle.cpm_debug.specs.Orders.{request_of_order, request_of}
use Rattle.cpm_debug.proofs.DialogLemmas.{IsSoFar, held_all, held_none, held_quit, so_far_more, unanswered, unread}
use Rattle.cpm_debug.proofs.debug.converse.Goals as goal

pub returns-in_err-line-clause-failed : goal.returns-in_err-line-clause-failed
returns-in_err-line-clause-failed g c =
    let p = err_from_is_err_and c.from_residual.result c.from_residual.ensures.1 in
    rw (p.1, p.2) (unread (1000000 - c.loop-line._line) c.loop-line.room _ c.loop-line.invariant c.in_err-line.ensures.failed)

pub returns-in_default-clause-held : goal.returns-in_default-clause-held
returns-in_default-clause-held g c =
    held_none (1000000 - c.loop-line._line) c.loop-line.room c.hear.new.room (g.R.Read.remaining c.hear.new.input) c.loop-line.invariant (rw c.in_default.is at c.in_ok-line.ensures.line)

pub returns-then-is_quit-clause-held : goal.returns-then-is_quit-clause-held
returns-then-is_quit-clause-held g c =
    let at : suc (1000000 - (c.loop-line._line + 1)) ≡ 1000000 - c.loop-line._line = let t = c.loop-line-test.true in omega arith in
    let so = subst (λ (n : ℕ). IsSoFar c.args.system.now c.args.cpu c.args.listing.now c.args.machine.now c.loop-line.machine (g.R.Read.remaining c.args.input.now) (g.R.Read.remaining c.loop-line.input)
    (g.W.Write.contents c.args.out.now) (g.W.Write.contents c.loop-line.out) n c.loop-line.room) (sym at) c.loop-line.invariant in
    let hears = rw c.in-Some.is at c.in_ok-line.ensures.line in
    let is : request_of_order c.read-order.result ≡ request_of (without_end c.in-Some.line.items) =
    c.read-order.ensures ∙ ap request_of (c.without_end.ensures ∙ ap without_end c.as_slice.ensures.value) in
    held_quit (1000000 - (c.loop-line._line + 1)) c.loop-line.room c.hear.new.room (g.R.Read.remaining c.hear.new.input) (without_end c.in-Some.line.items) (request_of_order c.read-order.result) so hears is (sym c.is_quit.ensures ∙ c.if-is_quit.true)

pub returns-in-Err-clause-failed : goal.returns-in-Err-clause-failed
returns-in-Err-clause-failed g c =
    let at : suc (1000000 - (c.loop-line._line + 1)) ≡ 1000000 - c.loop-line._line = let t = c.loop-line-test.true in omega arith in
    let so = subst (λ (n : ℕ). IsSoFar c.args.system.now c.args.cpu c.args.listing.now c.args.machine.now c.loop-line.machine (g.R.Read.remaining c.args.input.now) (g.R.Read.remaining c.loop-line.input)
    (g.W.Write.contents c.args.out.now) (g.W.Write.contents c.loop-line.out) n c.loop-line.room) (sym at) c.loop-line.invariant in
    let hears = rw c.in-Some.is at c.in_ok-line.ensures.line in
    let is : request_of_order c.read-order.result ≡ request_of (without_end c.in-Some.line.items) =
    c.read-order.ensures ∙ ap request_of (c.without_end.ensures ∙ ap without_end c.as_slice.ensures.value) in
    unanswered (1000000 - (c.loop-line._line + 1)) c.loop-line.room c.hear.new.room (g.R.Read.remaining c.hear.new.input) (without_end c.in-Some.line.items) (request_of_order c.read-order.result) so hears is (sym c.is_quit.ensures ∙ c.if-is_quit.false) c.in-Err.ensures.refused

pub loop-line-preserved : goal.loop-line-preserved
loop-line-preserved g c =
    let at : suc (1000000 - (c.loop-line._line + 1)) ≡ 1000000 - c.loop-line._line = let t = c.loop-line-test.true in omega arith in
    let so = subst (λ (n : ℕ). IsSoFar c.args.system.now c.args.cpu c.args.listing.now c.args.machine.now c.loop-line.machine (g.R.Read.remaining c.args.input.now) (g.R.Read.remaining c.loop-line.input)
    (g.W.Write.contents c.args.out.now) (g.W.Write.contents c.loop-line.out) n c.loop-line.room) (sym at) c.loop-line.invariant in
    let hears = rw c.in-Some.is at c.in_ok-line.ensures.line in
    let is : request_of_order c.read-order.result ≡ request_of (without_end c.in-Some.line.items) =
    c.read-order.ensures ∙ ap request_of (c.without_end.ensures ∙ ap without_end c.as_slice.ensures.value) in
    so_far_more (1000000 - (c.loop-line._line + 1)) c.loop-line.room c.hear.new.room c.obey.new.machine (g.R.Read.remaining c.hear.new.input) (g.W.Write.contents c.obey.new.out) (without_end c.in-Some.line.items) (request_of_order c.read-order.result) so hears is
    (sym c.is_quit.ensures ∙ c.if-is_quit.false) c.in-Ok.ensures.state c.in-Ok.ensures.text

pub returns-clause-held : goal.returns-clause-held
returns-clause-held g c =
    held_all (1000000 - c.loop-line._line) c.loop-line.room c.loop-line.invariant (let f = c.loop-line-test.false in omega arith)
