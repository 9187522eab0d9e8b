use Rattle.std.proofs.Common.{inl, refl, subst, sym}
use Rattle.cpm_commands.specs.Words.{IsOrderDone, LineOrder}
use Rattle.cpm_commands.proofs.WordLemmas.{plain-order, short-order, typed-at-order}
use Rattle.cpm_commands.proofs.words.do_order.Goals as goal

pub returns-in_default : goal.returns-in_default
returns-in_default g c =
    let is = short-order c.args.words.now c.in_default.len_below in
    subst (λ (o : LineOrder). IsOrderDone g.D.TaskDoer.does_task o c.args.doer.now c.do_command.new.doer c.do_command.result) (sym is) (inl c.do_command.ensures)

pub returns-then-eq : goal.returns-then-eq
returns-then-eq g c =
    let is = typed-at-order c.args.words.now _ c.eq.result c.in-len2-up.len_at_least c.eq.ensures c.if-eq.true in
    subst (λ (o : LineOrder). IsOrderDone g.D.TaskDoer.does_task o c.args.doer.now c.args.doer.now c.tell_typed_at.result) (sym is) (refl, c.tell_typed_at.ensures)

pub returns-else-eq-2 : goal.returns-else-eq-2
returns-else-eq-2 g c =
    let is = plain-order c.args.words.now _ _ c.eq.result c.eq-else-eq.result c.in-len2-up.len_at_least c.eq.ensures c.if-eq.false c.eq-else-eq.ensures c.if-eq-2.false in
    subst (λ (o : LineOrder). IsOrderDone g.D.TaskDoer.does_task o c.args.doer.now c.do_command-else-eq-2.new.doer c.do_command-else-eq-2.result) (sym is)
    (inl c.do_command-else-eq-2.ensures)
