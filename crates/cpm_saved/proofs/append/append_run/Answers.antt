use Rattle.std.proofs.Common.{◌∙◌, ◌+◌, ℕ, List, ◌++◌, ap, arith, length}
use Rattle.cpm_saved.proofs.Appends.{all_below, run_appended}
use Rattle.cpm_saved.proofs.append.append_run.Goals as goal

pub returns : goal.returns
returns c = λ field.
    run_appended field _ (length c.args.front.now + length c.args.back.now) _ _ _ _ _ _ (omega arith) (omega arith) (omega arith)
    (c.in_ok-extend_from_slice.ensures.items ∙ ap (λ (xs : List ℕ). c.args.out.now.items ++ xs) c.to_le_bytes.ensures)
    (c.in_ok-extend_from_slice-2.ensures.items) (c.in_ok-extend_from_slice-3.ensures.items)
    (all_below _ (λ i. omega (arith, c.type_inv.front i))) (all_below _ (λ i. omega (arith, c.type_inv.back i)))
