use Rattle.std.proofs.Common.{◌≡◌, ◌∙◌, ◌<◌, ◌++◌, ℕ, List, ap, ap₂, arith, drop, length, subst, sym}
use Rattle.std.proofs.lemmas.Bool.Decides.{nat_tests}
use Rattle.cpm_play.specs.Playing.{IsInOrder}
use Rattle.cpm_run.proofs.PressableLemmas.{fork-own, fork-pressable}
use Rattle.cpm_run.proofs.pressable.is_fork_pressable.Goals as goal
use Rattle.cpm_script.specs.Fork.{keys_before}
use Rattle.cpm_script.specs.declared.script.Key.{Key}

pub returns-clause-can : goal.returns-clause-can
returns-clause-can c = λ can.
    let test = c.in-Some.ensures.lookup.0 in
    let within : c.args.parent < length c.args.inputs.now = grind (arith, nat_tests) in
    let first : List Key = c.in_ok-first.first.items in
    let keys : List Key = c.args.input.now.keys.items in
    let joined : keys ≡ first ++ drop (length first) keys =
    sym c.as_slice-keys.ensures.value ∙ c.begin_with.ensures.first c.if-not-begin_with.false
    ∙ ap₂ (λ (xs ys : List Key). xs ++ drop (length xs) ys) c.as_slice-2.ensures.value c.as_slice-keys.ensures.value in
    let order : IsInOrder c.args.at (drop (length first) keys) =
    subst (λ (ks : List Key). IsInOrder c.args.at ks) (c.keys_after.ensures ∙ ap₂ (λ (n : ℕ) (ks : List Key). drop n ks) (c.len-2.ensures ∙ sym c.as_slice-2.ensures.len ∙ ap length c.as_slice-2.ensures.value) c.as_slice-keys.ensures.value) (c.are_in_order.ensures.order can) in
    fork-pressable c.args.inputs.now c.args.input.now c.in-Some.other.now c.args.parent c.args.at first within c.in-Some.ensures.lookup.1 (c.is_opened.ensures.opened c.if-not-is_opened.false)
    c.if-at-input.false
    (λ system others long. c.takes_all.ensures.room c.if-not-takes_all.false system others (long ∙ ap length (sym c.as_slice-keys.ensures.value) ∙ c.as_slice-keys.ensures.len ∙ sym c.len.ensures)) (c.in_ok-first.ensures ∙ ap (keys_before c.args.at) c.as_slice.ensures.value) joined order

pub returns-clause-other : goal.returns-clause-other
returns-clause-other c = λ no system can few.
    let test = c.in-Some.ensures.lookup.0 in
    let within : c.args.parent < length c.args.inputs.now = grind (arith, nat_tests) in
    let first : List Key = c.in_ok-first.first.items in
    let order = fork-own c.args.inputs.now c.args.input.now c.in-Some.other.now c.args.parent c.args.at first within c.in-Some.ensures.lookup.1
    (c.in_ok-first.ensures ∙ ap (keys_before c.args.at) c.as_slice.ensures.value) system can in
    c.are_in_order.ensures.other no
    (subst (λ (ks : List Key). IsInOrder c.args.at ks)
    (sym (c.keys_after.ensures ∙ ap₂ (λ (n : ℕ) (ks : List Key). drop n ks) (c.len-2.ensures ∙ sym c.as_slice-2.ensures.len ∙ ap length c.as_slice-2.ensures.value) c.as_slice-keys.ensures.value)) order)
