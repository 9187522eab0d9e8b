use Rattle.std.proofs.Common.{◌∙◌, ap, sym}
use Rattle.cpm_debug.specs.Dialog.{PressResult, keys_in_text, press}
use Rattle.cpm_debug.proofs.PressLemmas.{keys_in-front, none_first, press_accepted, press_refused, rest_keys}
use Rattle.cpm_debug.proofs.press.press.Goals as goal

pub loop-key-preserved : goal.loop-key-preserved
loop-key-preserved c =
    let rest = c.loop-key.rest.now in
    let after = c.in-Some.after.now in
    let key = c.in-Some.key in
    let keys = c.loop-key.invariant.keys in
    let first = sym c.in-Some.ensures in
    record {
      keys = rest_keys rest key after first keys;
      same = ap (press (keys_in_text after)) c.in-Ok.ensures.accepted.1
          ∙ sym (press_accepted key (keys_in_text after) c.loop-key.machine c.in-Ok.ensures.accepted.0)
          ∙ ap (λ ks. press ks c.loop-key.machine) (sym (keys_in-front rest key after first keys)) ∙ c.loop-key.invariant.same;
    }

pub returns-in-Err-clause-accepted : goal.returns-in-Err-clause-accepted
returns-in-Err-clause-accepted c =
    let rest = c.loop-key.rest.now in
    let after = c.in-Some.after.now in
    let key = c.in-Some.key in
    let first = sym c.in-Some.ensures in
    let is = ap (λ ks. press ks c.loop-key.machine) (keys_in-front rest key after first c.loop-key.invariant.keys)
    ∙ press_refused key (keys_in_text after) c.loop-key.machine c.in-Err.ensures.refused.0 in
    ap (λ (p : PressResult). p.accepted) (sym is ∙ c.loop-key.invariant.same)

pub returns-in-Err-clause-state : goal.returns-in-Err-clause-state
returns-in-Err-clause-state c =
    let rest = c.loop-key.rest.now in
    let after = c.in-Some.after.now in
    let key = c.in-Some.key in
    let first = sym c.in-Some.ensures in
    let is = ap (λ ks. press ks c.loop-key.machine) (keys_in-front rest key after first c.loop-key.invariant.keys)
    ∙ press_refused key (keys_in_text after) c.loop-key.machine c.in-Err.ensures.refused.0 in
    c.in-Err.ensures.refused.1 ∙ ap (λ (p : PressResult). p.state) (sym is ∙ c.loop-key.invariant.same)

pub returns-clause-state : goal.returns-clause-state
returns-clause-state c =
    let none = none_first c.loop-key.rest.now (sym c.in_default.ensures) c.loop-key.invariant.keys in
    ap (λ (p : PressResult). p.state) (ap (λ ks. press ks c.loop-key.machine) (sym none) ∙ c.loop-key.invariant.same)
