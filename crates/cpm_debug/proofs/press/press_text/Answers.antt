use Rattle.std.proofs.Common.{ap}
use Rattle.cpm_debug.specs.Dialog.{PressResult}
use Rattle.cpm_debug.proofs.PressLemmas.{pressed_none, pressed_some}
use Rattle.cpm_script.specs.KeyText.{keys_of}
use Rattle.std.proofs.Common.{◌∙◌, sym}
use Rattle.cpm_debug.proofs.press.press_text.Goals as goal

pub returns-else-are_keys-clause-accepted : goal.returns-else-are_keys-clause-accepted
returns-else-are_keys-clause-accepted c = ap (λ (p : PressResult). p.accepted) (sym (pressed_none (keys_of c.args.text.now) c.args.machine.now c.if-are_keys.ensures))

pub returns-else-are_keys-clause-state : goal.returns-else-are_keys-clause-state
returns-else-are_keys-clause-state c = ap (λ (p : PressResult). p.state) (sym (pressed_none (keys_of c.args.text.now) c.args.machine.now c.if-are_keys.ensures))

pub returns-then-are_keys-clause-accepted : goal.returns-then-are_keys-clause-accepted
returns-then-are_keys-clause-accepted c =
    c.press.ensures.accepted ∙ ap (λ (p : PressResult). p.accepted) (sym (pressed_some c.args.text.now c.args.machine.now c.if-is_empty.ensures c.if-are_keys.ensures))

pub returns-then-are_keys-clause-state : goal.returns-then-are_keys-clause-state
returns-then-are_keys-clause-state c =
    c.press.ensures.state ∙ ap (λ (p : PressResult). p.state) (sym (pressed_some c.args.text.now c.args.machine.now c.if-is_empty.ensures c.if-are_keys.ensures))
