use Rattle.std.proofs.Common.{◌≢◌, ◌∙◌, ap, sym, subst, List, ℕ, []}
use Rattle.std.specs.Prelude.{OnOk, OnErr}
use Rattle.std.specs.Io.KnownBytes.{Appends}
use Rattle.cpm_script.specs.KeyText.{keys_of}
use Rattle.cpm_debug.specs.Dialog.{DialogReply, debug_answer}
use Rattle.cpm_debug.specs.Orders.{request_of_order}
use Rattle.cpm_debug.proofs.DialogLemmas.{answer_press, on_ok}
use Rattle.cpm_debug.proofs.answer.obey.Goals as goal

pub returns-in-Press-clause-state : goal.returns-in-Press-clause-state
returns-in-Press-clause-state g c =
    let whole = ap (λ q. debug_answer c.args.system.now c.args.cpu c.args.listing.now q c.args.machine.now) (ap request_of_order c.in-Press.is)
    ∙ answer_press c.args.system.now c.args.cpu c.args.listing.now (keys_of c.in-Press.text.now) c.args.machine.now in
    on_ok c.press_keys.result (c.press_keys.ensures.state ∙ ap (λ (r : DialogReply). r.state) (sym whole))

pub returns-in-Press-clause-text : goal.returns-in-Press-clause-text
returns-in-Press-clause-text g c =
    let whole = ap (λ q. debug_answer c.args.system.now c.args.cpu c.args.listing.now q c.args.machine.now) (ap request_of_order c.in-Press.is)
    ∙ answer_press c.args.system.now c.args.cpu c.args.listing.now (keys_of c.in-Press.text.now) c.args.machine.now in
    subst (λ (t : List ℕ). OnOk c.press_keys.result (Appends (g.W.Write.contents c.args.out.now) (g.W.Write.contents c.press_keys.new.out) t))
    (ap (λ (r : DialogReply). r.text) (sym whole)) c.press_keys.ensures.text

pub returns-in-Press-clause-refused : goal.returns-in-Press-clause-refused
returns-in-Press-clause-refused g c =
    let whole = ap (λ q. debug_answer c.args.system.now c.args.cpu c.args.listing.now q c.args.machine.now) (ap request_of_order c.in-Press.is)
    ∙ answer_press c.args.system.now c.args.cpu c.args.listing.now (keys_of c.in-Press.text.now) c.args.machine.now in
    subst (λ (t : List ℕ). OnErr c.press_keys.result (t ≢ [])) (ap (λ (r : DialogReply). r.text) (sym whole)) c.press_keys.ensures.refused
