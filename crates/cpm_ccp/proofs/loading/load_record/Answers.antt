use Rattle.std.proofs.Common.{◌≡◌, List, ℕ, Ok, ap, sym, ◌∙◌, arith}
use Rattle.std.proofs.lemmas.List.{take_all}
use Rattle.cpm_drives.specs.Calls.{FileCall}
use Rattle.cpm_bdos.specs.StepResult.{did}
use Rattle.cpm_bdos.specs.declared.session.Session.{Session}
use Rattle.cpm_bdos.specs.declared.session.Went.TheVariants.{GoesOn}
use Rattle.cpm_ccp.specs.Parts.{record_read, with_call}
use Rattle.cpm_ccp.specs.Loading.{load_record, after_load_read, record_loaded}
use Rattle.cpm_ccp.proofs.loading.load_record.Goals as goal

pub returns-in-Ok-eq0-clause-step : goal.returns-in-Ok-eq0-clause-step
unfolding load_record
returns-in-Ok-eq0-clause-step g c =
    let m = g.M.Memory.contents c.args.memory.now in
    let s = c.args.session.now in
    let bytes = c.read_next.new.buffer in
    let is : c.read_next.result ≡ Ok 0 = cc in
    let call = rw is at c.read_next.ensures in
    c.load_at.ensures.step
    ∙ (ap (λ (bs : List ℕ). record_loaded c.args.next bs (record s { disks = c.read_next.new.self; file = c.read_next.new.fcb }) m) (sym (take_all 128 bytes (omega arith)))
    ∙ ap (λ (k : FileCall). after_load_read k.answer c.args.next (record_read k) (with_call s k) m) call)

pub returns-in-Err-clause-step : goal.returns-in-Err-clause-step
unfolding load_record
returns-in-Err-clause-step g c =
    let m = g.M.Memory.contents c.args.memory.now in
    ap (λ (s : Session). did s m GoesOn) c.fail.ensures ∙ ap (λ (k : FileCall). after_load_read k.answer c.args.next (record_read k) (with_call c.args.session.now k) m) c.in-Err.ensures
