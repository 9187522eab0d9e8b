use Rattle.std.proofs.Common.{◌≡◌, List, ℕ, Ok, ap, sym, ◌∙◌, arith}
use Rattle.std.proofs.lemmas.List.{take_all}
use Rattle.cpm_drives.specs.Calls.{FileCall}
use Rattle.cpm_ccp.specs.Parts.{record_read, with_call}
use Rattle.cpm_ccp.specs.Showing.{next_shown, after_type_read, record_shown}
use Rattle.cpm_ccp.proofs.showing.show_next.Goals as goal

pub returns-in-Ok-eq0 : goal.returns-in-Ok-eq0
unfolding next_shown
returns-in-Ok-eq0 c =
    let s = c.args.session.now in
    let bytes = c.read_next.new.buffer in
    let is : c.read_next.result ≡ Ok 0 = cc in
    let call = rw is at c.read_next.ensures in
    c.show_record.ensures
    ∙ (ap (λ (bs : List ℕ). record_shown bs (record s { disks = c.read_next.new.self; file = c.read_next.new.fcb })) (sym (take_all 128 bytes (omega arith)))
    ∙ ap (λ (k : FileCall). after_type_read k.answer (record_read k) (with_call s k)) call)

pub returns-in-Err : goal.returns-in-Err
unfolding next_shown
returns-in-Err c =
    c.fail.ensures ∙ ap (λ (k : FileCall). after_type_read k.answer (record_read k) (with_call c.args.session.now k)) c.in-Err.ensures
