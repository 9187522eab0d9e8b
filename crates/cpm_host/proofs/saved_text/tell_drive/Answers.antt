use Rattle.std.proofs.Common.{◌∙◌}
use Rattle.cpm_host.proofs.SavedTextLemmas.{drive_listed, drive_unlisted, fault_told, line_joined, on_ok}
use Rattle.cpm_host.proofs.saved_text.tell_drive.Goals as goal

pub returns-in-Ok : goal.returns-in-Ok
returns-in-Ok g c =
    let line = line_joined c.args.letter.now _ c.bytes.result.now c.in-Some.image (c.as_bytes.ensures.value ∙ c.in_ok-line.ensures.ok) c.bytes.ensures.value in
    drive_listed c.args.letter.now _ c.args.drive.now c.in-Some.image c.format-in-Ok.result c.in-Ok.listing _ _ _ c.in-Some.is c.in-Ok.ensures c.format-in-Ok.ensures.format line
    c.in_ok-write_text.ensures.written c.in_ok-write_list-in-Ok.ensures.text

pub returns-in-Err-Damaged : goal.returns-in-Err-Damaged
returns-in-Err-Damaged g c =
    let line = line_joined c.args.letter.now _ c.bytes.result.now c.in-Some.image (c.as_bytes.ensures.value ∙ c.in_ok-line.ensures.ok) c.bytes.ensures.value in
    let fault = fault_told c.in-Some.image c.args.letter.now c.in-Err-Damaged.field-0 _ c.in-Err-Damaged.field-0-1 c.in-Err-Damaged.field-0-is c.in-Err-Damaged.ensures in
    on_ok c.write_text-in-Err-Damaged.result _ _
    (λ written. drive_unlisted c.args.letter.now _ c.args.drive.now c.in-Some.image c.in-Err-Damaged.field-0-1.fault _ _ _ c.in-Some.is fault line c.in_ok-write_text.ensures.written written)
    c.write_text-in-Err-Damaged.ensures.written
