use Rattle.std.proofs.Common.{◌≡◌, Ok, sym, ◌∙◌}
use Rattle.cpm_geom.proofs.RecordLemmas.{are_listed}
use Rattle.cpm_drive.proofs.reading.take_record.Goals as goal

pub returns-in-Ok-clause-buffer : goal.returns-in-Ok-clause-buffer
returns-in-Ok-clause-buffer c =
    let found = rw c.unwrap.ensures at c.record.ensures in
    let is : c.args.found ≡ Ok c.in-Ok.number = cc in
    rw is (c.copy_from_slice.ensures.after ∙ (found.1 ∙ sym ((are_listed c.args.image.now).at c.in-Ok.number found.0)))
