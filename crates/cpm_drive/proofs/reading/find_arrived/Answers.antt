use Rattle.std.proofs.Common.{◌≡◌, Ok, Err}
use Rattle.cpm_geom.specs.Geometry.{dpb_of}
use Rattle.cpm_drive.proofs.ReadLemmas.{read_ok, read_err}
use Rattle.cpm_drive.proofs.reading.find_arrived.Goals as goal

pub returns-in-Ok-clause-value : goal.returns-in-Ok-clause-value
returns-in-Ok-clause-value c = λ v.
    let is : c.args.arrival.now.current ≡ Ok c.in-Ok.here = cc in
    read_ok (dpb_of c.args.format) v c.args.arrival.now c.in-Ok.here c.args.step c.args.fcb.now _ is c.find_record.ensures.value

pub returns-in-Err-clause-value : goal.returns-in-Err-clause-value
returns-in-Err-clause-value c = λ v.
    let is : c.args.arrival.now.current ≡ Err c.in-Err.answer = cc in
    read_err (dpb_of c.args.format) v c.args.arrival.now c.in-Err.answer c.args.step c.args.fcb.now is
