use Rattle.std.proofs.Common.{◌≡◌, ◌≢◌, arith}
use Rattle.cpm_geom.specs.Geometry.{dpb_of}
use Rattle.cpm_drive.proofs.ReadLemmas.{get_past, get_bad, get_none, get_found}
use Rattle.cpm_drive.proofs.reading.find_record.Goals as goal

pub returns-then-fcb-clause-value : goal.returns-then-fcb-clause-value
returns-then-fcb-clause-value c = λ v. get_past (dpb_of c.args.format) v c.args.fcb.now _ (omega arith)

pub returns-in-Err-clause-value : goal.returns-in-Err-clause-value
returns-in-Err-clause-value c = λ v.
    let d : c.dpb.result ≡ dpb_of c.args.format = cc in
    let e = rw d at c.in-Err.ensures in
    get_bad (dpb_of c.args.format) v c.args.fcb.now _ (omega arith) e.1

pub returns-then-block-eq0-clause-value : goal.returns-then-block-eq0-clause-value
returns-then-block-eq0-clause-value c = λ v.
    let d : c.dpb.result ≡ dpb_of c.args.format = cc in
    let e = rw d at c.in-Ok.ensures in
    get_none (dpb_of c.args.format) v c.args.fcb.now _ (omega arith) c.in-Ok.block e.0 e.1 (omega arith)

pub returns-clause-value : goal.returns-clause-value
returns-clause-value c = λ v.
    let d : c.dpb.result ≡ dpb_of c.args.format = cc in
    let e = rw d at c.in-Ok.ensures in
    let other : c.in-Ok.block ≢ 0 = λ z. omega arith in
    get_found (dpb_of c.args.format) v c.args.fcb.now _ (omega arith) c.in-Ok.block c.record_in_block-number.result e.0 e.1 other c.record_in_block-number.ensures.value
