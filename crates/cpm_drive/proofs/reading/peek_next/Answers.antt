use Rattle.std.proofs.Common.{◌≡◌, Ok, Err, sym, ◌∙◌}
use Rattle.cpm_geom.proofs.RecordLemmas.{are_listed}
use Rattle.cpm_drive.specs.Reads.{lent_drive}
use Rattle.cpm_drive.proofs.ReadLemmas.{peeked}
use Rattle.cpm_drive.proofs.reading.peek_next.Goals as goal

pub returns-in-Ok : goal.returns-in-Ok
returns-in-Ok c =
    let is : c.judge_read_next.result.found ≡ Ok c.in-Ok.number = cc in
    let found = rw c.unwrap.ensures at c.record.ensures in
    let listed = found.1 ∙ sym ((are_listed c.args.image.now).at c.in-Ok.number found.0) in
    let ahead = rw is at (peeked (lent_drive c.args.image.now c.args.marks.now) c.args.user c.args.fcb.now c.judge_read_next.new.fcb c.judge_read_next.result.found c.judge_read_next.ensures.record) in
    rw listed ahead

pub returns-in-Err : goal.returns-in-Err
returns-in-Err c =
    let is : c.judge_read_next.result.found ≡ Err c.in-Err.answer = cc in
    rw is at (peeked (lent_drive c.args.image.now c.args.marks.now) c.args.user c.args.fcb.now c.judge_read_next.new.fcb c.judge_read_next.result.found c.judge_read_next.ensures.record)
