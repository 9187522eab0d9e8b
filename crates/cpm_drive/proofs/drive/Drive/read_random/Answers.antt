use Rattle.std.proofs.Common.{◌∙◌}
use Rattle.cpm_drive.proofs.ReadLemmas.{taken, at_gives}
use Rattle.cpm_drive.proofs.drive.Drive.read_random.Goals as goal

pub returns-clause-value : goal.returns-clause-value
returns-clause-value c =
    let reading = c.judge_read_random-reading in
    taken c.args.self.now c.write_change.new.self _ reading.result.found reading.result.closed _ c.args.buffer.now _ c.take_record.ensures.answer c.write_change.ensures.drive (rw c.image.ensures at c.take_record.ensures.buffer) ∙ (rw c.lent.ensures at (reading.ensures.value c.args.buffer.now))

pub returns-clause-file : goal.returns-clause-file
returns-clause-file c =
    at_gives c.args.self.now c.write_change.new.self c.args.user c.args.fcb.now _ c.args.buffer.now _ _ c.write_change.ensures.records c.args.number c.ranges.number.fits (returns-clause-value c)
