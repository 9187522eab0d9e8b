use Rattle.cpm_volume.specs.Operations.{close_file_on_volume}
use Rattle.cpm_directory.specs.Directory.{entries_of}
use Rattle.cpm_drive.proofs.FileLemmas.{closes}
use Rattle.cpm_drive.proofs.drive.Drive.close_file.Goals as goal

pub returns : goal.returns
unfolding close_file_on_volume
returns c =
    let closing = c.judge_close-closing in
    closes c.args.self.now _ c.args.fcb.now _ closing.result _ _ (rw c.lent.ensures at closing.ensures.value) (rw c.lent.ensures at closing.ensures.within) (rw c.change.ensures at c.write_change.ensures.drive) (c.answer.ensures (entries_of c.args.self.now.image))
