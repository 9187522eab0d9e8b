use Rattle.std.proofs.Common.{ap, ◌∙◌}
use Rattle.cpm_volume.specs.Operations.{close_file_on_volume}
use Rattle.cpm_directory.specs.Directory.{entries_of}
use Rattle.cpm_drive.specs.Calls.{close_answer}
use Rattle.cpm_drive.proofs.closing.close_file_lent.Goals as goal

pub returns : goal.returns
unfolding close_file_on_volume
returns c =
    c.answer.ensures (entries_of c.args.image.now) ∙ ap (close_answer c.args.fcb.now) (rw c.new.ensures at c.judge_close.ensures.value)
