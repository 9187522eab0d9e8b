use Rattle.std.proofs.Common.{option_map}
use Rattle.cpm_disk_commands.proofs.ChangedLemmas.{compared_more}
use Rattle.cpm_disk_commands.proofs.changed.compare_files.Goals as goal

pub loop-file-preserved : goal.loop-file-preserved
loop-file-preserved c =
    let l = c.loop-file in
    compared_more (option_map (λ d. d.now) c.args.start) c.args.left.now c.args.files.now l.file-index _ l.compared.items c.push.new.self.items
    c.in_ok-compare_file.field-0 c.loop-file-test.true c.in_ok-push.ensures.items l.invariant c.in_ok-compare_file.ensures
