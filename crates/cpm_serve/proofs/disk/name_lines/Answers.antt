use Rattle.cpm_serve.proofs.DiskLemmas.{names-all, names-more, no_file}
use Rattle.cpm_serve.proofs.disk.name_lines.Goals as goal

pub loop-file-preserved : goal.loop-file-preserved
loop-file-preserved c =
    names-more c.loop-file.text.items c.add_name_line.new.text.items c.args.files.now c.loop-file.file-index no_file c.loop-file-test.true c.in_ok-add_name_line.ensures c.loop-file.invariant

pub returns : goal.returns
returns c = names-all c.loop-file.text.items c.args.files.now c.loop-file.file-index c.loop-file-test.false c.loop-file.invariant
