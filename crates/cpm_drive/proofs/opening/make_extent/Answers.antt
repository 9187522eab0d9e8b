use Rattle.std.proofs.Common.{sym, arith}
use Rattle.cpm_directory.specs.Directory.{entries_of}
use Rattle.cpm_directory.proofs.DriveLemmas.{entries_length}
use Rattle.cpm_drive.specs.Judged.{entries_after}
use Rattle.cpm_drive.proofs.ChangeLemmas.{after_length}
use Rattle.cpm_drive.proofs.OpenLemmas.{make_none, make_free}
use Rattle.cpm_drive.proofs.opening.make_extent.Goals as goal

pub returns-in-None-clause-value : goal.returns-in-None-clause-value
returns-in-None-clause-value c =
    let same = after_length (entries_of c.args.image.now) c.args.change in
    let none = c.in-None.ensures in
    sym (make_none (entries_after (entries_of c.args.image.now) c.args.change) c.args.user c.args.extent.now c.args.number (omega arith))

pub returns-in-Some-clause-value : goal.returns-in-Some-clause-value
returns-in-Some-clause-value c =
    let size = entries_length c.args.image.now in
    let same = after_length (entries_of c.args.image.now) c.args.change in
    let within = c.in-Some.ensures.1 in
    let free = make_free (entries_after (entries_of c.args.image.now) c.args.change) c.args.user c.args.extent.now c.args.number c.in-Some.index c.in-Some.ensures.0 (omega arith) in
    rw c.made_extent-extent.ensures (sym free)
