use Rattle.std.proofs.Common.{◌≡◌, ◌<◌, Some, None, length, sym, ap, ◌∙◌, arith}
use Rattle.cpm_volume.specs.Files.{entry_at}
use Rattle.cpm_directory.specs.Directory.{entries_of}
use Rattle.cpm_directory.proofs.DriveLemmas.{entries_length}
use Rattle.cpm_drive.specs.Judged.{entries_after}
use Rattle.cpm_drive.proofs.ChangeLemmas.{entry_changed, entry_other}
use Rattle.cpm_drive.proofs.change.entry_after.Goals as goal

pub returns-then-change-index : goal.returns-then-change-index
returns-then-change-index c =
    let size = entries_length c.args.image.now in
    let below : c.args.index < length (entries_of c.args.image.now) = omega (arith, c.requires) in
    let at = entry_changed (entries_of c.args.image.now) c.in-Some.change c.args.index c.if-change-index.true below in
    let is : c.args.change ≡ Some c.in-Some.change = cc in
    sym at ∙ ap (λ change. entry_at (entries_after (entries_of c.args.image.now) change) c.args.index) (sym is)

pub returns-else-change-index : goal.returns-else-change-index
returns-else-change-index c =
    let at = entry_other (entries_of c.args.image.now) c.in-Some.change c.args.index c.if-change-index.false in
    let is : c.args.change ≡ Some c.in-Some.change = cc in
    c.entry.ensures.value ∙ (sym at ∙ ap (λ change. entry_at (entries_after (entries_of c.args.image.now) change) c.args.index) (sym is))

pub returns-in-None : goal.returns-in-None
returns-in-None c =
    let is : c.args.change ≡ None = cc in
    rw is c.entry-in-None.ensures.value
