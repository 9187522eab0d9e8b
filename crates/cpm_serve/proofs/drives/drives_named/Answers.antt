use Rattle.cpm_serve.proofs.ReadLemmas.{none-more_at}
use Rattle.cpm_serve.proofs.drives.drives_named.Goals as goal

pub returns : goal.returns
returns g c =
    let start = c.args.folder.now in
    let a = c.with_drive-drives.ensures _ start (none-more_at g.F.Folder.does start c.new.result.items c.new.ensures.items) in
    let b = c.with_drive-drives-2.ensures _ start a in
    let d = c.with_drive-drives-3.ensures _ start b in
    c.with_drive.ensures _ start d
