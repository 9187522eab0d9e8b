use Rattle.std.proofs.Common.{List, Option, subst, sym}
use Rattle.cpm_geom.specs.Disk.{Disk}
use Rattle.cpm_host.specs.SavedText.{AreDrivesTold, HasAppended}
use Rattle.cpm_host.proofs.SavedTextLemmas.{drives_told, four_drives, on_ok}
use Rattle.cpm_host.proofs.saved_text.tell_drives.Goals as goal

pub returns : goal.returns
returns g c =
    let four = four_drives c.args.drives.now c.index-drives-0.result c.index-drives-1.result c.index-drives-2.result c.index-drives-3.result c.type_inv.drives in
    on_ok c.tell_drive-4.result _ _
    (λ fourth. subst (λ (ds : List (Option Disk)). HasAppended (g.W.Write.contents c.args.out.now) (g.W.Write.contents c.tell_drive-4.new.out) (AreDrivesTold ds)) (sym four)
    (drives_told _ _ _ _ _ _ _ _ _ c.in_ok-tell_drive.ensures c.in_ok-tell_drive-2.ensures c.in_ok-tell_drive-3.ensures fourth)) c.tell_drive-4.ensures
