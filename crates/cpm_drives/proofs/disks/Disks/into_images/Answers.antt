use Rattle.std.proofs.Common.{arith, None, rules}
use Rattle.cpm_drives.specs.Disks.{images_of}
use Rattle.cpm_drives.proofs.MarkLemmas.{images_left}
use Rattle.cpm_drives.proofs.disks.Disks.into_images.Goals as goal

pub returns : goal.returns
unfolding images_of
returns c =
    images_left c.args.self.drives c.map.result (omega arith) c.map.ensures.items.long (λ i h. let m = c.map.ensures.items.at i None None h in search (rules, m))
