use Rattle.cpm_geom.proofs.SectorLemmas.{has_bytes, is_disk}
use Rattle.cpm_geom.proofs.image.Image.format.Goals as goal

pub returns-clause-whole : goal.returns-clause-whole
returns-clause-whole c = rw (← c.self.view_is) (is_disk c.self.inside.format c.self.inside.bytes.items c.self.invariant)

pub returns-clause-bytes : goal.returns-clause-bytes
returns-clause-bytes c =
    let below = rw c.deref.ensures.value at c.only_bytes.ensures in
    rw (← c.self.view_is) (has_bytes c.self.inside.format c.self.inside.bytes.items c.self.invariant below)
