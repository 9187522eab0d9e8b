use Rattle.std.proofs.Common.{◌≡◌, sym, ap, ◌∙◌}
use Rattle.cpm_geom.specs.declared.dpb.Dpb.{Dpb}
use Rattle.cpm_geom.specs.Disk.{Disk}
use Rattle.cpm_geom.specs.Geometry.{dpb_of}
use Rattle.cpm_directory.specs.Directory.{entries_of}
use Rattle.cpm_directory.proofs.ListedLemmas.{outside_track, still_kept}
use Rattle.cpm_directory.proofs.listed.ListedImage.put_sector.Goals as goal

pub invariant_of-self-else-track-dpb : goal.invariant_of-self-else-track-dpb
invariant_of-self-else-track-dpb c =
    let d : c.dpb-dpb.result ≡ dpb_of c.self.inside.image.format = cc in
    let offset = ap (λ (p : Dpb). p.track_offset) d in
    let written = c.in_ok-put_sector.ensures in
    let same = ap entries_of written.1 ∙ outside_track c.self.inside.image c.args.track c.args.sector _ written.0 (λ e. c.if-track-dpb.false (e ∙ sym offset)) in
    still_kept c.self.inside.entries c.self.inside.image c.put_sector.new.self c.self.invariant (ap (λ (disk : Disk). disk.format) written.1) same
