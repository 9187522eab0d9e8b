use Rattle.std.proofs.Common.{◌≡◌, ◌<◌, ◌/◌, ap, ◌∙◌, arith}
use Rattle.cpm_geom.specs.declared.dpb.Dpb.{Dpb}
use Rattle.cpm_geom.specs.Disk.{Disk}
use Rattle.cpm_geom.specs.Geometry.{dpb_of}
use Rattle.cpm_directory.specs.Directory.{entries_of}
use Rattle.cpm_directory.proofs.LawLemmas.{outside}
use Rattle.cpm_directory.proofs.ListedLemmas.{past_directory, still_kept}
use Rattle.cpm_directory.proofs.listed.ListedImage.put_record.Goals as goal

pub invariant_of-self-else-number-dpb : goal.invariant_of-self-else-number-dpb
invariant_of-self-else-number-dpb c =
    let d : c.dpb-dpb.result ≡ dpb_of c.self.inside.image.format = cc in
    let last = ap (λ (p : Dpb). p.last_entry) d in
    let past : (dpb_of c.self.inside.image.format).last_entry / 4 < c.args.number = omega (arith, last, c.if-number-dpb.false) in
    let written = c.in_ok-put_record.ensures in
    let same = ap entries_of written.1 ∙ outside c.self.inside.image c.args.number _ c.format.ensures.whole written.0 (past_directory c.self.inside.image.format c.args.number past) in
    still_kept c.self.inside.entries c.self.inside.image c.put_record.new.self c.self.invariant (ap (λ (disk : Disk). disk.format) written.1) same
