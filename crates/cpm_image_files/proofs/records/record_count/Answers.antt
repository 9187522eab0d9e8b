use Rattle.std.proofs.Common.{◌≡◌, length, subst, ap, arith}
use Rattle.cpm_geom.specs.Geometry.{dpb_of}
use Rattle.cpm_geom.specs.declared.dpb.Dpb.{Dpb}
use Rattle.cpm_directory.specs.Directory.{entries_of}
use Rattle.cpm_directory.proofs.DriveLemmas.{last_entry_small, entries_length}
use Rattle.cpm_image_files.specs.Reach.{IsEndBefore}
use Rattle.cpm_image_files.proofs.CountLemmas.{has_records}
use Rattle.cpm_image_files.proofs.records.record_count.Goals as goal

pub overflow_add-index-end : goal.overflow_add-index-end
overflow_add-index-end c =
    let d : c.dpb-index-end.result ≡ dpb_of c.args.image.now.format = cc in
    let last = ap (λ (p : Dpb). p.last_entry) d in
    omega (arith, last_entry_small c.args.image.now.format)

pub returns-clause-records : goal.returns-clause-records
returns-clause-records c =
    let d : c.dpb-index-end.result ≡ dpb_of c.args.image.now.format = cc in
    let last = ap (λ (p : Dpb). p.last_entry) d in
    let size = entries_length c.args.image.now in
    let all : c.loop-index.index ≡ length (entries_of c.args.image.now) = omega arith in
    has_records c.args.image.now c.args.user c.args.name.now c.requires.user c.requires.sound c.loop-index.count (subst (λ k. IsEndBefore (dpb_of c.args.image.now.format) (entries_of c.args.image.now) c.args.user c.args.name.now k c.loop-index.count) all c.loop-index.invariant)
