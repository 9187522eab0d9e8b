use Rattle.std.proofs.Common.{◌≡◌, ◌+◌, ◌<◌, refl, ap, ◌∙◌, arith, replicate}
use Rattle.cpm_geom.specs.declared.dpb.Dpb.{Dpb}
use Rattle.cpm_geom.specs.Geometry.{dpb_of, record_index}
use Rattle.cpm_geom.specs.Disk.{Disk, with_sector}
use Rattle.cpm_drive.proofs.ReadLemmas.{mask_small}
use Rattle.cpm_drive.proofs.PutLemmas.{none_cleared, more_cleared, all_cleared, in_block_at}
use Rattle.cpm_drive.proofs.drive.Drive.clear_block.Goals as goal

pub overflow_add-place-end : goal.overflow_add-place-end
overflow_add-place-end c =
    let d : c.dpb-place-end.result ≡ dpb_of c.args.self.now.image.format = cc in
    let mask = ap (λ (p : Dpb). p.block_mask) d in
    omega (arith, mask_small c.args.self.now.image.format)

pub loop-place-init : goal.loop-place-init
loop-place-init c = (refl, none_cleared (dpb_of c.args.self.now.image.format) c.args.self.now c.args.block)

pub loop-place-preserved : goal.loop-place-preserved
loop-place-preserved c =
    let d : c.dpb-place-end.result ≡ dpb_of c.args.self.now.image.format = cc in
    let mask = ap (λ (p : Dpb). p.block_mask) d in
    let below : c.loop-place.place < (dpb_of c.args.self.now.image.format).block_mask + 1 = omega arith in
    let written = rw c.unwrap.ensures at c.put_record.ensures in
    let number = rw c.format-format.ensures.format at c.record_in_block-number.ensures.value ∙ in_block_at (dpb_of c.args.self.now.image.format) c.args.block c.loop-place.place below in
    (ap (λ (disk : Disk). disk.format) written.1 ∙ c.loop-place.invariant.0, more_cleared (dpb_of c.args.self.now.image.format) c.args.self.now c.loop-place.self c.args.block c.loop-place.place c.put_record.new.self c.loop-place.invariant.1 (written.1 ∙ ap (λ n. with_sector c.loop-place.self.image (record_index c.loop-place.self.image.format n) (replicate 128 0)) number))

pub returns : goal.returns
returns c =
    let d : c.dpb-place-end.result ≡ dpb_of c.args.self.now.image.format = cc in
    let mask = ap (λ (p : Dpb). p.block_mask) d in
    let last : c.loop-place.place ≡ (dpb_of c.args.self.now.image.format).block_mask + 1 = omega arith in
    rw last at c.loop-place.invariant.1 ∙ all_cleared (dpb_of c.args.self.now.image.format) c.args.self.now c.args.block
