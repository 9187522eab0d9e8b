use Rattle.std.proofs.Common.{◌≡◌, ◌+◌, ◌*◌, ◌%◌, ◌<◌, refl, ap, ◌∙◌, arith}
use Rattle.cpm_geom.specs.declared.dpb.Dpb.{Dpb}
use Rattle.cpm_geom.specs.Geometry.{dpb_of}
use Rattle.cpm_volume.specs.Operations.{record_in_block}
use Rattle.cpm_drive.proofs.ReadLemmas.{in_block_small, in_block_there}
use Rattle.cpm_drive.proofs.reading.record_in_block.Goals as goal

pub overflow_mul-result : goal.overflow_mul-result
overflow_mul-result c =
    let m : c.from-block_size.result ≡ (dpb_of c.args.format).block_mask = c.from-block_size.ensures ∙ ap (λ (p : Dpb). p.block_mask) c.dpb.ensures in
    let h : c.args.block * (c.from-block_size.result + 1) + c.args.current % (c.from-block_size.result + 1) < 65536 = rw m (in_block_small c.args.format c.args.block c.args.current c.requires) in
    omega arith

pub overflow_add-result : goal.overflow_add-result
overflow_add-result c =
    let m : c.from-block_size.result ≡ (dpb_of c.args.format).block_mask = c.from-block_size.ensures ∙ ap (λ (p : Dpb). p.block_mask) c.dpb.ensures in
    let h : c.args.block * (c.from-block_size.result + 1) + c.from.result % (c.from-block_size.result + 1) < 65536 = rw (m, c.from.ensures) (in_block_small c.args.format c.args.block c.args.current c.requires) in
    omega arith

pub returns-clause-value : goal.returns-clause-value
unfolding record_in_block
returns-clause-value c =
    let m : c.from-block_size.result ≡ (dpb_of c.args.format).block_mask = c.from-block_size.ensures ∙ ap (λ (p : Dpb). p.block_mask) c.dpb.ensures in
    rw (m, c.from.ensures) refl

pub returns-clause-there : goal.returns-clause-there
unfolding record_in_block
returns-clause-there c =
    let m : c.from-block_size.result ≡ (dpb_of c.args.format).block_mask = c.from-block_size.ensures ∙ ap (λ (p : Dpb). p.block_mask) c.dpb.ensures in
    rw (m, c.from.ensures) (in_block_there c.args.format c.args.block c.args.current c.requires)
