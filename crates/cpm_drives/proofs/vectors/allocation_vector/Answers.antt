use Rattle.std.proofs.Common.{◌≡◌, ◌+◌, ◌/◌, ◌∙◌, ap, sym, map, lit<, arith}
use Rattle.std.specs.List.{range_with_len}
use Rattle.std.proofs.lemmas.List.FromFn.{map-range_with_len_more, length-map-range_with_len}
use Rattle.cpm_geom.specs.Geometry.{dpb_of}
use Rattle.cpm_geom.specs.declared.dpb.Dpb.{Dpb}
use Rattle.cpm_directory.proofs.DriveLemmas.{last_block_small}
use Rattle.cpm_drives.specs.Vectors.{allocation_byte, allocation_vector}
use Rattle.cpm_drives.proofs.vectors.allocation_vector.Goals as goal

pub allocation_byte-requires : goal.allocation_byte-requires
allocation_byte-requires c =
    let d : c.dpb.result ≡ dpb_of c.args.format = cc in
    let last = ap (λ (p : Dpb). p.last_block) d in
    omega (arith, last_block_small c.args.format)

pub push-requires : goal.push-requires
push-requires c =
    let d : c.dpb.result ≡ dpb_of c.args.format = cc in
    let last = ap (λ (p : Dpb). p.last_block) d in
    (lit< tt, omega (arith, last_block_small c.args.format, c.loop-place.invariant.1))

pub loop-place-preserved : goal.loop-place-preserved
loop-place-preserved c =
    (c.push.ensures.items ∙ (rw (c.loop-place.invariant.0, c.allocation_byte.ensures) (sym (map-range_with_len_more (allocation_byte (dpb_of c.args.format) c.args.reserved.now) 0 c.loop-place.place c.loop-place.place (omega arith)))), c.push.ensures.len ∙ ap (λ k. k + 1) c.loop-place.invariant.1)

pub returns-clause-value : goal.returns-clause-value
unfolding allocation_vector
returns-clause-value c =
    let d : c.dpb.result ≡ dpb_of c.args.format = cc in
    let last = ap (λ (p : Dpb). p.last_block) d in
    c.loop-place.invariant.0 ∙ ap (λ k. map (allocation_byte (dpb_of c.args.format) c.args.reserved.now) (range_with_len 0 k)) (let e : c.loop-place.place ≡ (dpb_of c.args.format).last_block / 8 + 1 = omega arith in e)

pub returns-clause-size : goal.returns-clause-size
returns-clause-size c =
    let d : c.dpb.result ≡ dpb_of c.args.format = cc in
    let last = ap (λ (p : Dpb). p.last_block) d in
    let size = length-map-range_with_len (allocation_byte (dpb_of c.args.format) c.args.reserved.now) 0 c.loop-place.place in
    rw c.loop-place.invariant.0 (omega (arith, last_block_small c.args.format))
