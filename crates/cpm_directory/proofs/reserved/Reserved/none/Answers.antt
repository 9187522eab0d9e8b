use Rattle.std.proofs.Common.{◌≡◌, ◌+◌, false, ap, arith}
use Rattle.std.proofs.lemmas.List.{take-replicate, length-replicate}
use Rattle.cpm_geom.specs.Geometry.{dpb_of}
use Rattle.cpm_geom.specs.declared.dpb.Dpb.{Dpb}
use Rattle.cpm_directory.proofs.DriveLemmas.{last_block_small}
use Rattle.cpm_directory.proofs.reserved.Reserved.none.Goals as goal

pub invariant_of-result : goal.invariant_of-result
invariant_of-result c =
    let d : c.dpb.result ≡ dpb_of c.args.format = cc in
    let last = ap (λ (p : Dpb). p.last_block) d in
    (rw c.none.ensures (length-replicate 512 false), omega (arith, last_block_small c.args.format))

pub returns : goal.returns
returns c =
    let d : c.dpb.result ≡ dpb_of c.args.format = cc in
    let last = ap (λ (p : Dpb). p.last_block) d in
    let small = last_block_small c.args.format in
    let e : c.from.result + 1 ≡ (dpb_of c.args.format).last_block + 1 = omega arith in
    rw (e, c.none.ensures) (take-replicate ((dpb_of c.args.format).last_block + 1) 512 false (omega arith))
