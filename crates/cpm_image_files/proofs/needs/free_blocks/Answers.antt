use Rattle.std.proofs.Common.{◌≡◌, ◌+◌, length, sym, ap, ◌∙◌, arith}
use Rattle.cpm_geom.specs.Geometry.{dpb_of}
use Rattle.cpm_geom.specs.declared.dpb.Dpb.{Dpb}
use Rattle.cpm_directory.proofs.DriveLemmas.{last_block_small}
use Rattle.cpm_image_files.proofs.FreeLemmas.{login_length, after_length}
use Rattle.cpm_image_files.proofs.needs.free_blocks.Goals as goal

pub count_free-requires-clause-size : goal.count_free-requires-clause-size
count_free-requires-clause-size c =
    let d : c.dpb.result ≡ dpb_of c.args.image.now.format = cc in
    let last = ap (λ (p : Dpb). p.last_block + 1) d in
    ap length c.without_files-reserved.ensures ∙ (after_length _ _ _ _ _ ∙ (ap length c.login.ensures ∙ (login_length _ _ ∙ sym last)))

pub count_free-requires-clause-small : goal.count_free-requires-clause-small
count_free-requires-clause-small c =
    let d : c.dpb.result ≡ dpb_of c.args.image.now.format = cc in
    let last = ap (λ (p : Dpb). p.last_block) d in
    omega (arith, last_block_small c.args.image.now.format)
