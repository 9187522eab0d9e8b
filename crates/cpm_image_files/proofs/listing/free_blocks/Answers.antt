use Rattle.std.proofs.Common.{◌≡◌, ◌+◌, length, not, sym, ap, ◌∙◌, arith}
use Rattle.std.specs.List.{count_by}
use Rattle.cpm_geom.specs.Geometry.{dpb_of}
use Rattle.cpm_geom.specs.declared.dpb.Dpb.{Dpb}
use Rattle.cpm_directory.proofs.DriveLemmas.{last_block_small}
use Rattle.cpm_image_files.specs.Appending.{unreserved}
use Rattle.cpm_image_files.proofs.FreeLemmas.{login_length}
use Rattle.cpm_image_files.proofs.listing.free_blocks.Goals as goal

pub count_free-requires-clause-size : goal.count_free-requires-clause-size
count_free-requires-clause-size c =
    let d : c.dpb.result ≡ dpb_of c.args.image.now.format = cc in
    let last = ap (λ (p : Dpb). p.last_block + 1) d in
    ap length c.login.ensures ∙ (login_length _ _ ∙ sym last)

pub count_free-requires-clause-small : goal.count_free-requires-clause-small
count_free-requires-clause-small c =
    let d : c.dpb.result ≡ dpb_of c.args.image.now.format = cc in
    let last = ap (λ (p : Dpb). p.last_block) d in
    omega (arith, last_block_small c.args.image.now.format)

pub returns : goal.returns
unfolding unreserved
returns c = c.count_free.ensures ∙ ap (count_by not) c.login.ensures
