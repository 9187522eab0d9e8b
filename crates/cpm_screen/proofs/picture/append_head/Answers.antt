use Rattle.cpm_screen.specs.Pictures.{page_head}
use Rattle.cpm_screen.proofs.PictureLemmas.{five_more}
use Rattle.cpm_screen.proofs.picture.append_head.Goals as goal

pub returns : goal.returns
unfolding page_head
returns c =
    five_more _ _ _ _ _ _ _ _ _ _ _ c.in_ok-extend_from_slice.ensures.items c.in_ok-extend_from_slice-2.ensures.items
    c.in_ok-extend_from_slice-3.ensures.items c.in_ok-extend_from_slice-4.ensures.items c.in_ok-extend_from_slice-5.ensures.items
