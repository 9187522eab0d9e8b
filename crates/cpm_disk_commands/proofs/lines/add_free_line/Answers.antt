use Rattle.std.proofs.Common.{◌∙◌, ◌++◌, ◌-◌, ap, codes, decimal, ℕ}
use Rattle.cpm_geom.specs.Geometry.{dpb_of}
use Rattle.cpm_disk_commands.specs.Listing.{free_line}
use Rattle.cpm_disk_commands.proofs.ListingLemmas.{joined}
use Rattle.cpm_disk_commands.proofs.lines.add_free_line.Goals as goal

pub returns : goal.returns
unfolding free_line
returns c =
    let text = c.args.text.now.items in
    let whole = (dpb_of c.args.format).last_block - 1 in
    let first = c.in_ok-add_digits.ensures ∙ ap (λ (n : ℕ). text ++ decimal n) c.from.ensures in
    let third = c.in_ok-add_digits-2.ensures ∙ ap (λ (n : ℕ). c.extend_from_slice.new.self.items ++ decimal n) c.file_blocks.ensures in
    let to_second = joined text (decimal c.args.free) (codes " of ") first c.in_ok-extend_from_slice.ensures.items in
    let to_third = joined text (decimal c.args.free ++ codes " of ") (decimal whole) to_second third in
    joined text (decimal c.args.free ++ codes " of " ++ decimal whole) (codes " blocks are free\n") to_third c.in_ok-extend_from_slice-2.ensures.items
