use Rattle.std.proofs.Common.{◌∙◌}
use Rattle.cpm_host.proofs.AsmListingLemmas.{front_is}
use Rattle.cpm_host.proofs.asm_listing.add_front.Goals as goal

pub returns : goal.returns
returns c =
    front_is c.args.text.now.items c.add_head.new.text.items c.add_bytes.new.text.items c.pad.new.text.items c.args.cells.now c.split_row.result.0.now c.args.places.now c.len-begun.result
    (c.len-begun.ensures ∙ c.args.text.now.ok.0) c.in_ok-add_head.ensures c.in_ok-add_bytes.ensures c.split_row.ensures.row c.in_ok-pad.ensures
